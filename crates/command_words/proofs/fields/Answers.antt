-- `fields` cuts the word where the definition does.
use Rattle.command_words.specs.Command.{command_fields}
use Rattle.command_words.proofs.fields.Goals as goal

pub returns : goal.returns
unfolding command_fields
returns c = rw c.last_of.ensures
