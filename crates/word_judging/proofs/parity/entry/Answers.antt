-- `entry` reads a table that follows the rule, so what it reads is what the rule says there.
use Rattle.std.proofs.Common.{rules}
use Rattle.laws.specs.Laws.Tables.{follows_at}
use Rattle.word_parts.specs.Parity.{parity_bit}
use Rattle.word_judging.proofs.parity.entry.Goals as goal

pub returns : goal.returns
returns c = follows_at 256 parity_bit c.args.table.now c.requires c.args.byte (search rules)
