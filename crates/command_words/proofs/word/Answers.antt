-- `word` makes the word of fields in their sizes, and refuses all others.
use mathlib.Core.Path.{sym, ◌∙◌}
use Rattle.laws.specs.Laws.Bits.{bit_below}
use Rattle.command_words.specs.Command.{word_of_command, command_report}
use Rattle.command_words.specs.Laws.Command.{in_size}
use Rattle.word_answers.specs.Laws.Answers.{sized_yes, sized_no}
use Rattle.command_words.proofs.word.Goals as goal

pub command-requires : goal.command-requires
command-requires c = let h = in_size c.args.c (sym c.in_size.ensures ∙ c.if-in_size.true) in
    (h.address, bit_below c.args.c.transmit, h.sub)

pub returns-then-in_size : goal.returns-then-in_size
unfolding command_report
returns-then-in_size c = sized_yes (sym c.in_size.ensures ∙ c.if-in_size.true) c.command.ensures

pub returns-else-in_size : goal.returns-else-in_size
unfolding command_report
returns-else-in_size c = sized_no (word_of_command c.args.c) (sym c.in_size.ensures ∙ c.if-in_size.false)
