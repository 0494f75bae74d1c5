-- `word` makes the word of fields in their sizes, and refuses all others.
use Rattle.std.proofs.Common.{sym, ◌∙◌}
use Rattle.laws.specs.Laws.Bits.{bit_below}
use Rattle.status_words.specs.Status.{word_of_status, status_report}
use Rattle.status_words.specs.Laws.Status.{in_size}
use Rattle.word_answers.specs.Laws.Answers.{sized_yes, sized_no}
use Rattle.status_words.proofs.word.Goals as goal

pub status-requires : goal.status-requires
status-requires c =
    let s = c.args.s in
    let h = in_size s (sym c.in_size.ensures ∙ c.if-in_size.true) in
    (h.address, bit_below s.error, h.status, bit_below s.failure)

pub returns-then-in_size : goal.returns-then-in_size
unfolding status_report
returns-then-in_size c = sized_yes (sym c.in_size.ensures ∙ c.if-in_size.true) c.status.ensures

pub returns-else-in_size : goal.returns-else-in_size
unfolding status_report
returns-else-in_size c = sized_no (word_of_status c.args.s) (sym c.in_size.ensures ∙ c.if-in_size.false)
