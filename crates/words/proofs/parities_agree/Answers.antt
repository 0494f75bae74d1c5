-- `parities_agree` compares two numbers that are both the word's parity bit.
use mathlib.Core.Path.{sym, ◌∙◌}
use borrow.Author.Tests.{eq-eqb}
use Rattle.words.proofs.parities_agree.Goals as goal

pub returns : goal.returns
returns c = eq-eqb _ _ (c.parity.ensures ∙ sym c.of_word.ensures)
