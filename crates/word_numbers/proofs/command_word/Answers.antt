-- `command_word` looks at the field of one bit, and the fields decide the rest.
use mathlib.Core.Path.{ap, ◌∙◌}
use native.Mathlib.Omega.{arith}
use Rattle.word_numbers.specs.Numbers.{made_of}
use Rattle.word_numbers.proofs.Laws.Numbers.{transmit_above, command_decides}
use Rattle.word_numbers.proofs.command_word.Goals as goal

pub returns-then-transmit-gt-LAST_OF_ONE : goal.returns-then-transmit-gt-LAST_OF_ONE
returns-then-transmit-gt-LAST_OF_ONE c = let a = c.args in
    c.made_of.ensures ∙ ap made_of (transmit_above a.address a.transmit a.sub a.last (omega (arith, c.if-transmit-gt-LAST_OF_ONE.true)))

pub returns : goal.returns
returns c = let a = c.args in
    c.made_of-2.ensures
    ∙ ap made_of (c.word.ensures ∙ command_decides a.address a.transmit a.sub a.last (omega (arith, c.if-transmit-gt-LAST_OF_ONE.false)))
