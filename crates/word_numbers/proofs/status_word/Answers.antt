-- `status_word` looks at the two fields of one bit, and the fields decide the rest.
use mathlib.Core.Path.{ap, ◌∙◌}
use native.Mathlib.Omega.{arith}
use Rattle.word_numbers.specs.Numbers.{made_of}
use Rattle.word_numbers.proofs.Laws.Numbers.{error_above, failure_above, status_decides}
use Rattle.word_numbers.proofs.status_word.Goals as goal

pub returns-then-error-gt-LAST_OF_ONE : goal.returns-then-error-gt-LAST_OF_ONE
returns-then-error-gt-LAST_OF_ONE c = let a = c.args in
    c.made_of.ensures ∙ ap made_of (error_above a.address a.error a.status a.failure (omega (arith, c.if-error-gt-LAST_OF_ONE.true)))

pub returns-then-failure-gt-LAST_OF_ONE : goal.returns-then-failure-gt-LAST_OF_ONE
returns-then-failure-gt-LAST_OF_ONE c = let a = c.args in
    c.made_of-then-failure-gt-LAST_OF_ONE.ensures ∙ ap made_of (failure_above a.address a.error a.status a.failure (omega (arith, c.if-failure-gt-LAST_OF_ONE.true)))

pub returns : goal.returns
returns c = let a = c.args in
    c.made_of-2.ensures
    ∙ ap made_of (c.word.ensures
    ∙ status_decides a.address a.error a.status a.failure (omega (arith, c.if-error-gt-LAST_OF_ONE.false)) (omega (arith, c.if-failure-gt-LAST_OF_ONE.false)))
