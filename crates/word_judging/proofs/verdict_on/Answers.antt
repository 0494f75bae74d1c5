-- `verdict_on` makes the tests of the definition in its order.
use Rattle.std.proofs.Common.{sym, ◌∙◌, true, false}
use Rattle.word_judging.specs.Laws.Judging.{bad_parity, other_address, no_error}
use Rattle.word_judging.proofs.verdict_on.Goals as goal

pub returns-then-image-of_word : goal.returns-then-image-of_word
returns-then-image-of_word c = bad_parity _ _ (λ e. c.if-image-of_word.true (e ∙ sym c.of_word.ensures))

pub returns-then-s-address : goal.returns-then-s-address
returns-then-s-address c = other_address _ _ (c.if-image-of_word.false ∙ c.of_word.ensures) c.fields-s.ensures c.if-s-address.true

pub returns-then-exception : goal.returns-then-exception
returns-then-exception c =
    no_error _ _ (c.if-image-of_word.false ∙ c.of_word.ensures) c.fields-s.ensures c.if-s-address.false true
    (sym c.exception.ensures ∙ c.if-exception.true)

pub returns : goal.returns
returns c =
    no_error _ _ (c.if-image-of_word.false ∙ c.of_word.ensures) c.fields-s.ensures c.if-s-address.false false
    (sym c.exception.ensures ∙ c.if-exception.false)
