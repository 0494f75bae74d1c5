use mathlib.Core.Path.{sym, refl, ap, ◌∙◌}
use borrow.Author.Tests.{eq-eqb, ne_eqb}
use lib.Dec.{eqb}
use Rattle.laws.specs.Cases.{if_yes, if_no}
use Rattle.text.specs.Split.{part}
use Rattle.rig_build.specs.declared.Answer.{Answer}
use Rattle.rig_culprits.specs.Culprits.{guilty}
use Rattle.rig_culprits.proofs.is_guilty.Goals as goal

pub returns-then-rule-number : goal.returns-then-rule-number
unfolding guilty part
returns-then-rule-number c = c.is_stray.ensures ∙ sym (if_yes _ (eq-eqb _ _ (c.if-rule-number.true ∙ c.number.ensures)) refl)

pub returns-then-rule-number-2 : goal.returns-then-rule-number-2
unfolding guilty part
returns-then-rule-number-2 c = c.is_shared.ensures ∙ sym (if_no _ (ne_eqb _ _ (λ q. c.if-rule-number.false (q ∙ sym c.number.ensures))) (if_yes _ (eq-eqb _ _ (c.if-rule-number-2.true ∙ c.number-2.ensures)) refl))

pub returns-then-rule-number-3 : goal.returns-then-rule-number-3
unfolding guilty part
returns-then-rule-number-3 c = c.is_unused.ensures ∙ sym (if_no _ (ne_eqb _ _ (λ q. c.if-rule-number.false (q ∙ sym c.number.ensures))) (if_no _ (ne_eqb _ _ (λ q. c.if-rule-number-2.false (q ∙ sym c.number-2.ensures))) (if_yes _ (eq-eqb _ _ (c.if-rule-number-3.true ∙ c.number-3.ensures)) refl)))

pub returns : goal.returns
unfolding guilty part
returns c = ap (λ (a : Answer). eqb a.rule c.args.rule) c.read.ensures ∙ sym (if_no _ (ne_eqb _ _ (λ q. c.if-rule-number.false (q ∙ sym c.number.ensures))) (if_no _ (ne_eqb _ _ (λ q. c.if-rule-number-2.false (q ∙ sym c.number-2.ensures))) (if_no _ (ne_eqb _ _ (λ q. c.if-rule-number-3.false (q ∙ sym c.number-3.ensures))) refl)))
