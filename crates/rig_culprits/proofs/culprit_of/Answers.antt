use mathlib.Core.Path.{sym, refl, ap, ◌∙◌}
use borrow.Author.Tests.{eq-eqb, ne_eqb}
use Rattle.laws.specs.Cases.{if_yes, if_no}
use Rattle.rig_culprits.specs.Culprits.{culprit_told, culprit_of}
use Rattle.rig_culprits.specs.Laws.{told_none, told_some}
use Rattle.rig_culprits.proofs.culprit_of.Goals as goal

pub returns-in_err-missing_task : goal.returns-in_err-missing_task
unfolding culprit_of
returns-in_err-missing_task c = ap culprit_told c.from_residual.ensures ∙ (told_none 2 _ (sym c.in_err-missing_task.was ∙ c.missing_task.ensures) ∙ sym (if_yes _ (eq-eqb _ _ (c.if-rule-number.true ∙ c.number.ensures)) refl))

pub returns-then-rule-number : goal.returns-then-rule-number
unfolding culprit_of
returns-then-rule-number c = told_some 2 _ _ (sym c.in_ok-missing_task.was ∙ c.missing_task.ensures) ∙ sym (if_yes _ (eq-eqb _ _ (c.if-rule-number.true ∙ c.number.ensures)) refl)

pub returns-in_err-first_guilty : goal.returns-in_err-first_guilty
unfolding culprit_of
returns-in_err-first_guilty c = ap culprit_told c.from_residual-in_err-first_guilty.ensures ∙ (told_none 1 _ (sym c.in_err-first_guilty.was ∙ c.first_guilty.ensures) ∙ sym (if_no _ (ne_eqb _ _ (λ q. c.if-rule-number.false (q ∙ sym c.number.ensures))) refl))

pub returns : goal.returns
unfolding culprit_of
returns c = told_some 1 _ _ (sym c.in_ok-first_guilty.was ∙ c.first_guilty.ensures) ∙ sym (if_no _ (ne_eqb _ _ (λ q. c.if-rule-number.false (q ∙ sym c.number.ensures))) refl)
