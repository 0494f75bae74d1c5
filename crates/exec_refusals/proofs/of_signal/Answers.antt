use mathlib.Core.Path.{sym, ◌∙◌}
use native.Mathlib.Omega.{arith}
use Rattle.refusals.specs.Numbers.{some_number, handed_on}
use Rattle.rules_laws.specs.Acceptance.{there_is}
use Rattle.laws.specs.Cases.{or_yes, or_skip}
use Rattle.exec_refusals.specs.Numbers.{none_such, not_allowed}
use Rattle.exec_refusals.specs.Rows.{none, here, past, ran, ran_out}
use Rattle.exec_refusals.proofs.of_signal.Goals as goal

pub returns-in_err-of_run : goal.returns-in_err-of_run
returns-in_err-of_run c =
    rw (handed_on _ _ c.from_residual.ensures.1) (ran_out _ c.args.sound c.args.running _ (some_number _) c.in_err-of_run.ensures)

pub returns-then-no_such : goal.returns-then-no_such
returns-then-no_such c =
    ran none_such c.args.sound c.args.running _ c.in_ok-of_run.ensures
    (here none_such _ _ (sym c.no_such.ensures ∙ c.if-no_such.true))

pub overflow_cast-flag-2 : goal.overflow_cast-flag-2
overflow_cast-flag-2 c = omega (arith, there_is c.args.rig.now.flags c.args.flag (sym c.no_such.ensures ∙ c.if-no_such.false))

pub returns-then-is_minor : goal.returns-then-is_minor
returns-then-is_minor c =
    ran not_allowed c.args.sound c.args.running _ c.in_ok-of_run.ensures
    (past _ none_such _ _ (sym c.no_such.ensures ∙ c.if-no_such.false)
    (here not_allowed _ _ (sym (or_yes _ _ (sym c.is_minor.ensures ∙ c.if-is_minor.true)))))

pub overflow_cast-flag-3 : goal.overflow_cast-flag-3
overflow_cast-flag-3 c = omega (arith, there_is c.args.rig.now.flags c.args.flag (sym c.no_such.ensures ∙ c.if-no_such.false))

pub returns-then-is_activation : goal.returns-then-is_activation
returns-then-is_activation c =
    ran not_allowed c.args.sound c.args.running _ c.in_ok-of_run.ensures
    (past _ none_such _ _ (sym c.no_such.ensures ∙ c.if-no_such.false)
    (here not_allowed _ _ (sym (or_skip _ _ (sym c.is_minor.ensures ∙ c.if-is_minor.false)) ∙ sym c.is_activation.ensures ∙ c.if-is_activation.true)))

pub returns : goal.returns
returns c =
    ran 0 c.args.sound c.args.running _ c.in_ok-of_run.ensures
    (past _ none_such _ _ (sym c.no_such.ensures ∙ c.if-no_such.false)
    (past _ not_allowed _ _ (sym (or_skip _ _ (sym c.is_minor.ensures ∙ c.if-is_minor.false)) ∙ sym c.is_activation.ensures ∙ c.if-is_activation.false) none))
