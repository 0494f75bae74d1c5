use mathlib.Core.Path.{sym, ◌∙◌, ap}
use mathlib.Core.Bool.{not}
use borrow.Author.Tests.{eq-eqb, ne_eqb}
use Rattle.refusals.specs.Numbers.{some_number, handed_on}
use Rattle.exec_refusals.specs.Numbers.{none_such, not_allowed, wrong_state}
use Rattle.exec_refusals.specs.Rows.{none, here, past, ran, ran_out}
use Rattle.exec_refusals.proofs.of_task.Goals as goal

pub returns-in_err-of_run : goal.returns-in_err-of_run
returns-in_err-of_run c =
    rw (handed_on _ _ c.from_residual.ensures.1) (ran_out _ c.args.sound c.args.running _ (some_number _) c.in_err-of_run.ensures)

pub returns-then-no_such : goal.returns-then-no_such
returns-then-no_such c =
    ran none_such c.args.sound c.args.running _ c.in_ok-of_run.ensures
    (here none_such _ _ (sym c.no_such.ensures ∙ c.if-no_such.true))

pub returns-then-look-running : goal.returns-then-look-running
returns-then-look-running c =
    ran not_allowed c.args.sound c.args.running _ c.in_ok-of_run.ensures
    (past _ none_such _ _ (sym c.no_such.ensures ∙ c.if-no_such.false)
    (here not_allowed _ _ (ap not (ne_eqb _ _ (λ q. c.if-look-running.true (c.look.ensures ∙ q))))))

pub returns-then-wrong : goal.returns-then-wrong
returns-then-wrong c =
    ran wrong_state c.args.sound c.args.running _ c.in_ok-of_run.ensures
    (past _ none_such _ _ (sym c.no_such.ensures ∙ c.if-no_such.false)
    (past _ not_allowed _ _ (ap not (eq-eqb _ _ (sym c.look.ensures ∙ c.if-look-running.false)))
    (here wrong_state _ _ c.if-wrong.true)))

pub returns : goal.returns
returns c =
    ran 0 c.args.sound c.args.running _ c.in_ok-of_run.ensures
    (past _ none_such _ _ (sym c.no_such.ensures ∙ c.if-no_such.false)
    (past _ not_allowed _ _ (ap not (eq-eqb _ _ (sym c.look.ensures ∙ c.if-look-running.false)))
    (past _ wrong_state _ _ c.if-wrong.false none)))
