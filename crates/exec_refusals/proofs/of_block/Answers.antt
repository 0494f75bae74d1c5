use mathlib.Core.Path.{sym, ◌∙◌, ap}
use mathlib.Core.Bool.{not}
use native.Mathlib.Omega.{arith}
use borrow.Author.Tests.{eq-eqb, ne_eqb}
use Rattle.refusals.specs.Numbers.{some_number, handed_on}
use Rattle.rules_laws.specs.Acceptance.{there_is}
use Rattle.laws.specs.Cases.{or_yes, or_skip}
use Rattle.exec_refusals.specs.Numbers.{none_such, wrong_length}
use Rattle.exec_refusals.specs.Rows.{none, here, past, ran, ran_out}
use Rattle.exec_refusals.proofs.of_block.Goals as goal

pub returns-in_err-of_run : goal.returns-in_err-of_run
returns-in_err-of_run c =
    rw (handed_on _ _ c.from_residual.ensures.1) (ran_out _ c.args.sound c.args.running _ (some_number _) c.in_err-of_run.ensures)

pub returns-then-no_such : goal.returns-then-no_such
returns-then-no_such c =
    ran none_such c.args.sound c.args.running _ c.in_ok-of_run.ensures
    (here none_such _ _ (sym c.no_such.ensures ∙ c.if-no_such.true))

pub returns-then-area-many : goal.returns-then-area-many
returns-then-area-many c =
    ran wrong_length c.args.sound c.args.running _ c.in_ok-of_run.ensures
    (past _ none_such _ _ (sym c.no_such.ensures ∙ c.if-no_such.false)
    (here wrong_length _ _ (sym (or_yes _ _ (ap not (ne_eqb _ _ c.if-area-many.true))))))

pub words_of-requires : goal.words_of-requires
words_of-requires c = omega (arith, there_is c.args.rig.now.rows c.args.k (sym c.no_such.ensures ∙ c.if-no_such.false))

pub returns-then-buffer-words_of : goal.returns-then-buffer-words_of
returns-then-buffer-words_of c =
    ran wrong_length c.args.sound c.args.running _ c.in_ok-of_run.ensures
    (past _ none_such _ _ (sym c.no_such.ensures ∙ c.if-no_such.false)
    (here wrong_length _ _ (sym (or_skip _ _ (ap not (eq-eqb _ _ c.if-area-many.false))) ∙ ap not (ne_eqb _ _ (λ q. c.if-buffer-words_of.true (q ∙ sym c.words_of.ensures))))))

pub returns : goal.returns
returns c =
    ran 0 c.args.sound c.args.running _ c.in_ok-of_run.ensures
    (past _ none_such _ _ (sym c.no_such.ensures ∙ c.if-no_such.false)
    (past _ wrong_length _ _ (sym (or_skip _ _ (ap not (eq-eqb _ _ c.if-area-many.false))) ∙ ap not (eq-eqb _ _ (c.if-buffer-words_of.false ∙ c.words_of.ensures))) none))
