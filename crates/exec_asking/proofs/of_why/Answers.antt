use mathlib.Core.Path.{sym, ◌∙◌, ap}
use mathlib.Core.Bool.{not}
use Prim.Native.Nat.{ℕ}
use native.Mathlib.Omega.{arith}
use lib.Dec.{eqb}
use borrow.Author.Tests.{eq-eqb, ne_eqb, lt-ltb, le-ltb}
use Rattle.rules.specs.Starting.{most_links}
use Rattle.refusals.specs.Numbers.{some_number, handed_on}
use Rattle.exec_refusals.specs.Numbers.{none_such, wrong_state, too_many_links}
use Rattle.exec_refusals.specs.Rows.{none, here, past, one_out, one_past}
use Rattle.exec_asking.proofs.of_why.Goals as goal

pub returns-in_err-of_asked : goal.returns-in_err-of_asked
returns-in_err-of_asked c =
    rw (handed_on _ _ c.from_residual.ensures.1) (one_out none_such _ c.args.sound _ _ (some_number _) c.in_err-of_asked.ensures)

pub returns-then-look-ne-INACTIVE : goal.returns-then-look-ne-INACTIVE
returns-then-look-ne-INACTIVE c =
    one_past 5 wrong_state c.args.sound _ _ c.in_ok-of_asked.ensures
    (here wrong_state _ _ (ap not (sym (ap (λ (n : ℕ). eqb n 1) c.look.ensures) ∙ ne_eqb c.look.result 1 (λ q. omega (arith, c.if-look-ne-INACTIVE.true, q)))))

pub returns-then-links-gt-MOST_LINKS : goal.returns-then-links-gt-MOST_LINKS
unfolding most_links
returns-then-links-gt-MOST_LINKS c =
    one_past 5 too_many_links c.args.sound _ _ c.in_ok-of_asked.ensures
    (past _ wrong_state _ _ (ap not (sym (ap (λ (n : ℕ). eqb n 1) c.look.ensures) ∙ eq-eqb c.look.result 1 (omega (arith, c.if-look-ne-INACTIVE.false))))
    (here too_many_links _ _ (lt-ltb most_links c.args.links (omega (arith, c.if-links-gt-MOST_LINKS.true)))))

pub returns : goal.returns
unfolding most_links
returns c =
    one_past 5 0 c.args.sound _ _ c.in_ok-of_asked.ensures
    (past _ wrong_state _ _ (ap not (sym (ap (λ (n : ℕ). eqb n 1) c.look.ensures) ∙ eq-eqb c.look.result 1 (omega (arith, c.if-look-ne-INACTIVE.false))))
    (past _ too_many_links _ _ (le-ltb most_links c.args.links (omega (arith, c.if-links-gt-MOST_LINKS.false))) none))
