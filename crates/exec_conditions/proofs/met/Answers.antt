use mathlib.Core.Path.{◌≡◌, sym, ◌∙◌}
use borrow.Author.Tests.{not-true, not-false}
use native.Mathlib.Omega.{arith}
use Rattle.laws.specs.Laws.All.{all_zero, all_next, all_not}
use Rattle.rules.specs.Conditions.{met}
use Rattle.exec_conditions.proofs.met.Goals as goal

pub loop-p-init : goal.loop-p-init
loop-p-init c = all_zero _

pub returns-then-not-stands : goal.returns-then-not-stands
unfolding met
returns-then-not-stands c =
    let d = c in
    sym (all_not 16 _ d.loop-p.p c.loop-p-test.true (sym c.stands.ensures ∙ not-true _ c.if-not-stands.true-raw))

pub loop-p-preserved : goal.loop-p-preserved
loop-p-preserved c =
    let d = c in
    all_next _ _ d.loop-p.invariant (sym c.stands.ensures ∙ not-false _ c.if-not-stands.false-raw)

pub returns : goal.returns
unfolding met
returns c =
    let e : c.loop-p.p ≡ 16 = omega arith in
    sym (rw e at c.loop-p.invariant)
