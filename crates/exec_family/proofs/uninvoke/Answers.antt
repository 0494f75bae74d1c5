use mathlib.Core.Path.{◌≡◌, refl, sym, ◌∙◌}
use native.Mathlib.Omega.{arith}
use Rattle.laws.specs.Cases.{if_yes, if_no}
use Rattle.laws.specs.Laws.Iter.{iter_zero, iter_step}
use borrow.Author.Tests.{eq-eqb, ne_eqb}
use Rattle.rules.specs.Family.{cleared, clear_one}
use Rattle.exec_family.proofs.uninvoke.Goals as goal
use Rattle.exec_family.proofs.uninvoke.Goals.{else-marks-t-eq1, then-marks-t-eq1}

pub loop-i-init : goal.loop-i-init
loop-i-init c = sym (iter_zero _ _)

pub loop-i-preserved : goal.loop-i-preserved
loop-i-preserved c =
    let d = c in
    let a = d.args in
    let next = iter_step d.loop-i.i (clear_one a.marks.now) a.state.now d.loop-i.state d.loop-i.invariant in
    elim c.if-marks-t-eq1.branch [ then-marks-t-eq1 w ↦ w.state-is ∙ sym (if_yes _ (eq-eqb _ _ w.if-marks-t-eq1.true) refl) ∙ next | else-marks-t-eq1 w ↦ w.state-is ∙ sym (if_no _ (ne_eqb _ _ w.if-marks-t-eq1.false) refl) ∙ next ]

pub returns : goal.returns
unfolding cleared
returns c =
    let e : c.loop-i.i ≡ 64 = omega arith in
    rw e at c.loop-i.invariant
