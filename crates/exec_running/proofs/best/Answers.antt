use borrow.Author.Rules.{rules}
use mathlib.Core.Path.{◌≡◌, refl, sym, ◌∙◌}
use native.Mathlib.Omega.{arith}
use Rattle.laws.specs.Cases.{if_yes, if_no}
use Rattle.laws.specs.Laws.Iter.{iter_zero, iter_step}
use Rattle.rig_tables.specs.Tests.{at}
use Rattle.rules.specs.Running.{best, best_one}
use Rattle.exec_running.specs.Laws.Tests.{best_compares, best_passes}
use Rattle.exec_running.proofs.best.Goals as goal
use Rattle.exec_running.proofs.best.Goals.{else-state-t-eq-DISPATCHABLE, then-state-t-eq-DISPATCHABLE+else-better, then-state-t-eq-DISPATCHABLE+then-better}

pub loop-i-init : goal.loop-i-init
loop-i-init c = (sym (iter_zero _ _), search rules)

pub loop-i-preserved : goal.loop-i-preserved
loop-i-preserved c =
    let a = c.args in
    let d = c.loop-i in
    let next = iter_step d.i (best_one (at a.rig.now.privileged) (at a.rig.now.priority) a.state.now) 0 d.b d.invariant.0 in
    let compares = best_compares (at a.rig.now.privileged) (at a.rig.now.priority) a.state.now d.i d.b in
    let passes = best_passes (at a.rig.now.privileged) (at a.rig.now.priority) a.state.now d.i d.b in (
      elim c.if-state-t-eq-DISPATCHABLE.branch [ then-state-t-eq-DISPATCHABLE+then-better w ↦ w.b-is ∙ sym (if_yes _ w.if-better.true refl) ∙ compares _ _ _ w.if-state-t-eq-DISPATCHABLE.true w.rank-rb.ensures w.rank-rt.ensures w.better.ensures ∙ next | then-state-t-eq-DISPATCHABLE+else-better w ↦ w.b-is ∙ sym (if_no _ w.if-better.false refl) ∙ compares _ _ _ w.if-state-t-eq-DISPATCHABLE.true w.rank-rb.ensures w.rank-rt.ensures w.better.ensures ∙ next | else-state-t-eq-DISPATCHABLE w ↦ w.b-is ∙ passes w.if-state-t-eq-DISPATCHABLE.false ∙ next ],
      elim c.if-state-t-eq-DISPATCHABLE.branch [ then-state-t-eq-DISPATCHABLE+then-better w ↦ omega (arith, w.b-is) | then-state-t-eq-DISPATCHABLE+else-better w ↦ omega (arith, w.b-is) | else-state-t-eq-DISPATCHABLE w ↦ omega (arith, w.b-is) ],
    )

pub returns : goal.returns
unfolding best
returns c =
    let e : c.loop-i.i ≡ 64 = omega arith in
    (rw e at c.loop-i.invariant.0, search rules)
