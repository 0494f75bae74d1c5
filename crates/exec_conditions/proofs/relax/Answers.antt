use mathlib.Core.Path.{◌≡◌, refl, sym, ◌∙◌, ap}
use Prim.Native.Nat.{ℕ, ◌+◌, ◌*◌}
use native.Mathlib.Omega.{arith}
use Rattle.laws.specs.Cases.{if_yes, if_no}
use Rattle.laws.specs.Laws.Iter.{iter_zero, iter_step}
use Rattle.rig_tables.specs.Tests.{at}
use Rattle.rules.specs.Conditions.{relax, relax_one}
use lib.ListN.{set}
use Rattle.exec_conditions.proofs.relax.Goals as goal
use Rattle.exec_conditions.proofs.relax.Goals.{else-loose, then-loose}

pub loop-p-init : goal.loop-p-init
loop-p-init c = sym (iter_zero _ _)

pub loop-p-preserved : goal.loop-p-preserved
loop-p-preserved c =
    let d = c in
    let a = d.args in
    let next = iter_step d.loop-p.p (relax_one (at a.rig.now.present) (at a.rig.now.latched) (at a.rig.now.desired) a.t) a.cond.now d.loop-p.cond d.loop-p.invariant in
    elim c.if-loose.branch [
      | then-loose w ↦ w.cond-is ∙ ap (λ (x : ℕ). set d.loop-p.cond (16 * a.t + d.loop-p.p) x) w.undesired.ensures
          ∙ sym (if_yes _ (sym c.loose.ensures ∙ w.if-loose.true) refl) ∙ next
      | else-loose w ↦ w.cond-is ∙ sym (if_no _ (sym c.loose.ensures ∙ w.if-loose.false) refl) ∙ next
    ]

pub returns : goal.returns
unfolding relax
returns c =
    let e : c.loop-p.p ≡ 16 = omega arith in
    rw e at c.loop-p.invariant
