use mathlib.Core.Path.{◌≡◌, sym, ◌∙◌}
use Prim.Native.Nat.{ℕ}
use native.Mathlib.Omega.{arith}
use Rattle.laws.specs.Laws.Iter.{iter_zero}
use Rattle.rules.specs.Rig.{place_of}
use Rattle.rules.specs.Conditions.{drive}
use Rattle.exec_conditions.specs.Lines.{past, marked}
use Rattle.exec_conditions.specs.Laws.Driving.{stored_line, stored_other}
use Rattle.exec_conditions.proofs.drive_from.Goals as goal
use Rattle.exec_conditions.proofs.drive_from.Goals.{else-rig-l, then-rig-l}

pub loop-i-init : goal.loop-i-init
loop-i-init c = (sym (iter_zero _ _), sym (iter_zero _ _))

pub loop-i-preserved : goal.loop-i-preserved
loop-i-preserved c =
    let d = c in
    let a = c.args in
    let flag : ℕ → ℕ = past a.k a.rig.now.line_flag in
    let task : ℕ → ℕ = past a.k a.rig.now.line_task in
    let place : ℕ → ℕ = λ l. place_of (task l) (past a.k a.rig.now.line_pos l) in (
      elim c.if-rig-l.branch [ then-rig-l w ↦ w.cond-is ∙ stored_line flag a.f place (λ l. a.v) d.loop-i.i a.cond.now d.loop-i.cond d.loop-i.invariant.0 w.if-rig-l.true | else-rig-l w ↦ w.cond-is ∙ stored_other flag a.f place (λ l. a.v) d.loop-i.i a.cond.now d.loop-i.cond d.loop-i.invariant.0 w.if-rig-l.false ],
      elim c.if-rig-l.branch [ then-rig-l w ↦ w.named-is ∙ stored_line flag a.f task (λ l. 1) d.loop-i.i a.named.now d.loop-i.named d.loop-i.invariant.1 w.if-rig-l.true | else-rig-l w ↦ w.named-is ∙ stored_other flag a.f task (λ l. 1) d.loop-i.i a.named.now d.loop-i.named d.loop-i.invariant.1 w.if-rig-l.false ],
    )

pub returns : goal.returns
unfolding drive marked
returns c =
    let e : c.loop-i.i ≡ c.args.m = omega arith in
    (rw e at c.loop-i.invariant.0, rw e at c.loop-i.invariant.1)
