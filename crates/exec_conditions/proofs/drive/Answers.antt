use borrow.Author.Rules.{rules}
use mathlib.Core.Path.{◌≡◌, sym, ◌∙◌, ap}
use Prim.Native.Nat.{ℕ, ◌+◌, ◌-◌}
use native.Mathlib.Omega.{arith}
use Rattle.rig_tables.specs.Tests.{at}
use Rattle.rules.specs.Rig.{place_of}
use Rattle.rules.specs.Conditions.{drive}
use Rattle.laws.specs.Laws.Iter.{iter_zero}
use Rattle.exec_conditions.specs.Lines.{marked}
use Rattle.exec_conditions.specs.Laws.Driving.{stored, stored_more, stored_pass}
use Rattle.exec_conditions.proofs.drive.Goals as goal
use Rattle.exec_conditions.proofs.drive.Goals.{else-named_from, then-named_from}

pub loop-k-init : goal.loop-k-init
loop-k-init c = (sym (iter_zero _ _), sym (iter_zero _ _), search rules)

pub loop-k-preserved : goal.loop-k-preserved
unfolding drive marked
loop-k-preserved c =
    let d = c in
    let a = c.args in
    let flag : ℕ → ℕ = at a.rig.now.line_flag in
    let task : ℕ → ℕ = at a.rig.now.line_task in
    let place : ℕ → ℕ = λ l. place_of (task l) (at a.rig.now.line_pos l) in
    let none = c.named_from.ensures in (
      elim c.if-named_from.branch [ then-named_from w ↦ w.cond-is ∙ w.drive_from.ensures.0 ∙ stored_more flag a.f place (λ l. a.v) d.loop-k.k 16 a.cond.now d.loop-k.cond d.loop-k.invariant.0 | else-named_from w ↦ w.cond-is ∙ stored_pass flag a.f place (λ l. a.v) d.loop-k.k 16 a.cond.now d.loop-k.cond d.loop-k.invariant.0 (sym none ∙ w.if-named_from.false) ],
      elim c.if-named_from.branch [ then-named_from w ↦ w.named-is ∙ w.drive_from.ensures.1 ∙ stored_more flag a.f task (λ l. 1) d.loop-k.k 16 a.named.now d.loop-k.named d.loop-k.invariant.1 | else-named_from w ↦ w.named-is ∙ stored_pass flag a.f task (λ l. 1) d.loop-k.k 16 a.named.now d.loop-k.named d.loop-k.invariant.1 (sym none ∙ w.if-named_from.false) ],
      search rules,
    )

pub returns : goal.returns
unfolding drive marked
returns c =
    let d = c in
    let a = c.args in
    let flag : ℕ → ℕ = at a.rig.now.line_flag in
    let task : ℕ → ℕ = at a.rig.now.line_task in
    let place : ℕ → ℕ = λ l. place_of (task l) (at a.rig.now.line_pos l) in
    let rest : ℕ = a.rig.now.lines - d.loop-k.k in
    let e : d.loop-k.k + rest ≡ a.rig.now.lines = omega arith in (
      c.drive_from-2.ensures.0
          ∙ stored_more flag a.f place (λ l. a.v) d.loop-k.k rest a.cond.now d.loop-k.cond d.loop-k.invariant.0
          ∙ ap (λ (m : ℕ). stored flag a.f place (λ l. a.v) m a.cond.now) e,
      c.drive_from-2.ensures.1
          ∙ stored_more flag a.f task (λ l. 1) d.loop-k.k rest a.named.now d.loop-k.named d.loop-k.invariant.1
          ∙ ap (λ (m : ℕ). stored flag a.f task (λ l. 1) m a.named.now) e,
    )
