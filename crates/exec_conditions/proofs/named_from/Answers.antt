use borrow.Author.Tests.{eq-eqb, ne_eqb}
use mathlib.Core.Path.{sym, ◌∙◌}
use Prim.Native.Nat.{ℕ}
use native.Mathlib.Omega.{arith}
use lib.Dec.{eqb}
use Rattle.laws.specs.Laws.Any.{any_zero, any_at, any_skip}
use Rattle.exec_conditions.specs.Lines.{past}
use Rattle.exec_conditions.proofs.named_from.Goals as goal
use Rattle.exec_conditions.proofs.named_from.Goals.{else-line_flag-k, then-line_flag-k}

pub loop-i-init : goal.loop-i-init
loop-i-init c = sym (any_zero _)

pub loop-i-preserved : goal.loop-i-preserved
loop-i-preserved c =
    let d = c in
    let a = c.args in
    elim c.if-line_flag-k.branch [ then-line_flag-k w ↦ rw w.found-is (sym (any_at _ (λ (l : ℕ). eqb (past a.k a.line_flag.now l) a.f) d.loop-i.i (omega arith) (eq-eqb _ _ w.if-line_flag-k.true))) | else-line_flag-k w ↦ rw w.found-is (d.loop-i.invariant ∙ any_skip d.loop-i.i (λ (l : ℕ). eqb (past a.k a.line_flag.now l) a.f) (ne_eqb _ _ w.if-line_flag-k.false)) ]
