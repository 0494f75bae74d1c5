use Prim.Native.Nat.{ℕ}
use mathlib.Core.Path.{◌∙◌, ap}
use native.Mathlib.Omega.{arith}
use native.Mathlib.Nat.{le_antisymm}
use borrow.Author.Tests.{eq-eqb, ne_eqb}
use Rattle.rig_saying.specs.Saying.{count_to, has_condition, condition_count}
use Rattle.rig_saying.specs.Laws.{count_none, count_one, count_skip}
use Rattle.rig_saying.proofs.counts.conditions_of.Goals as goal
use Rattle.rig_saying.proofs.counts.conditions_of.Goals.{else-p-eq1, then-p-eq1}

pub loop-p-init : goal.loop-p-init
loop-p-init c = (omega arith, omega arith, count_none _)

pub loop-p-preserved : goal.loop-p-preserved
loop-p-preserved c =
    let g = c.args.g.now in
    let l = c.loop-p in
    elim c.if-p-eq1.branch [ then-p-eq1 w ↦ (omega arith, omega arith, w.n-is ∙ count_one l.p-index l.n (has_condition g) l.invariant.2 (eq-eqb _ _ w.if-p-eq1.true)) | else-p-eq1 w ↦ (omega arith, omega arith, w.n-is ∙ count_skip l.p-index l.n (has_condition g) l.invariant.2 (ne_eqb _ _ w.if-p-eq1.false)) ]

pub returns : goal.returns
unfolding condition_count
returns c =
    let g = c.args.g.now in
    let l = c.loop-p in
    l.invariant.2 ∙ ap (λ (k : ℕ). count_to k (has_condition g)) (le_antisymm l.invariant.0 c.loop-p-test.false)
