use mathlib.Core.Path.{◌≡◌, sym, ◌∙◌}
use mathlib.Core.Bool.{Bool, ◌&&◌}
use borrow.Author.Tests.{eq-eqb, ne_eqb}
use Prim.Native.Nat.{ℕ}
use native.Mathlib.Omega.{arith}
use lib.Dec.{eqb}
use lib.ListN.{replicate}
use Rattle.laws.specs.Cases.{and_go, and_stop}
use Rattle.laws.specs.Laws.Iter.{iter_zero}
use Rattle.laws.specs.Laws.Stores.{stored_yes, stored_no}
use Rattle.rig_tables.specs.Places.{at}
use Rattle.start_tests.specs.Tables.{clear, able_in}
use Rattle.start_tables.proofs.able.Goals as goal
use Rattle.start_tables.proofs.able.Goals.{then-state-t-eq-INACTIVE+then-clear, else-state-t-eq-INACTIVE, else-state-t-eq-INACTIVE-via-then-state-t-eq-INACTIVE+else-clear, else-state-t-eq-INACTIVE-via-else-state-t-eq-INACTIVE}

pub loop-t-init : goal.loop-t-init
loop-t-init c = sym (iter_zero _ _)

pub loop-t-preserved : goal.loop-t-preserved
loop-t-preserved c =
    let l = c.loop-t in
    let a = c.args in
    let test : ℕ → Bool = λ i. eqb (at a.state.now i) 1 && clear a.table.now i in
    let made = stored_yes test (λ i. i) (λ i. 1) l.t (replicate 65 0) l.can l.invariant in
    let left = stored_no test (λ i. i) (λ i. 1) l.t (replicate 65 0) l.can l.invariant in
    elim c.if-state-t-eq-INACTIVE.branch [
      | then-state-t-eq-INACTIVE+then-clear w ↦
          w.can-is ∙ made (and_go (eq-eqb _ _ w.if-state-t-eq-INACTIVE.true) (sym w.clear.ensures ∙ w.if-clear.true))
      | else-state-t-eq-INACTIVE w ↦ w.can-is
          ∙ left
          (elim w.else-state-t-eq-INACTIVE.branch [
            | else-state-t-eq-INACTIVE-via-then-state-t-eq-INACTIVE+else-clear v ↦
                and_go (eq-eqb _ _ v.if-state-t-eq-INACTIVE.true) (sym v.clear.ensures ∙ v.if-clear.false)
            | else-state-t-eq-INACTIVE-via-else-state-t-eq-INACTIVE v ↦ and_stop _ (ne_eqb _ _ v.if-state-t-eq-INACTIVE.false)
          ])
    ]

pub returns : goal.returns
unfolding able_in
returns c =
    let e : c.loop-t.t ≡ 65 = omega arith in
    rw e at c.loop-t.invariant
