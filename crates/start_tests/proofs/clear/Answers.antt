use mathlib.Core.Path.{◌≡◌, sym, ◌∙◌, ap}
use mathlib.Core.Bool.{Bool}
use borrow.Author.Tests.{eq-eqb, ne_eqb}
use Prim.Native.Nat.{ℕ, ◌+◌, ◌*◌, ◌-◌, ◌<◌}
use native.Mathlib.Omega.{arith}
use lib.Dec.{eqb}
use mathlib.Core.List.{List}
use lib.ListN.{take, drop, get_or}
use Rattle.std.proofs.Common.{get_or-take, get_or-drop}
use Rattle.laws.specs.Laws.All.{passed_none, passed_next, passed_not}
use Rattle.rig_tables.specs.Places.{at}
use Rattle.start_tests.specs.Tables.{clear, clear_at}
use Rattle.start_tests.proofs.clear.Goals as goal
use Rattle.start_tests.proofs.clear.Goals.{else-x-ne1, then-x-ne1}

-- an entry of the task's part of the table
entry : (l : List ℕ) (first n i : ℕ) → i < n → get_or (take n (drop first l)) i 0 ≡ at l (first + i)
entry l first n i h = get_or-take n (drop first l) i 0 h ∙ get_or-drop first l i 0

pub loop-x-init : goal.loop-x-init
loop-x-init c = passed_none _

pub loop-x-preserved : goal.loop-x-preserved
loop-x-preserved c =
    let l = c.loop-x in
    let a = c.args in
    let test : ℕ → Bool = clear_at a.table.now a.t in
    let r = ap (λ (x : ℕ). eqb x 1) (sym (entry a.table.now (16 * a.t) (16 * a.t + 16 - 16 * a.t) l.x-index (omega arith))) in
    elim c.if-x-ne1.branch [
      | then-x-ne1 w ↦ passed_not l.x-index test (r ∙ ne_eqb _ _ w.if-x-ne1.true) w.bad-is
      | else-x-ne1 w ↦ passed_next l.x-index test l.invariant (r ∙ eq-eqb _ _ w.if-x-ne1.false) w.bad-is
    ]

pub returns : goal.returns
unfolding clear
returns c =
    let e : c.loop-x.x-index ≡ 16 = omega arith in
    rw e at c.loop-x.invariant
