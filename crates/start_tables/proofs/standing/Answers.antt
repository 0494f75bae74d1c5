use mathlib.Core.Path.{◌≡◌, refl, sym, ◌∙◌, ap}
use mathlib.Core.Bool.{Bool, true, false}
use Prim.Native.Nat.{ℕ}
use native.Mathlib.Omega.{arith}
use lib.ListN.{replicate, set}
use Rattle.std.specs.Int.{from_bool}
use Rattle.laws.specs.Bits.{bit}
use Rattle.laws.specs.Laws.Iter.{iter_zero}
use Rattle.start_tests.specs.Tables.{stands_at, standing_of}
use Rattle.laws.specs.Laws.Stores.{stored_next}
use Rattle.start_tables.proofs.standing.Goals as goal

bit_of : (b : Bool) → from_bool b ≡ bit b
bit_of true = refl
bit_of false = refl

pub loop-i-init : goal.loop-i-init
loop-i-init c = sym (iter_zero _ _)

pub loop-i-preserved : goal.loop-i-preserved
loop-i-preserved c =
    let l = c.loop-i in
    let g = c.args.rig.now in
    let value : ℕ → ℕ = λ k. bit (stands_at g.present g.desired c.args.cond.now k) in
    ap (λ (x : ℕ). set l.table l.i x) (c.from.ensures ∙ bit_of c.stands.result ∙ ap bit c.stands.ensures)
    ∙ stored_next (λ k. true) (λ k. k) value l.i (replicate 1040 0) l.table l.invariant

pub returns : goal.returns
unfolding standing_of
returns c =
    let e : c.loop-i.i ≡ 1040 = omega arith in
    rw e at c.loop-i.invariant
