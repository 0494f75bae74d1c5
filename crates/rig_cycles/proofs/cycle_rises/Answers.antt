use borrow.Author.Rules.{rules}
use mathlib.Core.Path.{◌≡◌, refl, sym, ◌∙◌, ap}
use mathlib.Core.Bool.{Bool, ◌&&◌}
use borrow.Author.Tests.{eq-eqb}
use Prim.Native.Nat.{ℕ}
use native.Mathlib.Omega.{arith}
use lib.Dec.{eqb}
use lib.ListN.{length}
use Rattle.laws.specs.All.{all}
use Rattle.laws.specs.Laws.All.{passed_none}
use Rattle.laws.specs.Faults.{or_next, bit_passes}
use Rattle.rig_tables.specs.Tests.{flag_rises, cycle_rises}
use Rattle.rig_cycles.proofs.cycle_rises.Goals as goal

pub loop-i-init : goal.loop-i-init
loop-i-init c = (passed_none _, search rules)

pub loop-i-preserved : goal.loop-i-preserved
loop-i-preserved c =
    let s = c.args in
    let l = c.loop-i in
    let test = flag_rises s.flags.now in
    (or_next l.faults l.i test c.fault-faults.result l.invariant.0 (bit_passes (test l.i) ∙ ap (λ (x : ℕ). eqb x 0) (sym c.fault-faults.ensures)) refl, search rules)

pub returns : goal.returns
unfolding cycle_rises
returns c =
    let flags = c.args.flags.now in
    let long : length flags ≡ 15 = search rules in
    let e : c.loop-i.i ≡ 14 = omega arith in
    (rw e at c.loop-i.invariant.0) ∙ sym (ap (λ (b : Bool). b && all 14 (flag_rises flags)) (eq-eqb (length flags) 15 long))
