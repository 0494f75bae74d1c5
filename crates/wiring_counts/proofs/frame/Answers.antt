use native.Mathlib.Omega.{arith}
use borrow.Author.Rules.{rules}
use Prim.Native.Nat.{◌<◌}
use lib.ListN.{get_or}
use mathlib.Core.Path.{refl}
use Rattle.wiring_counts.specs.Laws.{summed_none, summed_next, summed_all}
use Rattle.wiring_counts.proofs.frame.Goals as goal

pub loop-n-init : goal.loop-n-init
loop-n-init c = (summed_none _, omega arith)

pub overflow_add-sum : goal.overflow_add-sum
overflow_add-sum c =
    let l = c.loop-n in
    let h : get_or c.args.cycles.now l.n-index 0 < 256 = search rules in
    omega (arith, h, l.invariant.0.small, c.loop-n-test.true)

pub loop-n-preserved : goal.loop-n-preserved
loop-n-preserved c =
    let l = c.loop-n in
    (summed_next _ l.sum l.n-index _ l.invariant.0 refl (search rules), omega (arith, c.loop-n-test.true))

pub returns : goal.returns
returns c =
    let l = c.loop-n in
    summed_all _ l.sum l.n-index l.invariant.0 (omega (arith, l.invariant.1, c.loop-n-test.false))
