use Prim.Native.Nat.{◌/◌}
use lib.ListN.{get_or}
use lib.Dec.{eqb}
use native.Mathlib.Omega.{arith}
use Rattle.laws.specs.Laws.Bits.{bit_le}
use Rattle.wiring_counts.specs.Laws.{counted_none, counted_next, counted_all}
use Rattle.wiring_counts.proofs.commands_to.Goals as goal

pub loop-word-init : goal.loop-word-init
loop-word-init c = (counted_none _ _, omega arith, omega arith)

pub overflow_add-n : goal.overflow_add-n
overflow_add-n c =
    let b = eqb (get_or c.args.words.now c.loop-word.word-index 0 / 2048) c.args.address in
    omega (arith, c.from-n.ensures, bit_le b, c.loop-word.invariant.1, c.loop-word-test.true, c.requires)

pub loop-word-preserved : goal.loop-word-preserved
loop-word-preserved c =
    let e = c.from-n.ensures in
    let b = eqb (get_or c.args.words.now c.loop-word.word-index 0 / 2048) c.args.address in
    let l = c.loop-word in
    let a = c.args in
    (rw e (counted_next a.address a.words.now l.n l.word-index c.loop-word-test.true l.invariant.0), omega (arith, e, bit_le b, l.invariant.1), omega (arith, c.loop-word-test.true))

pub returns : goal.returns
returns c = counted_all _ _ _ _ c.loop-word-test.false c.loop-word.invariant.0
