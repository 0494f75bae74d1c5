use native.Mathlib.Omega.{arith}
use Rattle.rig_lines.specs.Laws.Turns.{size_on, size_low, size_high, size_end}
use Rattle.rig_line_sizes.proofs.sized.Goals as goal
use Rattle.rig_line_sizes.proofs.sized.Goals.{then-v-j-via-then-v-j, then-v-j-via-else-v-j+then-sizes-j}

pub returns-then-v-j : goal.returns-then-v-j
returns-then-v-j c =
    let s = c.sizes_of-sizes.ensures in
    let i = c.loop-j.invariant in
    let l = s.low c.loop-j.j (omega (arith, c.loop-j-test.true, c.requires)) in
    let h = s.high c.loop-j.j (omega (arith, c.loop-j-test.true, c.requires)) in
    elim c.then-v-j.branch [
      | then-v-j-via-then-v-j w ↦ size_low _ _ _ i.0 _ i.1 c.loop-j-test.true (omega (arith, w.if-v-j.true, l)) _
      | then-v-j-via-else-v-j+then-sizes-j w ↦ size_high _ _ _ i.0 _ i.1 c.loop-j-test.true (omega (arith, w.if-v-j.false, l)) (omega (arith, w.if-sizes-j.true, h)) _
    ]

pub loop-j-preserved : goal.loop-j-preserved
loop-j-preserved c =
    let s = c.sizes_of-sizes.ensures in
    let i = c.loop-j.invariant in
    let l = s.low c.loop-j.j (omega (arith, c.loop-j-test.true, c.requires)) in
    let h = s.high c.loop-j.j (omega (arith, c.loop-j-test.true, c.requires)) in
    (i.0, size_on _ _ _ i.0 _ i.1 c.loop-j-test.true (omega (arith, c.if-v-j.false, l)) (omega (arith, c.if-sizes-j.false, h)))

pub returns : goal.returns
returns c = size_end _ _ _ c.loop-j.invariant.0 _ c.loop-j.invariant.1 c.loop-j-test.false _ _ c.on_time.ensures
