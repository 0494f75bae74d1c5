use mathlib.Core.Path.{refl, ◌∙◌}
use native.Mathlib.Omega.{arith}
use Rattle.text.specs.Split.{part}
use Rattle.rig_shapes.specs.Laws.{nums_start, nums_here, nums_next, nums_end}
use Rattle.rig_shapes.proofs.fields.number.Goals as goal

pub loop-p-init : goal.loop-p-init
loop-p-init c =
    let w = c.find-p.ensures in
    (refl, w.high, nums_start c.args.line.now c.find-p.result w c.args.j)

pub find-b-requires : goal.find-b-requires
find-b-requires c = (omega arith, omega arith)

pub slice_bounds-number_in-count : goal.slice_bounds-number_in-count
slice_bounds-number_in-count c =
    let w = c.find-b.ensures in
    let a = w.low in
    omega arith

pub slice_bounds-number_in-start : goal.slice_bounds-number_in-start
slice_bounds-number_in-start c =
    let w = c.find-b.ensures in
    let a = w.low in
    omega arith

pub slice_bounds-number_in-end : goal.slice_bounds-number_in-end
slice_bounds-number_in-end c =
    let w = c.find-b.ensures in
    let a = w.high in
    omega arith

pub returns-then-left-eq0 : goal.returns-then-left-eq0
unfolding part
returns-then-left-eq0 c =
    let l = c.args.line.now in
    let i = c.loop-p in
    let w = c.find-b in
    c.number_in.ensures ∙ (nums_here l i.p w.result i.left (omega arith) w.ensures (omega arith) ∙ i.invariant.2)

pub loop-p-smaller : goal.loop-p-smaller
loop-p-smaller c =
    let w = c.find-b.ensures in
    let a = w.low in
    omega arith

pub loop-p-preserved : goal.loop-p-preserved
loop-p-preserved c =
    let l = c.args.line.now in
    let i = c.loop-p in
    let w = c.find-b in
    (i.invariant.0, w.ensures.high, nums_next l i.p w.result i.left (omega arith) w.ensures (omega arith) ∙ i.invariant.2)

pub returns : goal.returns
returns c =
    let i = c.loop-p in
    nums_end c.args.line.now i.p i.left i.invariant.1 (omega arith) ∙ i.invariant.2
