use mathlib.Core.Path.{refl, sym, ap, ◌∙◌}
use native.Mathlib.Omega.{arith}
use Rattle.text.specs.Split.{part}
use Rattle.laws.specs.Cases.{or_yes, or_skip}
use Rattle.rig_shapes.specs.Shape.{spares}
use Rattle.rig_shapes.specs.Laws.{fields_from, fields_start, fields_next, fields_end}
use Rattle.rig_shapes.proofs.fields.has_spare_zero.Goals as goal

pub loop-p-init : goal.loop-p-init
loop-p-init c =
    let w = c.find-p.ensures in
    (refl, w.high, ap spares (fields_start c.args.line.now c.find-p.result w))

pub find-b-requires : goal.find-b-requires
find-b-requires c = (omega arith, omega arith)

pub slice_bounds-is_spare-count : goal.slice_bounds-is_spare-count
slice_bounds-is_spare-count c =
    let w = c.find-b.ensures in
    let a = w.low in
    omega arith

pub slice_bounds-is_spare-start : goal.slice_bounds-is_spare-start
slice_bounds-is_spare-start c =
    let w = c.find-b.ensures in
    let a = w.low in
    omega arith

pub slice_bounds-is_spare-end : goal.slice_bounds-is_spare-end
slice_bounds-is_spare-end c =
    let w = c.find-b.ensures in
    let a = w.high in
    omega arith

pub returns-then-is_spare : goal.returns-then-is_spare
unfolding part spares
returns-then-is_spare c =
    let l = c.args.line.now in
    let i = c.loop-p in
    let w = c.find-b in
    let e = fields_next l i.p w.result (omega arith) w.ensures in
    or_yes _ (spares (fields_from l w.result)) (sym c.is_spare.ensures ∙ c.if-is_spare.true) ∙ (sym (ap spares e) ∙ i.invariant.2)

pub loop-p-smaller : goal.loop-p-smaller
loop-p-smaller c =
    let w = c.find-b.ensures in
    let a = w.low in
    omega arith

pub loop-p-preserved : goal.loop-p-preserved
unfolding part spares
loop-p-preserved c =
    let l = c.args.line.now in
    let i = c.loop-p in
    let w = c.find-b in
    let e = fields_next l i.p w.result (omega arith) w.ensures in
    (i.invariant.0, w.ensures.high, or_skip _ (spares (fields_from l w.result)) (sym c.is_spare.ensures ∙ c.if-is_spare.false) ∙ (sym (ap spares e) ∙ i.invariant.2))

pub returns : goal.returns
unfolding spares
returns c =
    let l = c.args.line.now in
    let i = c.loop-p in
    sym (ap spares (fields_end l i.p i.invariant.1 (omega arith))) ∙ i.invariant.2
