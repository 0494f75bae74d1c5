use mathlib.Core.Path.{refl, ap}
use native.Mathlib.Omega.{arith}
use lib.ListN.{length}
use Rattle.rig_shapes.specs.Laws.{fields_start, fields_next, fields_end}
use Rattle.rig_shapes.proofs.fields.many.Goals as goal

pub loop-p-init : goal.loop-p-init
loop-p-init c =
    let w = c.find-p.ensures in
    (refl, w.high, omega arith, omega (arith, ap length (fields_start c.args.line.now c.find-p.result w)))

pub loop-p-smaller : goal.loop-p-smaller
loop-p-smaller c =
    let w = c.find-p-in-loop-p.ensures in
    let a = w.low in
    omega arith

pub loop-p-preserved : goal.loop-p-preserved
loop-p-preserved c =
    let l = c.args.line.now in
    let i = c.loop-p in
    let w = c.find-p-in-loop-p.ensures in
    let a = w.low in
    let n = ap length (fields_next l i.p c.find-p-in-loop-p.result (omega arith) w) in
    (i.invariant.0, w.high, omega arith, omega (arith, n))

pub returns : goal.returns
returns c =
    let i = c.loop-p in
    omega (arith, ap length (fields_end c.args.line.now i.p i.invariant.1 (omega arith)))
