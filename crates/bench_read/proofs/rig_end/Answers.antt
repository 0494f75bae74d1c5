use borrow.Author.Rules.{rules}
use mathlib.Core.Path.{sym, ◌∙◌}
use Prim.Native.Nat.{◌-◌, ◌<◌}
use native.Mathlib.Omega.{arith}
use lib.ListN.{length}
use Rattle.text.specs.Split.{part}
use Rattle.bench_script.specs.Laws.Input.{left_start, left_last, left_run, left_next, left_none}
use Rattle.bench_read.proofs.rig_end.Goals as goal

pub loop-i-init : goal.loop-i-init
loop-i-init c = (left_start c.args.input.now, omega arith)

pub returns-then-e-n : goal.returns-then-e-n
returns-then-e-n c =
    let s = c.args.input.now in
    let l = c.loop-i in
    left_last s l.i l.invariant.1 l.invariant.0 c.line_of-e.result (c.line_of-e.ensures.0 l.invariant.1) c.if-e-n.true

pub slice_bounds-is_run-count : goal.slice_bounds-is_run-count
slice_bounds-is_run-count c =
    let f = c.line_of-e.ensures.0 c.loop-i.invariant.1 in
    let a = f.low in
    omega arith

pub slice_bounds-is_run-start : goal.slice_bounds-is_run-start
slice_bounds-is_run-start c =
    let f = c.line_of-e.ensures.0 c.loop-i.invariant.1 in
    let a = f.low in
    omega arith

pub slice_bounds-is_run-end : goal.slice_bounds-is_run-end
slice_bounds-is_run-end c =
    let f = c.line_of-e.ensures.0 c.loop-i.invariant.1 in
    let a = f.high in
    omega arith

pub returns-then-is_run : goal.returns-then-is_run
unfolding part
returns-then-is_run c =
    let s = c.args.input.now in
    let l = c.loop-i in
    let e = c.line_of-e in
    let f = e.ensures.0 l.invariant.1 in
    let h = f.high in
    let n = c.if-e-n.false in
    left_run s l.i l.invariant.1 l.invariant.0 e.result f (omega (arith, h, n)) (sym c.is_run.ensures ∙ c.if-is_run.true)

pub overflow_add-i : goal.overflow_add-i
overflow_add-i c =
    let f = c.line_of-e.ensures.0 c.loop-i.invariant.1 in
    let a = f.high in
    let n = c.if-e-n.false in
    let k : c.line_of-e.result < length c.args.input.now = omega (arith, a, n) in
    search rules

pub loop-i-smaller : goal.loop-i-smaller
loop-i-smaller c =
    let f = c.line_of-e.ensures.0 c.loop-i.invariant.1 in
    let a = f.low in
    let b = f.high in
    omega (arith, a, b, c.if-e-n.false, c.loop-i-test.true)

pub loop-i-preserved : goal.loop-i-preserved
unfolding part
loop-i-preserved c =
    let s = c.args.input.now in
    let l = c.loop-i in
    let e = c.line_of-e in
    let f = e.ensures.0 l.invariant.1 in
    let h = f.high in
    let n = c.if-e-n.false in
    (left_next s l.i l.invariant.1 l.invariant.0 e.result f (omega (arith, h, n)) (sym c.is_run.ensures ∙ c.if-is_run.false), omega (arith, h, n))

pub returns : goal.returns
returns c =
    let l = c.loop-i in
    left_none c.args.input.now l.i l.invariant.1 c.loop-i-test.false l.invariant.0
