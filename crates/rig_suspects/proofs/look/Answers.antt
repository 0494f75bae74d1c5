use borrow.Author.Rules.{rules}
use Prim.Native.Nat.{◌<◌}
use mathlib.Core.Path.{refl, sym, ◌∙◌}
use native.Mathlib.Omega.{arith}
use lib.ListN.{length}
use Rattle.text.specs.Split.{part}
use Rattle.rig_suspects.specs.Suspects.{key_of}
use Rattle.rig_suspects.specs.Laws.{look_here, look_on, look_end, look_none}
use Rattle.rig_suspects.proofs.look.Goals as goal

pub loop-at-init : goal.loop-at-init
loop-at-init c = (refl, c.requires, refl)

pub returns-then-e-n : goal.returns-then-e-n
returns-then-e-n c =
    let i = c.loop-at in
    let e = c.line_of-e in
    look_end (key_of c.args.key) c.args.m c.args.s.now i.at e.result (e.ensures.0 i.invariant.1) (omega arith) ∙ i.invariant.2

pub slice_bounds-fits-count : goal.slice_bounds-fits-count
slice_bounds-fits-count c =
    let f = c.line_of-e.ensures.0 c.loop-at.invariant.1 in
    let a = f.low in
    omega arith

pub slice_bounds-fits-start : goal.slice_bounds-fits-start
slice_bounds-fits-start c =
    let f = c.line_of-e.ensures.0 c.loop-at.invariant.1 in
    let a = f.low in
    omega arith

pub slice_bounds-fits-end : goal.slice_bounds-fits-end
slice_bounds-fits-end c =
    let f = c.line_of-e.ensures.0 c.loop-at.invariant.1 in
    let a = f.high in
    omega arith

pub slice_bounds-number-count : goal.slice_bounds-number-count
slice_bounds-number-count c =
    let f = c.line_of-e.ensures.0 c.loop-at.invariant.1 in
    let a = f.low in
    omega arith

pub slice_bounds-number-start : goal.slice_bounds-number-start
slice_bounds-number-start c =
    let f = c.line_of-e.ensures.0 c.loop-at.invariant.1 in
    let a = f.low in
    omega arith

pub slice_bounds-number-end : goal.slice_bounds-number-end
slice_bounds-number-end c =
    let f = c.line_of-e.ensures.0 c.loop-at.invariant.1 in
    let a = f.high in
    omega arith

pub returns-then-fits : goal.returns-then-fits
unfolding part
returns-then-fits c =
    let s = c.args.s.now in
    let i = c.loop-at in
    let e = c.line_of-e in
    let f = e.ensures.0 i.invariant.1 in
    let a = f.high in
    let k : e.result < length s = omega (arith, a, c.if-e-n.false, i.invariant.0) in
    c.number.ensures ∙ (look_here (key_of c.args.key) c.args.m s i.at e.result f k (sym c.fits.ensures ∙ c.if-fits.true) ∙ i.invariant.2)

pub overflow_add-at : goal.overflow_add-at
overflow_add-at c =
    let f = c.line_of-e.ensures.0 c.loop-at.invariant.1 in
    let a = f.high in
    let k : c.line_of-e.result < length c.args.s.now = omega (arith, a, c.if-e-n.false, c.loop-at.invariant.0) in
    search rules

pub loop-at-smaller : goal.loop-at-smaller
loop-at-smaller c =
    let f = c.line_of-e.ensures.0 c.loop-at.invariant.1 in
    let a = f.low in
    let b = f.high in
    omega (arith, a, b, c.if-e-n.false, c.loop-at.invariant.0, c.loop-at-test.true)

pub loop-at-preserved : goal.loop-at-preserved
unfolding part
loop-at-preserved c =
    let s = c.args.s.now in
    let i = c.loop-at in
    let e = c.line_of-e in
    let f = e.ensures.0 i.invariant.1 in
    let a = f.high in
    let k : e.result < length s = omega (arith, a, c.if-e-n.false, i.invariant.0) in
    (i.invariant.0, omega (arith, k), look_on (key_of c.args.key) c.args.m s i.at e.result f k (sym c.fits.ensures ∙ c.if-fits.false) ∙ i.invariant.2)

pub returns : goal.returns
returns c =
    let i = c.loop-at in
    look_none (key_of c.args.key) c.args.m c.args.s.now i.at i.invariant.1 (omega (arith, c.loop-at-test.false, i.invariant.0)) ∙ i.invariant.2
