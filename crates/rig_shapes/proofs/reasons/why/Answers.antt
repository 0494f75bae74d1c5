use borrow.Author.Rules.{rules}
use Prim.Native.Nat.{ℕ, ◌<◌}
use mathlib.Core.Path.{refl, sym, ap, ◌∙◌}
use mathlib.Core.List.{List}
use native.Mathlib.Omega.{arith}
use lib.ListN.{length}
use borrow.Author.Tests.{le-leb, lt-leb}
use Rattle.laws.specs.Cases.{if_yes, if_no}
use Rattle.text.specs.Split.{split, part}
use Rattle.text.specs.Laws.Parts.{part_all}
use Rattle.rig_shapes.specs.Shape.{piece_reason, reason_of}
use Rattle.rig_shapes.specs.Laws.{reason_end, reason_next, reason_none}
use Rattle.rig_shapes.proofs.reasons.why.Goals as goal

pub returns-then-is_empty : goal.returns-then-is_empty
unfolding reason_of
returns-then-is_empty c = sym (if_yes _ (sym c.is_empty.ensures ∙ c.if-is_empty.true) refl)

pub loop-at-init : goal.loop-at-init
unfolding reason_of
loop-at-init c = (refl, omega arith, ap (λ (l : List ℕ). piece_reason c.args.number (split 10 l)) (part_all c.args.s.now) ∙ sym (if_no _ (sym c.is_empty.ensures ∙ c.if-is_empty.false) refl))

pub returns-then-e-n : goal.returns-then-e-n
returns-then-e-n c =
    let i = c.loop-at in
    let e = c.line_of-e in
    sym (reason_end c.args.s.now i.at e.result (e.ensures.0 i.invariant.1) i.left (omega arith)) ∙ i.invariant.2

pub slice_bounds-line_reason-count : goal.slice_bounds-line_reason-count
slice_bounds-line_reason-count c =
    let f = c.line_of-e.ensures.0 c.loop-at.invariant.1 in
    let a = f.low in
    omega arith

pub slice_bounds-line_reason-start : goal.slice_bounds-line_reason-start
slice_bounds-line_reason-start c =
    let f = c.line_of-e.ensures.0 c.loop-at.invariant.1 in
    let a = f.low in
    omega arith

pub slice_bounds-line_reason-end : goal.slice_bounds-line_reason-end
slice_bounds-line_reason-end c =
    let f = c.line_of-e.ensures.0 c.loop-at.invariant.1 in
    let a = f.high in
    omega arith

pub returns-then-left-le1 : goal.returns-then-left-le1
unfolding part
returns-then-left-le1 c =
    let s = c.args.s.now in
    let i = c.loop-at in
    let e = c.line_of-e in
    let f = e.ensures.0 i.invariant.1 in
    let a = f.high in
    let k : e.result < length s = omega (arith, a, c.if-e-n.false, i.invariant.0) in
    c.line_reason.ensures ∙ (sym (reason_next s i.at e.result f i.left k ∙ if_yes _ (le-leb _ _ c.if-left-le1.true) refl) ∙ i.invariant.2)

pub overflow_add-at : goal.overflow_add-at
overflow_add-at c =
    let f = c.line_of-e.ensures.0 c.loop-at.invariant.1 in
    let a = f.high in
    let k : c.line_of-e.result < length c.args.s.now = omega (arith, a, c.if-e-n.false, c.loop-at.invariant.0) in
    search rules

pub loop-at-smaller : goal.loop-at-smaller
loop-at-smaller c =
    let f = c.line_of-e.ensures.0 c.loop-at.invariant.1 in
    let a = f.low in
    let b = f.high in
    omega (arith, a, b, c.if-e-n.false, c.loop-at.invariant.0, c.loop-at-test.true)

pub loop-at-preserved : goal.loop-at-preserved
unfolding part
loop-at-preserved c =
    let s = c.args.s.now in
    let i = c.loop-at in
    let e = c.line_of-e in
    let f = e.ensures.0 i.invariant.1 in
    let a = f.high in
    let k : e.result < length s = omega (arith, a, c.if-e-n.false, i.invariant.0) in
    (i.invariant.0, omega (arith, k), sym (reason_next s i.at e.result f i.left k ∙ if_no _ (lt-leb _ _ c.if-left-le1.false) refl) ∙ i.invariant.2)

pub returns : goal.returns
returns c =
    let i = c.loop-at in
    sym (reason_none c.args.s.now i.at i.invariant.1 (omega (arith, c.loop-at-test.false, i.invariant.0)) i.left) ∙ i.invariant.2
