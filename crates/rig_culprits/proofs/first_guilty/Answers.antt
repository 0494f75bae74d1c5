use borrow.Author.Rules.{rules}
use Prim.Native.Nat.{ℕ, ◌≤◌, ◌<◌}
use mathlib.Core.Path.{refl, sym, ap, ◌∙◌}
use mathlib.Core.List.{List}
use native.Mathlib.Omega.{arith}
use lib.ListN.{length}
use Rattle.laws.specs.Cases.{if_yes, if_no}
use Rattle.text.specs.Split.{split}
use Rattle.text.specs.Laws.Parts.{part_all}
use Rattle.rig_suspects.specs.Suspects.{counted}
use Rattle.rig_suspects.specs.Laws.{counted_some}
use Rattle.rig_culprits.specs.Culprits.{guilty, first_at, culprit_line}
use Rattle.rig_culprits.specs.Laws.{first_end, first_next, first_none}
use Rattle.rig_culprits.proofs.first_guilty.Goals as goal

pub loop-at-init : goal.loop-at-init
unfolding culprit_line
loop-at-init c =
    let s = c.args.s.now in
    (refl, omega arith, omega arith, ap (λ (l : List ℕ). first_at (guilty c.args.rule s) 1 0 (split 10 l)) (part_all s), omega arith)

pub returns-then-e-n : goal.returns-then-e-n
unfolding counted
returns-then-e-n c =
    let s = c.args.s.now in
    let i = c.loop-at in
    let e = c.line_of-e in
    ap counted (sym (first_end s i.at e.result (e.ensures.0 i.invariant.1) (guilty c.args.rule s) i.line (omega arith)) ∙ i.invariant.3)

pub is_guilty-requires : goal.is_guilty-requires
is_guilty-requires c =
    let f = c.line_of-e.ensures.0 c.loop-at.invariant.1 in
    let a = f.low in
    let b = f.high in
    (a, omega (arith, b, c.if-e-n.false, c.loop-at.invariant.0))

pub returns-then-is_guilty : goal.returns-then-is_guilty
returns-then-is_guilty c =
    let s = c.args.s.now in
    let i = c.loop-at in
    let e = c.line_of-e in
    let f = e.ensures.0 i.invariant.1 in
    let b = f.high in
    let k : e.result < length s = omega (arith, b, c.if-e-n.false, i.invariant.0) in
    counted_some i.line i.invariant.4 ∙ ap counted (sym (first_next s i.at e.result f (guilty c.args.rule s) i.line k ∙ if_yes _ (sym c.is_guilty.ensures ∙ c.if-is_guilty.true) refl) ∙ i.invariant.3)

pub overflow_add-at : goal.overflow_add-at
overflow_add-at c =
    let f = c.line_of-e.ensures.0 c.loop-at.invariant.1 in
    let a = f.high in
    let k : c.line_of-e.result < length c.args.s.now = omega (arith, a, c.if-e-n.false, c.loop-at.invariant.0) in
    search rules

pub overflow_add-line : goal.overflow_add-line
overflow_add-line c =
    let i = c.loop-at in
    let k : i.line ≤ length c.args.s.now = omega (arith, c.loop-at-test.true, i.invariant.0, i.invariant.2) in
    search rules

pub loop-at-smaller : goal.loop-at-smaller
loop-at-smaller c =
    let f = c.line_of-e.ensures.0 c.loop-at.invariant.1 in
    let a = f.low in
    let b = f.high in
    omega (arith, a, b, c.if-e-n.false, c.loop-at.invariant.0, c.loop-at-test.true)

pub loop-at-preserved : goal.loop-at-preserved
loop-at-preserved c =
    let s = c.args.s.now in
    let i = c.loop-at in
    let e = c.line_of-e in
    let f = e.ensures.0 i.invariant.1 in
    let a = f.low in
    let b = f.high in
    let k : e.result < length s = omega (arith, b, c.if-e-n.false, i.invariant.0) in
    (i.invariant.0, omega (arith, k), omega (arith, a, i.invariant.2), sym (first_next s i.at e.result f (guilty c.args.rule s) i.line k ∙ if_no _ (sym c.is_guilty.ensures ∙ c.if-is_guilty.false) refl) ∙ i.invariant.3, omega arith)

pub returns : goal.returns
unfolding counted
returns c =
    let s = c.args.s.now in
    let i = c.loop-at in
    ap counted (sym (first_none s i.at i.invariant.1 (omega (arith, c.loop-at-test.false, i.invariant.0)) (guilty c.args.rule s) i.line) ∙ i.invariant.3)
