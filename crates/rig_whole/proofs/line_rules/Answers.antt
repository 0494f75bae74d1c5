use mathlib.Core.Path.{◌≡◌, sym, ◌∙◌, ap, subst}
use mathlib.Core.Bool.{Bool, true, false, ◌&&◌, false≢true}
use mathlib.Core.List.{List}
use Prim.Native.Nat.{ℕ, ◌+◌, ◌*◌}
use native.Mathlib.Omega.{arith}
use borrow.Author.Tests.{not-true, not-false}
use Rattle.laws.specs.Cases.{and_true}
use Rattle.laws.specs.Laws.First.{first_none, first_skip, first_here}
use Rattle.rig_tables.specs.Tests.{named_b, used_b}
use Rattle.rig_conditions.specs.Tables.{matched_b, ZeroFrom}
use Rattle.rig_conditions.specs.Laws.{matched_law, marks_end}
use Rattle.rig_whole.proofs.line_rules.Goals as goal

-- where the first of two tests holds but not both, the second fails
second : (a b : Bool) → a ≡ true → (a && b) ≡ false → b ≡ false
second true b e f = f
second false b e f = absurd (false≢true e)

pub place_marks-table-requires : goal.place_marks-table-requires
place_marks-table-requires c = c.requires.0.placed

pub matched-requires : goal.matched-requires
matched-requires c =
    let s = c in (
      omega (arith, s.requires.1.1.few),
      (
        s.requires.1.1.conditions,
        subst (λ (l : List ℕ). ZeroFrom (16 * (s.args.rig.now.tasks + 1)) l) (sym c.place_marks-table.ensures)
            (marks_end s.args.rig.now.lines s.args.rig.now.line_task s.args.rig.now.line_pos s.requires.0.placed (16 * (s.args.rig.now.tasks + 1)) s.requires.1.1.lines),
      ),
    )

pub names_present-requires : goal.names_present-requires
names_present-requires c = c.requires.0.placed

pub returns-then-not-names_present : goal.returns-then-not-names_present
returns-then-not-names_present c = sym (first_here 19 _ _ (sym c.names_present.ensures ∙ not-true _ c.if-not-names_present.true-raw))

pub returns-then-not-matched : goal.returns-then-not-matched
returns-then-not-matched c =
    let both_at : (named_b c.args.rig.now.lines c.args.rig.now.present c.args.rig.now.line_task c.args.rig.now.line_pos && used_b c.args.rig.now.lines c.args.rig.now.present c.args.rig.now.line_task c.args.rig.now.line_pos) ≡ c.matched.result = (let s = c in sym (matched_law s.args.rig.now.lines s.args.rig.now.line_task s.args.rig.now.line_pos s.requires.0.placed s.args.rig.now.present) ∙ ap (matched_b s.args.rig.now.present) (sym c.place_marks-table.ensures) ∙ sym c.matched.ensures) in
    let s = c in
    let a = sym c.names_present.ensures ∙ not-false _ c.if-not-names_present.false-raw in
    sym
    (first_skip 19 _ _ a
    ∙ first_here 20 _ _ (second (named_b s.args.rig.now.lines s.args.rig.now.present s.args.rig.now.line_task s.args.rig.now.line_pos) (used_b s.args.rig.now.lines s.args.rig.now.present s.args.rig.now.line_task s.args.rig.now.line_pos) a (both_at ∙ not-true _ c.if-not-matched.true-raw)))

pub minor_conditions-requires : goal.minor_conditions-requires
minor_conditions-requires c =
    let s = c.requires in
    (s.0, s.1.0)

pub returns-then-not-minor_conditions : goal.returns-then-not-minor_conditions
returns-then-not-minor_conditions c =
    let both_at : (named_b c.args.rig.now.lines c.args.rig.now.present c.args.rig.now.line_task c.args.rig.now.line_pos && used_b c.args.rig.now.lines c.args.rig.now.present c.args.rig.now.line_task c.args.rig.now.line_pos) ≡ c.matched.result = (let s = c in sym (matched_law s.args.rig.now.lines s.args.rig.now.line_task s.args.rig.now.line_pos s.requires.0.placed s.args.rig.now.present) ∙ ap (matched_b s.args.rig.now.present) (sym c.place_marks-table.ensures) ∙ sym c.matched.ensures) in
    let both_hold : (named_b c.args.rig.now.lines c.args.rig.now.present c.args.rig.now.line_task c.args.rig.now.line_pos ≡ true) × (used_b c.args.rig.now.lines c.args.rig.now.present c.args.rig.now.line_task c.args.rig.now.line_pos ≡ true) = (let s = c in and_true (named_b s.args.rig.now.lines s.args.rig.now.present s.args.rig.now.line_task s.args.rig.now.line_pos) (used_b s.args.rig.now.lines s.args.rig.now.present s.args.rig.now.line_task s.args.rig.now.line_pos) (both_at ∙ not-false _ c.if-not-matched.false-raw)) in
    let b = both_hold in
    sym (first_skip 19 _ _ b.0 ∙ first_skip 20 _ _ b.1 ∙ first_here 21 _ _ (sym c.minor_conditions.ensures ∙ not-true _ c.if-not-minor_conditions.true-raw))

pub returns : goal.returns
returns c =
    let both_at : (named_b c.args.rig.now.lines c.args.rig.now.present c.args.rig.now.line_task c.args.rig.now.line_pos && used_b c.args.rig.now.lines c.args.rig.now.present c.args.rig.now.line_task c.args.rig.now.line_pos) ≡ c.matched.result = (let s = c in sym (matched_law s.args.rig.now.lines s.args.rig.now.line_task s.args.rig.now.line_pos s.requires.0.placed s.args.rig.now.present) ∙ ap (matched_b s.args.rig.now.present) (sym c.place_marks-table.ensures) ∙ sym c.matched.ensures) in
    let both_hold : (named_b c.args.rig.now.lines c.args.rig.now.present c.args.rig.now.line_task c.args.rig.now.line_pos ≡ true) × (used_b c.args.rig.now.lines c.args.rig.now.present c.args.rig.now.line_task c.args.rig.now.line_pos ≡ true) = (let s = c in and_true (named_b s.args.rig.now.lines s.args.rig.now.present s.args.rig.now.line_task s.args.rig.now.line_pos) (used_b s.args.rig.now.lines s.args.rig.now.present s.args.rig.now.line_task s.args.rig.now.line_pos) (both_at ∙ not-false _ c.if-not-matched.false-raw)) in
    let b = both_hold in
    sym (first_skip 19 _ _ b.0 ∙ first_skip 20 _ _ b.1 ∙ first_skip 21 _ _ (sym c.minor_conditions.ensures ∙ not-false _ c.if-not-minor_conditions.false-raw) ∙ first_none 22)
