use borrow.Author.Rules.{rules}
use mathlib.Core.Path.{◌≡◌, sym, ◌∙◌, ap, subst}
use mathlib.Core.Bool.{Bool, true}
use borrow.Author.Tests.{eqb-true}
use Prim.Native.Nat.{ℕ, ◌+◌, ◌-◌, ◌*◌, ◌/◌, ◌%◌, ◌≤◌}
use native.Mathlib.Omega.{arith}
use lib.ListN.{length}
use Rattle.laws.specs.All.{all}
use Rattle.laws.specs.Laws.All.{all_zero, all_at, all_all, all_on, all_short}
use Rattle.rig_tables.specs.Tests.{minor_condition_one, minor_conditions_b, marked}
use Rattle.rig_minor.specs.Laws.{minor_not, flags_at}
use Rattle.rig_minor.proofs.minor_conditions.Goals as goal
use Rattle.rig_minor.proofs.minor_conditions.Goals.{else-not-none_marked-via-then-not-none_marked+else-not-minor_from, else-not-none_marked-via-else-not-none_marked}

pub loop-four-init : goal.loop-four-init
loop-four-init c = (all_zero _, search rules)

pub returns-then-not-minor_from : goal.returns-then-not-minor_from
unfolding minor_conditions_b
returns-then-not-minor_from c =
    let g = c.args.rig.now in
    let test_at : ℕ → Bool = minor_condition_one g.lines g.latched g.desired g.line_task g.line_pos g.line_flag (marked c.args.flags.now) in
    let k = 4 * c.loop-four.four in
    let h : k + 4 ≤ g.lines = omega (arith, c.loop-four-test.true) in
    sym (all_short (k + 4) g.lines test_at h (sym (all_on k 4 test_at c.loop-four.invariant.0) ∙ sym c.if-not-minor_from.ensures))

pub loop-four-preserved : goal.loop-four-preserved
loop-four-preserved c =
    let g = c.args.rig.now in
    let test_at : ℕ → Bool = minor_condition_one g.lines g.latched g.desired g.line_task g.line_pos g.line_flag (marked c.args.flags.now) in
    let k = 4 * c.loop-four.four in
    let h : k + 4 ≤ g.lines = omega (arith, c.loop-four-test.true) in
    let long : length g.line_flag ≡ 1024 = search rules in
    let e : k + 4 ≡ 4 * (c.loop-four.four + 1) = omega arith in
    let next : all 4 (λ i. test_at (k + i)) ≡ true = elim c.else-not-none_marked.branch [ else-not-none_marked-via-then-not-none_marked+else-not-minor_from w ↦ sym w.if-not-minor_from.ensures | else-not-none_marked-via-else-not-none_marked w ↦ all_all 4 (λ i. test_at (k + i)) (λ i j. minor_not g.lines g.line_task g.line_pos c.requires.1 (k + i) (omega (arith, h, j)) g.latched g.desired g.line_flag c.args.flags.now (eqb-true _ _ (all_at (k + 4 - k) _ (sym (flags_at c.args.flags.now g.line_flag k (k + 4 - k) (omega (arith, long, h, c.requires.0.placed.few))) ∙ sym w.if-not-none_marked.ensures) i (omega (arith, j))))) ] in
    (subst (λ (n : ℕ). all n test_at ≡ true) e (sym (all_on k 4 test_at c.loop-four.invariant.0) ∙ next), search rules)

pub returns : goal.returns
unfolding minor_conditions_b
returns c =
    let g = c.args.rig.now in
    let test_at : ℕ → Bool = minor_condition_one g.lines g.latched g.desired g.line_task g.line_pos g.line_flag (marked c.args.flags.now) in
    let e : c.loop-four.four ≡ g.lines / 4 = omega arith in
    let done : all (4 * (g.lines / 4)) test_at ≡ true = rw e at c.loop-four.invariant.0 in
    c.minor_from-2.ensures ∙ all_on (4 * (g.lines / 4)) (g.lines % 4) test_at done ∙ ap (λ (n : ℕ). all n test_at) (omega arith)
