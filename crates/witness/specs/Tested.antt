-- THE TESTS OF A RIG, in a form that is cheap to compute: a long table is gone through once from its front, where the tests of
-- crate rig read it anew at each place; and minor-cycle flags are looked up in a table of marks. The law says that nothing is lost.
use Rattle.std.specs.Prelude.{◌≡◌, refl, Bool, true, ◌&&◌, ◌||◌, ℕ, zero, suc, ◌+◌, ◌≤◌, ◌<◌, eqb, ltb, get_or, drop}
use Rattle.std.proofs.Math.Path.{sym}
use Rattle.std.proofs.Common.{◌∙◌, ap, le_of_suc-le-suc, arith}
use mathlib.Core.List.{List, [], ◌∷◌, ◌++◌}
use Rattle.laws.specs.All.{all_of}
use Rattle.laws.specs.Laws.All.{all_all, and_left, and_right, all_of_at, all_of_cons, all_of_nil}
use Rattle.laws.specs.Any.{any}
use Rattle.laws.specs.First.{first_false}
use Rattle.laws.specs.Laws.First.{first_all, all_first}
use Rattle.rig_tables.specs.Tests.{at, lines_rise_b, small_b, condition_test, condition_one, conditions_b, condition_task_test, condition_task_one, condition_tasks_b, lines_b, not_minor_b, named_b, is_place, used_one, used_b, minor_conditions_b, task_zeros_b, line_zero_one, line_zeros_b, controllers_b, serves_one_b}
use Rattle.rig_tables.specs.Tests.{marked}
use Rattle.rig.specs.Rules.{Right}
use Rattle.rig_rows.specs.Tests.{rows_b, differ_b, row_zeros_b}
use Rattle.rig_cycles.specs.Tests.{cycles_rise_b, cycles_small_b, minor_b, minor_marks}
use Rattle.rig_whole.specs.Tests.{shaped_tests, count_group, tests, first_broken}
use Rattle.rig_cycles.specs.Laws.Marks.{not_minor_law, minor_conditions_law}
use Rattle.rig_whole.specs.Laws.Exact.{within_is, small_is, lines_is}
use Rattle.rig_whole.specs.Laws.Whole.{broken_none}
use Rattle.rig.specs.declared.Cycle.{Cycle}
use Rattle.rig.specs.declared.Rig.{Rig}

-- a test of n places, of which the first has number i, over what three tables hold there
unfoldable pub scan : (ℕ → ℕ → ℕ → ℕ → Bool) → ℕ → ℕ → List ℕ → List ℕ → List ℕ → Bool
scan test zero i a b c = true
scan test (suc n) i a b c = test i (at a 0) (at b 0) (at c 0) && scan test n (suc i) (drop 1 a) (drop 1 b) (drop 1 c)

behind : (l : List ℕ) (k : ℕ) → at (drop 1 l) k ≡ at l (suc k)
behind [] k = refl
behind (x ∷ l) k = refl

scan_at : (test : ℕ → ℕ → ℕ → ℕ → Bool) (n i : ℕ) (a b c : List ℕ) → scan test n i a b c ≡ true → (k : ℕ) → k < n
    → test (i + k) (at a k) (at b k) (at c k) ≡ true
unfolding scan
scan_at test zero i a b c e k h = absurd (omega arith)
scan_at test (suc n) i a b c e zero h =
    ap (λ (j : ℕ). test j (at a 0) (at b 0) (at c 0)) (omega arith)
    ∙ and_left (test i (at a 0) (at b 0) (at c 0)) (scan test n (suc i) (drop 1 a) (drop 1 b) (drop 1 c)) e
scan_at test (suc n) i a b c e (suc k) h =
    sym (λ j. test (next j) (behind a k j) (behind b k j) (behind c k j))
    ∙ scan_at test n (suc i) (drop 1 a) (drop 1 b) (drop 1 c)
    (and_right (test i (at a 0) (at b 0) (at c 0)) (scan test n (suc i) (drop 1 a) (drop 1 b) (drop 1 c)) e) k (le_of_suc-le-suc h)
  where
    next : suc i + k ≡ i + suc k
    next = omega arith

-- from place 0 on
scanned : (test : ℕ → ℕ → ℕ → ℕ → Bool) (n : ℕ) (a b c : List ℕ) → scan test n 0 a b c ≡ true → (k : ℕ) → k < n → test k (at a k) (at b k) (at c k) ≡ true
scanned test n a b c e k h = ap (λ (j : ℕ). test j (at a k) (at b k) (at c k)) (omega arith) ∙ scan_at test n 0 a b c e k h

-- the tests of the long tables
abbrev condition_at : ℕ → ℕ → ℕ → ℕ → Bool
condition_at p present latched desired = condition_test present latched desired

abbrev condition_task_at : ℕ → ℕ → ℕ → ℕ → ℕ → Bool
condition_task_at tasks p present a b = condition_task_test tasks present p

abbrev used_at : ℕ → List ℕ → List ℕ → ℕ → ℕ → ℕ → ℕ → Bool
used_at lines line_task line_pos p present a b = eqb present 0 || any lines (is_place line_task line_pos p)

abbrev line_zero_at : ℕ → ℕ → ℕ → ℕ → ℕ → Bool
line_zero_at lines k task pos flag = ltb k lines || (eqb task 0 && (eqb pos 0 && eqb flag 0))

-- every test of crate rig under its number there
unfoldable pub cheap_tests : Rig → List Cycle → List Bool
cheap_tests g cycles =
    count_group g
    ++ small_b g.priority 255
    ∷ small_b g.privileged 1
    ∷ scan condition_at 1040 0 g.present g.latched g.desired
    ∷ rows_b g.rows g.row
    ∷ lines_rise_b g.lines g.line_task g.line_pos g.line_flag
    ∷ cycles_rise_b cycles
    ∷ small_b g.activation g.flags
    ∷ scan (condition_task_at g.tasks) 1040 0 g.present [] []
    ∷ lines_b g.lines g.tasks g.flags g.line_task g.line_pos g.line_flag
    ∷ cycles_small_b g.flags cycles
    ∷ controllers_b g.tasks g.controller
    ∷ serves_one_b g.activation
    ∷ not_minor_b g.activation (marked (minor_marks cycles))
    ∷ named_b g.lines g.present g.line_task g.line_pos
    ∷ scan (used_at g.lines g.line_task g.line_pos) 1040 0 g.present [] []
    ∷ minor_conditions_b g.lines g.latched g.desired g.line_task g.line_pos g.line_flag (marked (minor_marks cycles))
    ∷ differ_b g.rows g.row
    ∷ task_zeros_b g.tasks g.controller g.priority g.privileged g.activation
    ∷ scan (line_zero_at g.lines) 1024 0 g.line_task g.line_pos g.line_flag
    ∷ row_zeros_b g.rows g.row
    ∷ all_of (shaped_tests g)
    ∷ []

-- the number of the first rule that is broken, 0 for none
unfoldable pub cheap_broken : Rig → List Cycle → ℕ
cheap_broken g cycles = first_false 1 (cheap_tests g cycles)

module _ (g : Rig) (cycles : List Cycle) (e : cheap_broken g cycles ≡ 0) where
  passed : (k : ℕ) → get_or (cheap_tests g cycles) k true ≡ true
  unfolding cheap_broken
  passed = all_of_at (cheap_tests g cycles) (first_all 1 (cheap_tests g cycles) (omega arith) e)

  conditions_hold : conditions_b g.present g.latched g.desired ≡ true
  unfolding conditions_b cheap_tests
  conditions_hold =
      all_all 1040 (condition_one g.present g.latched g.desired) (scanned condition_at 1040 g.present g.latched g.desired (passed 7))

  tasks_hold : condition_tasks_b g.tasks g.present ≡ true
  unfolding condition_tasks_b cheap_tests
  tasks_hold = all_all 1040 (condition_task_one g.tasks g.present) (scanned (condition_task_at g.tasks) 1040 g.present [] [] (passed 12))

  used_hold : used_b g.lines g.present g.line_task g.line_pos ≡ true
  unfolding used_b cheap_tests
  used_hold =
      all_all 1040 (used_one g.lines g.present g.line_task g.line_pos)
      (scanned (used_at g.lines g.line_task g.line_pos) 1040 g.present [] [] (passed 19))

  zeros_hold : line_zeros_b g.lines g.line_task g.line_pos g.line_flag ≡ true
  unfolding line_zeros_b cheap_tests
  zeros_hold =
      all_all 1024 (line_zero_one g.lines g.line_task g.line_pos g.line_flag)
      (scanned (line_zero_at g.lines) 1024 g.line_task g.line_pos g.line_flag (passed 23))

  -- no flag is above 128
  few : g.flags ≤ 128
  unfolding cheap_tests
  few = ((within_is 1 g.flags 128).0 (passed 1)).1

  not_minor_holds : not_minor_b g.activation (minor_b cycles) ≡ true
  unfolding cheap_tests
  not_minor_holds =
      sym (not_minor_law g.activation cycles (λ k h. omega (arith, (small_is g.activation g.flags).0 (passed 11) k h, few))) ∙ passed 17

  minor_holds : minor_conditions_b g.lines g.latched g.desired g.line_task g.line_pos g.line_flag (minor_b cycles) ≡ true
  unfolding cheap_tests
  minor_holds =
      sym (minor_conditions_law g.lines g.latched g.desired g.line_task g.line_pos g.line_flag cycles
      (λ k h. omega (arith, ((lines_is g cycles).0 (passed 13) k h).flag.1, few)))
      ∙ passed 20

  all_hold : all_of (tests g cycles) ≡ true
  unfolding tests cheap_tests
  all_hold =
      all_of_cons _ _ (passed 0) (all_of_cons _ _ (passed 1) (all_of_cons _ _ (passed 2) (all_of_cons _ _ (passed 3) (all_of_cons _ _ (passed 4)
      (all_of_cons _ _ (passed 5) (all_of_cons _ _ (passed 6) (all_of_cons _ _ conditions_hold (all_of_cons _ _ (passed 8)
      (all_of_cons _ _ (passed 9) (all_of_cons _ _ (passed 10)
      (all_of_cons _ _ (passed 11) (all_of_cons _ _ tasks_hold (all_of_cons _ _ (passed 13) (all_of_cons _ _ (passed 14)
      (all_of_cons _ _ (passed 15) (all_of_cons _ _ (passed 16) (all_of_cons _ _ not_minor_holds
      (all_of_cons _ _ (passed 18) (all_of_cons _ _ used_hold (all_of_cons _ _ minor_holds
      (all_of_cons _ _ (passed 21) (all_of_cons _ _ (passed 22) (all_of_cons _ _ zeros_hold (all_of_cons _ _ (passed 24)
      (all_of_cons _ _ (passed 25) all_of_nil)))))))))))))))))))))))))

  -- none of the rules of crate rig is broken: so the rig is right
  pub unbroken_right : Right g cycles
  unfolding first_broken
  unbroken_right = (broken_none g cycles).0 (all_first 1 (tests g cycles) all_hold)
