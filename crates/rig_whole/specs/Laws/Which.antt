-- Laws of Which.antt: the number that `first_broken` gives is that of a rule which does not hold, all rules with lower numbers hold, and there
-- is no other number of which that is so.
-- Assumes nothing.
use Rattle.std.specs.Prelude.{Bool, true, List, [], ◌∷◌, get_or, ◌≡◌, refl, eqb, ltb}
use Rattle.std.proofs.Math.Bool.{true≢false}
use Prim.Native.Nat.{ℕ, suc, ◌≤◌, ◌<◌, zero}
use Rattle.std.proofs.Common.{sym, ◌∙◌, arith, ltb-true, ltb-false}
use Rattle.laws.specs.Cases.{by}
use Rattle.laws.specs.Laws.All.{all_of_at}
use Rattle.laws.specs.Decides.{Is}
use Rattle.laws.specs.Laws.Decides.{is_said, is_eqb, is_leb}
use Rattle.laws.specs.Laws.First.{first_all, first_fails, first_before}
use Rattle.rig.specs.declared.Cycle.{Cycle}
use Rattle.rig.specs.declared.Rig.{Rig}
use Rattle.rig.specs.Rules.{Right}
use Rattle.rig_whole.specs.Tests.{tests, first_broken}
use Rattle.rig_whole.specs.Which.{rules, Rule, BrokenFirst}
use Rattle.rig_whole.specs.declared.Rule.{Rule as Broken}
use Rattle.rig_whole.specs.Numbers.{rule_report, some_rule}
use Rattle.std.specs.Prelude.{Result, Ok, Err, ◌↔◌}
use Rattle.std.specs.Result.{is_ok}
use Rattle.rig_whole.specs.Laws.Tree.{controllers_is}
use Rattle.rig_whole.specs.Laws.Whole.{broken_none}
use Rattle.rig_whole.specs.Laws.Exact.{within_is, small_is, conditions_is, rows_is, line_order_is, cycle_order_is, condition_numbers_is, lines_is, cycle_numbers_is, serves_one_is, not_minor_is, line_has_condition_is, condition_has_line_is, minor_conditions_is, sender_differs_is, task_zeros_is, line_zeros_is, row_zeros_is}

-- tests and statements, one for one
abbrev Each : List Bool → List (Type 0) → Type 0
Each [] [] = Unit {0}
Each [] (P ∷ Ps) = ⊥
Each (b ∷ bs) [] = ⊥
Each (b ∷ bs) (P ∷ Ps) = Is b P × Each bs Ps

each_at : (bs : List Bool) (Ps : List (Type 0)) → Each bs Ps → (k : ℕ) → Is (get_or bs k true) (get_or Ps k (Unit {0}))
each_at [] [] h k = ((λ e. tt), (λ u. refl))
each_at [] (P ∷ Ps) h k = absurd h
each_at (b ∷ bs) [] h k = absurd h
each_at (b ∷ bs) (P ∷ Ps) h zero = h.0
each_at (b ∷ bs) (P ∷ Ps) h (suc k) = each_at bs Ps h.1 k

module _ (g : Rig) (cycles : List Cycle) where
  each : g.tasks ≤ 64 → Each (tests g cycles) (rules g cycles)
  unfolding tests
  each few = (
    within_is 1 g.tasks 64,
    (
      within_is 1 g.flags 128,
      (
        is_leb g.master 31,
        (
          is_leb g.lines 1024,
          (
            is_leb g.rows 64,
            (
              small_is g.priority 255,
              (
                small_is g.privileged 1,
                (
                  conditions_is g cycles,
                  (
                    rows_is g cycles,
                    (
                      line_order_is g cycles,
                      (
                        cycle_order_is g cycles,
                        (
                          small_is g.activation g.flags,
                          (
                            condition_numbers_is g cycles,
                            (
                              lines_is g cycles,
                              (
                                cycle_numbers_is g cycles,
                                (
                                  controllers_is g few,
                                  (
                                    serves_one_is g cycles,
                                    (
                                      not_minor_is g cycles,
                                      (
                                        line_has_condition_is g cycles,
                                        (
                                          condition_has_line_is g cycles,
                                          (
                                            minor_conditions_is g cycles,
                                            (
                                              sender_differs_is g cycles,
                                              (
                                                task_zeros_is g cycles,
                                                (
                                                  line_zeros_is g cycles,
                                                  (
                                                    row_zeros_is g cycles,
                                                    (((λ e. e), (λ e. e)), tt),
                                                  ),
                                                ),
                                              ),
                                            ),
                                          ),
                                        ),
                                      ),
                                    ),
                                  ),
                                ),
                              ),
                            ),
                          ),
                        ),
                      ),
                    ),
                  ),
                ),
              ),
            ),
          ),
        ),
      ),
    ),
  )

  -- the rule with the number that is given is broken
  pub broken_breaks : (n : ℕ) → first_broken g cycles ≡ suc n → Rule (suc n) g cycles → ⊥
  unfolding first_broken tests
  broken_breaks zero e p = true≢false (sym ((within_is 1 g.tasks 64).1 p) ∙ first_fails 1 0 (tests g cycles) (omega arith) (e ∙ omega arith))
  broken_breaks (suc k) e p =
      let few = ((within_is 1 g.tasks 64).0 (first_before 1 (suc k) 0 (tests g cycles) (omega arith) (e ∙ omega arith) (omega arith))).1 in
      true≢false
      (sym ((each_at (tests g cycles) (rules g cycles) (each few) (suc k)).1 p)
      ∙ first_fails 1 (suc k) (tests g cycles) (omega arith) (e ∙ omega arith))

  -- and the rules before it hold
  pub broken_first : (n k : ℕ) → first_broken g cycles ≡ suc n → k < n → Rule (suc k) g cycles
  unfolding first_broken tests
  broken_first n k e h =
      let few = ((within_is 1 g.tasks 64).0 (first_before 1 n 0 (tests g cycles) (omega arith) (e ∙ omega arith) (omega arith))).1 in
      (each_at (tests g cycles) (rules g cycles) (each few) k).0 (first_before 1 n k (tests g cycles) (omega arith) (e ∙ omega arith) h)

  -- and where none is broken, all hold
  unbroken_holds : first_broken g cycles ≡ 0 → (n : ℕ) → Rule n g cycles
  unfolding first_broken
  unbroken_holds e zero = tt
  unbroken_holds e (suc k) =
      let right = (broken_none g cycles).0 e in
      (each_at (tests g cycles) (rules g cycles) (each right.task_count.1) k).0 (all_of_at (tests g cycles) (first_all 1 (tests g cycles) (omega arith) e) k)

  -- THE LAW: `first_broken` is the number of the first rule that is broken
  pub broken_is : (n : ℕ) → n ≡ first_broken g cycles → BrokenFirst g cycles n
  broken_is zero e = record { none = λ _. (broken_none g cycles).0 (sym e); broken = λ n. absurd (n refl); before = λ k h. absurd (omega arith) }
  broken_is (suc n) e = record { none = λ z. absurd (omega arith); broken = λ _. broken_breaks n (sym e); before = below }
    where
      below : (k : ℕ) → k < suc n → Rule k g cycles
      below zero h = tt
      below (suc k) h = broken_first n k (sym e) (omega arith)

  -- .. and no other number is
  pub broken_only : (m n : ℕ) → BrokenFirst g cycles m → BrokenFirst g cycles n → m ≡ n
  broken_only m n a b = by (ltb m n) (λ e. absurd (less m n a b (ltb-true m n e))) (λ e. by (ltb n m) (λ d. absurd (less n m b a (ltb-true n m d))) (λ d. let h = ltb-false m n e in let k = ltb-false n m d in omega arith))
    where
      less : (m n : ℕ) → BrokenFirst g cycles m → BrokenFirst g cycles n → m < n → ⊥
      less zero n a b h = b.broken (λ z. omega arith) (unbroken_holds ((broken_none g cycles).1 (a.none refl)) n)
      less (suc m) n a b h = a.broken (λ z. omega arith) (b.before (suc m) h)

  pub broken_computed : (n : ℕ) → BrokenFirst g cycles n → n ≡ first_broken g cycles
  broken_computed n b = broken_only n (first_broken g cycles) b (broken_is (first_broken g cycles) refl)

  -- the number is 0 exactly of a right rig
  pub broken_right : (n : ℕ) → BrokenFirst g cycles n → Is (eqb n 0) (Right g cycles)
  broken_right n b =
      is_said (is_eqb n 0) b.none
      (λ r. broken_computed n b ∙ (broken_none g cycles).1 r)

  -- so an answer with a rule in it says whether the rig is right
  pub ok_right : (r : Result (Unit {0}) Broken) → rule_report r ≡ first_broken g cycles → (is_ok r ≡ true) ↔ Right g cycles
  ok_right (Ok x) e = ((λ q. (broken_none g cycles).0 (sym e)), (λ h. refl))
  ok_right (Err r) e = ((λ q. absurd (true≢false (sym q))), (λ h. absurd (some_rule r (e ∙ (broken_none g cycles).1 h))))
