-- The cycles one by one, and the table of minor-cycle flags, which says of each flag what `minor_b` says.
use Rattle.std.specs.Prelude.{Bool, not, true, ◌&&◌, List, ℕ, zero, suc, ◌≤◌, ◌<◌, eqb, length, get_or, replicate, take, ◌≡◌, ◌≢◌, ◌↔◌}
use Rattle.std.proofs.lemmas.List.{length-replicate, take_all}
use Rattle.std.proofs.lemmas.List.Folds.{list_all_more}
use Rattle.std.specs.List.{list_all}
use Rattle.laws.specs.Iter.{iter}
use Rattle.laws.specs.Laws.Iter.{iter_ind}
use Rattle.laws.specs.All.{all}
use Rattle.laws.specs.Laws.All.{all_at, all_same, and_right}
use Rattle.rig_tables.specs.Tests.{at, cycle_rises, in_cycle, not_minor_b, minor_conditions_b, not_minor_one, minor_condition_one, minor_condition_test, is_only_one, place_of, marked}
use Rattle.std.proofs.Common.{refl, add-one, eq-eqb, sym, ◌∙◌, ap, inl, inr, ⊎_elim, arith, get_or-set_other}
use borrow.Author.Tests.{eqb-true, eqb-false}
use Rattle.laws.specs.Cases.{and_go, by, below_but}
use Rattle.laws.specs.Laws.Tables.{set_zero, zeros}
use Rattle.laws.specs.Decides.{Is}
use Rattle.laws.specs.Laws.Decides.{is_eqb, is_and, is_not, is_any, is_said, is_same}
use Rattle.laws.specs.Laws.Owners.{marked_by, marks_it, marks_length}
use Rattle.rig.specs.declared.Cycle.{Cycle}
use Rattle.rig.specs.Rules.{no_cycle, at, flag_at, Minor}
use Rattle.rig_cycles.specs.Tests.{cycle_rises_one, cycles_rise_b, minor_b, mark_cycle, minor_marks}

-- where the cycles rise, each does
pub cycles_rise_at : (cycles : List Cycle) → cycles_rise_b cycles ≡ true → (c : ℕ) → c < 64 → cycle_rises (get_or cycles c no_cycle).flags ≡ true
unfolding cycles_rise_b
cycles_rise_at cycles e c h =
    all_at 64 (cycle_rises_one cycles) (and_right (eqb (length cycles) 64) (all 64 (cycle_rises_one cycles)) e) c h

module _ (cycles : List Cycle) (f : ℕ) where
  -- f stands in one of the first k cycles
  abbrev Among : ℕ → Type 0
  Among k = (c : ℕ) × (c < k) × (i : ℕ) × (i < 15) × (flag_at cycles c i ≡ f)

  pub minor_is : Is (minor_b cycles f) (Minor cycles f)
  unfolding minor_b in_cycle
  minor_is =
      is_said
      (is_and (is_not (is_eqb f 0)) (is_any 64 (λ c h. is_any 15 (λ i g. is_eqb (flag_at cycles c i) f))))
      (λ w. (w.0, w.1.0, w.1.2.0, w.1.1, w.1.2.1, w.1.2.2))
      (λ w. (w.0, (w.1, w.3, (w.2, w.4, w.5))))

  table_is : f ≤ 128 → (k : ℕ) → (length (iter k (mark_cycle cycles) (replicate 129 0)) ≡ 129)
      × ((at (iter k (mark_cycle cycles) (replicate 129 0)) f ≢ 0) ↔ Among k)
  table_is b =
      iter_ind (λ k l. (length l ≡ 129) × ((at l f ≢ 0) ↔ Among k)) (mark_cycle cycles) (replicate 129 0)
      (length-replicate {A = ℕ} 129 0, ((λ z. absurd (z (zeros 129 f))), (λ w. absurd (omega (arith, w.1)))))
      (λ k l h. (marks_length 15 (at (get_or cycles k no_cycle).flags) l ∙ h.0, (there k l h, back k l h)))
    where
      there : (k : ℕ) (l : List ℕ) → (length l ≡ 129) × ((at l f ≢ 0) ↔ Among k) → at (mark_cycle cycles k l) f ≢ 0 → Among (suc k)
      there k l h z =
          ⊎_elim (λ y. let w = h.1.0 y in (w.0, omega (arith, w.1), w.2, w.3, w.4)) (λ v. (k, omega arith, v.0, v.1, v.2))
          (marked_by (at (get_or cycles k no_cycle).flags) l f 15 z)

      back : (k : ℕ) (l : List ℕ) → (length l ≡ 129) × ((at l f ≢ 0) ↔ Among k) → Among (suc k) → at (mark_cycle cycles k l) f ≢ 0
      back k l h w =
          marks_it (at (get_or cycles k no_cycle).flags) l f 15 (omega (arith, h.0))
          (by (eqb w.0 k)
          (λ e. inr (w.2, w.3, ap (λ (c : ℕ). flag_at cycles c w.2) (sym (eqb-true w.0 k e)) ∙ w.4))
          (λ e. inl (h.1.1 (w.0, below_but w.0 k w.1 (eqb-false w.0 k e), w.2, w.3, w.4))))

  pub marks_law : f ≤ 128 → marked (minor_marks cycles) f ≡ minor_b cycles f
  unfolding minor_marks
  marks_law b = is_same (is_said (is_not (is_eqb (at (minor_marks cycles) f) 0)) there back) minor_is
    where
      there : at (minor_marks cycles) f ≢ 0 → Minor cycles f
      there z =
          by (eqb f 0) (λ e. absurd (z (ap (at (minor_marks cycles)) (eqb-true f 0 e) ∙ set_zero (iter 64 (mark_cycle cycles) (replicate 129 0)) 0)))
          (λ e.
          let n = eqb-false f 0 e in
          let w = (table_is b 64).1.0 (λ y. z (get_or-set_other (iter 64 (mark_cycle cycles) (replicate 129 0)) 0 f 0 0 n ∙ y)) in
          (n, w.0, w.2, w.1, w.3, w.4))

      back : Minor cycles f → at (minor_marks cycles) f ≢ 0
      back w z =
          (table_is b 64).1.1 (w.1, w.3, w.2, w.4, w.5)
          (sym (get_or-set_other (iter 64 (mark_cycle cycles) (replicate 129 0)) 0 f 0 0 w.0) ∙ z)

-- so the tests that go by the table say what those by `minor_b` say
pub not_minor_law : (activation : List ℕ) (cycles : List Cycle) → ((t : ℕ) → t < 65 → at activation t ≤ 128)
    → not_minor_b activation (marked (minor_marks cycles)) ≡ not_minor_b activation (minor_b cycles)
unfolding not_minor_b
not_minor_law activation cycles small =
    all_same 65 (not_minor_one activation (marked (minor_marks cycles))) (not_minor_one activation (minor_b cycles))
    (λ t h. ap not (marks_law cycles (at activation t) (small t h)))

pub minor_conditions_law : (n : ℕ) (latched desired line_task line_pos line_flag : List ℕ) (cycles : List Cycle) → ((k : ℕ) → k < n → at line_flag k ≤ 128)
    → minor_conditions_b n latched desired line_task line_pos line_flag (marked (minor_marks cycles)) ≡ minor_conditions_b n latched desired line_task line_pos line_flag (minor_b cycles)
unfolding minor_conditions_b
minor_conditions_law n latched desired line_task line_pos line_flag cycles small =
    all_same n (minor_condition_one n latched desired line_task line_pos line_flag (marked (minor_marks cycles)))
    (minor_condition_one n latched desired line_task line_pos line_flag (minor_b cycles))
    (λ k h.
    ap
    (λ (b : Bool). minor_condition_test b (all n (is_only_one line_task line_pos k)) (at latched (place_of line_task line_pos k)) (at desired (place_of line_task line_pos k)))
    (marks_law cycles (at line_flag k) (small k h)))

-- the loop over the cycles computes the test
first_cycles : (cycles : List Cycle) (n : ℕ) → n ≤ length cycles → list_all (λ (c : Cycle). cycle_rises c.flags) (take n cycles) ≡ all n (cycle_rises_one cycles)
unfolding all
first_cycles cycles zero h = refl
first_cycles cycles (suc n) h =
    rw add-one at (list_all_more (λ (c : Cycle). cycle_rises c.flags) cycles n no_cycle (omega arith))
    ∙ ap (λ (b : Bool). b && cycle_rises_one cycles n) (first_cycles cycles n (omega arith))

pub cycles_rise_law : (cycles : List Cycle) → length cycles ≡ 64 → list_all (λ (c : Cycle). cycle_rises c.flags) cycles ≡ cycles_rise_b cycles
unfolding cycles_rise_b
cycles_rise_law cycles z =
    ap (list_all (λ (c : Cycle). cycle_rises c.flags)) (sym (take_all 64 cycles (omega (arith, z))))
    ∙ first_cycles cycles 64 (omega (arith, z)) ∙ sym (and_go (eq-eqb (length cycles) 64 z) refl)
