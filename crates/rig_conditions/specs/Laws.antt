-- The test that goes by the table of marks says what two tests of rig_tables say.
use Rattle.std.specs.Prelude.{◌≡◌, refl, ◌&&◌, List, ℕ, ◌≤◌, ◌<◌, eqb, replicate, ◌≢◌}
use Rattle.std.proofs.Common.{sym, ◌∙◌, ap, inr, arith, eqb-true}
use Rattle.std.proofs.Math.ListN.{length-replicate}
use Rattle.laws.specs.All.{all}
use Rattle.laws.specs.Laws.All.{all_more}
use Rattle.rig_tables.specs.Tests.{at, place_of, named_b, used_b}
use Rattle.std.proofs.Math.Logic.{⊎_elim}
use Rattle.std.proofs.lemmas.Bool.{eqb-false}
use Rattle.laws.specs.Cases.{by}
use Rattle.laws.specs.Laws.Tables.{zeros}
use Rattle.laws.specs.Laws.Decides.{is_eqb, is_and, is_else, is_all, is_any, is_said, is_same}
use Rattle.laws.specs.Laws.Owners.{marked_by, marks_it, marks_bit}
use Rattle.rig_tables.specs.Lines.{Placed}
use Rattle.rig_conditions.specs.Tables.{ZeroFrom, place_marks, matched_one, matched_b}

-- what is from `end` on in neither table needs no look
pub matched_end : (end : ℕ) (present table : List ℕ) → end ≤ 1040 → ZeroFrom end present → ZeroFrom end table
    → all end (matched_one present table) ≡ matched_b present table
unfolding matched_b
matched_end end present table few p t =
    all_more end 1040 (matched_one present table) few (λ k h b. rw (p k h b, t k h b))

module _ (n : ℕ) (line_task line_pos : List ℕ) where
  -- a place is marked that is the place of a line
  marked_line : (p : ℕ) → at (place_marks n line_task line_pos) p ≢ 0 → (k : ℕ) × (k < n) × (place_of line_task line_pos k ≡ p)
  unfolding place_marks
  marked_line p z =
      ⊎_elim (λ y. absurd (y (zeros 1040 p))) (λ w. w) (marked_by (place_of line_task line_pos) (replicate 1040 0) p n z)

  module _ (placed : Placed n line_task line_pos) where
    line_marked : (k : ℕ) → k < n → at (place_marks n line_task line_pos) (place_of line_task line_pos k) ≡ 1
    unfolding place_marks
    line_marked k h =
        let p = place_of line_task line_pos k in
        let some = marks_it (place_of line_task line_pos) (replicate 1040 0) p n (omega (arith, placed.low k h, length-replicate {A = ℕ} 1040 0)) (inr (k, h, refl)) in
        let few = marks_bit (place_of line_task line_pos) (replicate 1040 0) p n (omega (arith, zeros 1040 p)) in
        omega (arith, some, few)

    -- what lies behind the places of all A lines is not marked
    pub marks_end : (end : ℕ) → ((k : ℕ) → k < n → place_of line_task line_pos k < end) → ZeroFrom end (place_marks n line_task line_pos)
    marks_end end f p h b =
        by (eqb (at (place_marks n line_task line_pos) p) 0) (eqb-true (at (place_marks n line_task line_pos) p) 0)
        (λ e.
        let w = marked_line p (eqb-false (at (place_marks n line_task line_pos) p) 0 e) in
        absurd (omega (arith, f w.0 w.1, w.2, h)))

    -- the marked places are the conditions exactly where each A line names a condition and each condition has an A line
    module _ (present : List ℕ) where
      abbrev Same : Type 0
      Same = (p : ℕ) → p < 1040 → at present p ≡ at (place_marks n line_task line_pos) p

      abbrev Named : Type 0
      Named = (k : ℕ) → k < n → at present (place_of line_task line_pos k) ≡ 1

      abbrev Used : Type 0
      Used = (p : ℕ) → p < 1040 → (at present p ≡ 0 → ⊥) → (k : ℕ) × (k < n) × (place_of line_task line_pos k ≡ p)

      there : Same → Named × Used
      there f = (
        (λ k h. f (place_of line_task line_pos k) (placed.low k h) ∙ line_marked k h),
        (λ p h z. marked_line p (λ q. z (f p h ∙ q))),
      )

      -- no line is of a place without a condition, so that it is not marked
      unmarked : Named → (p : ℕ) → at present p ≡ 0 → at (place_marks n line_task line_pos) p ≡ 0
      unmarked named p z =
          by (eqb (at (place_marks n line_task line_pos) p) 0) (eqb-true (at (place_marks n line_task line_pos) p) 0)
          (λ e.
          let k = marked_line p (eqb-false (at (place_marks n line_task line_pos) p) 0 e) in
          absurd (omega (arith, z, named k.0 k.1, ap (at present) k.2)))

      back : Named × Used → Same
      back w p h =
          by (eqb (at present p) 0)
          (λ e. let z = eqb-true (at present p) 0 e in z ∙ sym (unmarked w.0 p z))
          (λ e.
          let k = w.1 p h (eqb-false (at present p) 0 e) in
          ap (at present) (sym k.2) ∙ w.0 k.0 k.1 ∙ sym (line_marked k.0 k.1) ∙ ap (at (place_marks n line_task line_pos)) k.2)

      pub matched_law : matched_b present (place_marks n line_task line_pos) ≡ (named_b n present line_task line_pos && used_b n present line_task line_pos)
      unfolding matched_b named_b used_b
      matched_law =
          is_same
          (is_said (is_all 1040 (λ p h. is_eqb (at present p) (at (place_marks n line_task line_pos) p))) there back)
          (is_and (is_all n (λ k h. is_eqb (at present (place_of line_task line_pos k)) 1))
          (is_all 1040 (λ p h. is_else (is_eqb (at present p) 0) (is_any n (λ k g. is_eqb (place_of line_task line_pos k) p)))))
