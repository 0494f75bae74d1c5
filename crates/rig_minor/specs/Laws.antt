-- Lines of one condition stand together, so that the tests by neighbours say what the test of rig_tables says.
use Rattle.std.specs.Prelude.{◌≡◌, refl, Bool, ◌&&◌, ◌||◌, true, false, List, ℕ, ◌+◌, ◌-◌, ◌≤◌, ◌<◌, zero, suc, length, take, drop, ltb, ◌≢◌}
use Rattle.std.proofs.Math.Bool.{not}
use Rattle.std.proofs.Math.Dec.{eqb}
use Rattle.laws.specs.All.{all}
use Rattle.rig_tables.specs.Tests.{at, place_of, is_only_one, minor_condition_one, marked}
use Rattle.std.proofs.lemmas.List.{get_or-take, get_or-drop, length-take-le, length-drop}
use Rattle.laws.specs.Laws.All.{all_same}
use Rattle.std.proofs.Common.{sym, ◌∙◌, ap, arith, eqb-true, eq-eqb, ne_eqb, ltb-true, ltb-false}
use Rattle.std.proofs.lemmas.Bool.{eqb-false}
use Rattle.laws.specs.Cases.{by, or_yes, or_skip}
use Rattle.laws.specs.Laws.Decides.{is_eqb, is_ltb, is_and, is_not, is_then, is_all, is_said, is_same}
use Rattle.rig_tables.specs.Lines.{Together}
use Rattle.rig_minor.specs.Neighbours.{same_before, same_behind, minor_ok_b}

and_swap : (a b : Bool) → (a && b) ≡ (b && a)
and_swap true true = refl
and_swap true false = refl
and_swap false true = refl
and_swap false false = refl

-- a line's flag, taken out with others
pub flag_at : (line_flag : List ℕ) (k m i : ℕ) → i < m → at (take m (drop k line_flag)) i ≡ at line_flag (k + i)
flag_at line_flag k m i h = get_or-take m (drop k line_flag) i 0 h ∙ get_or-drop k line_flag i 0

-- no flag of m lines from line k on is marked, as those lines' flags are taken out of the table
pub flags_at : (flags line_flag : List ℕ) (k m : ℕ) → k + m ≤ length line_flag
    → all (length (take m (drop k line_flag))) (λ i. eqb (at flags (at (take m (drop k line_flag)) i)) 0) ≡ all m (λ i. eqb (at flags (at line_flag (k + i))) 0)
flags_at flags line_flag k m h =
    let e : length (take m (drop k line_flag)) ≡ m = length-take-le m (drop k line_flag) (omega (arith, length-drop k line_flag, h)) in
    ap (λ (n : ℕ). all n (λ i. eqb (at flags (at (take m (drop k line_flag)) i)) 0)) e
    ∙ all_same m (λ i. eqb (at flags (at (take m (drop k line_flag)) i)) 0) (λ i. eqb (at flags (at line_flag (k + i))) 0)
    (λ i j. ap (λ (f : ℕ). eqb (at flags f) 0) (flag_at line_flag k m i j))

module _ (n : ℕ) (line_task line_pos : List ℕ) where
  module _ (together : Together n line_task line_pos) where
    place_le : (d i : ℕ) → i + d < n → place_of line_task line_pos i ≤ place_of line_task line_pos (i + d)
    place_le zero i h = let e : i + 0 ≡ i = omega arith in rw e (omega arith)
    place_le (suc d) i h =
        let e : i + suc d ≡ i + d + 1 = omega arith in
        rw e (omega (arith, place_le d i (omega arith), together (i + d) (omega arith)))

    -- a line is alone with its condition exactly where its neighbours are of other conditions
    module _ (k : ℕ) (h : k < n) where
      abbrev Only : Type 0
      Only = (j : ℕ) → j < n → place_of line_task line_pos j ≡ place_of line_task line_pos k → j ≡ k

      abbrev Apart : Type 0
      Apart =
          ((0 < k) × (place_of line_task line_pos (k - 1) ≡ place_of line_task line_pos k) → ⊥)
          × ((k + 1 < n) × (place_of line_task line_pos (k + 1) ≡ place_of line_task line_pos k) → ⊥)

      only_apart : Only → Apart
      only_apart f = (
        (λ w. omega (arith, w.0, f (k - 1) (omega (arith, w.0, h)) w.1)),
        (λ w. omega (arith, f (k + 1) w.0 w.1)),
      )

      apart_only : Apart → Only
      apart_only w j g e =
          by (ltb j k)
          (λ q.
          let l = ltb-true j k q in
          let a = place_le (k - 1 - j) j (omega (arith, l, h)) in
          let b : j + (k - 1 - j) ≡ k - 1 = omega (arith, l) in
          let d = rw b at a in
          let s = together (k - 1) (omega (arith, l, h)) in
          let z : k - 1 + 1 ≡ k = omega (arith, l) in
          let t = rw z at s in
          absurd (w.0 (omega (arith, l), omega (arith, d, t, e))))
          (λ q.
          by (ltb k j)
          (λ r.
          let l = ltb-true k j r in
          let a = place_le (j - (k + 1)) (k + 1) (omega (arith, l, g)) in
          let b : k + 1 + (j - (k + 1)) ≡ j = omega (arith, l) in
          let d = rw b at a in
          let s = together k (omega (arith, l, g)) in
          absurd (w.1 (omega (arith, l, g), omega (arith, d, s, e))))
          (λ r. omega (arith, ltb-false j k q, ltb-false k j r)))

      alone_law : all n (is_only_one line_task line_pos k) ≡ (not (same_before line_task line_pos k) && not (same_behind n line_task line_pos k))
      unfolding same_before same_behind
      alone_law =
          is_same
          (is_said
          (is_all n (λ j g. is_then (is_eqb (place_of line_task line_pos j) (place_of line_task line_pos k)) (is_eqb j k)))
          only_apart apart_only)
          (is_and
          (is_not (is_and (is_ltb 0 k) (is_eqb (place_of line_task line_pos (k - 1)) (place_of line_task line_pos k))))
          (is_not (is_and (is_ltb (k + 1) n) (is_eqb (place_of line_task line_pos (k + 1)) (place_of line_task line_pos k)))))

      module _ (latched desired line_flag flags : List ℕ) where
        -- a line whose flag is not marked passes; one whose flag is passes where its condition does
        pub minor_not : at flags (at line_flag k) ≡ 0 → minor_condition_one n latched desired line_task line_pos line_flag (marked flags) k ≡ true
        minor_not e = rw (eq-eqb (at flags (at line_flag k)) 0 e)

        pub minor_so : at flags (at line_flag k) ≢ 0
            → minor_condition_one n latched desired line_task line_pos line_flag (marked flags) k ≡ minor_ok_b n latched desired line_task line_pos k
        unfolding minor_ok_b
        minor_so e =
            rw (ne_eqb (at flags (at line_flag k)) 0 e, alone_law)
            (and_swap (not (same_before line_task line_pos k) && not (same_behind n line_task line_pos k))
            (eqb (at latched (place_of line_task line_pos k)) 0 && eqb (at desired (place_of line_task line_pos k)) 1))

        -- so in either case
        pub minor_either : (eqb (at flags (at line_flag k)) 0 || minor_ok_b n latched desired line_task line_pos k)
            ≡ minor_condition_one n latched desired line_task line_pos line_flag (marked flags) k
        minor_either =
            let f = at flags (at line_flag k) in
            let right = minor_ok_b n latched desired line_task line_pos k in
            by (eqb f 0) (λ e. sym (or_yes (eqb f 0) right e) ∙ sym (minor_not (eqb-true f 0 e)))
            (λ e. sym (or_skip (eqb f 0) right e) ∙ sym (minor_so (eqb-false f 0 e)))
