-- A cycle that rises has nothing behind its first 0: what the loops that end there may leave out.
use Rattle.std.specs.Prelude.{◌≡◌, refl, ◌≢◌, Bool, true, false, not, ◌&&◌, ◌||◌, List, eqb, ltb, length, set}
use Rattle.std.proofs.Math.Path.{sym, ap}
use Rattle.std.proofs.Common.{◌∙◌, arith, add-one, set-set}
use Rattle.std.proofs.lemmas.Bool.{false≢true}
use Prim.Native.Nat.{ℕ, zero, suc, ◌≤◌, ◌<◌}
use Rattle.std.specs.Int.Bits.{bit_or, bit_and, bit_xor}
use Rattle.std.proofs.lemmas.List.{set_comm}
use borrow.Author.Tests.{eqb-true, eqb-false, le-leb, ltb-true, ltb-false, lt-ltb, le-ltb}
use Rattle.laws.specs.Cases.{by}
use Rattle.laws.specs.All.{all}
use Rattle.laws.specs.Laws.All.{all_zero, all_at, all_all, and_right}
use Rattle.laws.specs.Bits.{bit}
use Rattle.laws.specs.Faults.{bit_or_lem, bit_and_lem, bit_not}
use Rattle.laws.specs.Iter.{iter}
use Rattle.laws.specs.Owners.{mark_one, marks}
use Rattle.rig_tables.specs.Tests.{at, small_one, flag_test, flag_rises, cycle_rises, cycle_small}

-- a table by flag, with nothing at 0
abbrev pub flags_only : List ℕ → List ℕ
flags_only l = set l 0 0

set_flag : (l m : List ℕ) (p a : ℕ) → flags_only l ≡ flags_only m → flags_only (set l p a) ≡ flags_only (set m p a)
set_flag l m zero a e = set-set l 0 a 0 ∙ e ∙ sym (set-set m 0 a 0)
set_flag l m (suc p) a e = set_comm l (suc p) 0 a 0 some ∙ ap (λ (x : List ℕ). set x (suc p) a) e ∙ sym (set_comm m (suc p) 0 a 0 some)
  where
    some : suc p ≢ 0
    some q = omega (arith, q)

-- what is at 0 makes no difference to the marks of flags
pub marks_flags : (n : ℕ) (key : ℕ → ℕ) (l m : List ℕ) → flags_only l ≡ flags_only m → flags_only (marks n key l) ≡ flags_only (marks n key m)
unfolding marks iter
marks_flags zero key l m e = e
marks_flags (suc n) key l m e = set_flag (marks n key l) (marks n key m) (key n) 1 (marks_flags n key l m e)

-- behind a 0 stands a 0
next_zero : (f h : ℕ) → f ≡ 0 → flag_test f h ≡ true → h ≡ 0
next_zero f h z = by (eqb h 0) (λ n e. eqb-true h 0 n) (λ n. rw (z, n) (λ e. absurd (false≢true e)))

module _ (flags : List ℕ) (rises : all 14 (flag_rises flags) ≡ true) (i : ℕ) (z : at flags i ≡ 0) where
  pub behind : (k : ℕ) → i ≤ k → k < 15 → at flags k ≡ 0
  behind zero h b = ap (at flags) (omega (arith, h)) ∙ z
  behind (suc k) h b =
      by (eqb i (suc k)) (λ e. ap (at flags) (sym (eqb-true i (suc k) e)) ∙ z)
      (λ e. next_zero (at flags k) (at flags (suc k)) (behind k (omega (arith, h, eqb-false i (suc k) e)) (omega (arith, b)))
      (rw (add-one k) at (all_at 14 (flag_rises flags) rises k (omega (arith, b)))))

-- the fault of a place, as the code puts it together
flag_not : (a b d : Bool) → (not a && (b || not d)) ≡ not (a || (not b && d))
flag_not true b d = refl
flag_not false true true = refl
flag_not false true false = refl
flag_not false false true = refl
flag_not false false false = refl

some_is : (h : ℕ) → ltb 0 h ≡ not (eqb h 0)
some_is h = by (eqb h 0) (λ e. rw (e, le-ltb 0 h (omega (arith, eqb-true h 0 e)))) (λ e. rw (e, lt-ltb 0 h (omega (arith, eqb-false h 0 e))))

pub fault_is : (f h : ℕ) {some none_before rises : ℕ} → some ≡ bit (ltb 0 h) → none_before ≡ bit (eqb f 0) → rises ≡ bit (ltb f h)
    → bit_and some (bit_or none_before (bit_xor 1 rises)) ≡ bit (not (flag_test f h))
fault_is f h a b d =
    rw (a, b, d, bit_not (ltb f h), bit_or_lem (eqb f 0) (not (ltb f h)), bit_and_lem (ltb 0 h) (eqb f 0 || not (ltb f h)))
    (rw (some_is h) (ap bit (flag_not (eqb h 0) (eqb f 0) (ltb f h))))

rises_pairs : (flags : List ℕ) → cycle_rises flags ≡ true → all 14 (flag_rises flags) ≡ true
unfolding cycle_rises
rises_pairs flags e = and_right (eqb (length flags) 15) (all 14 (flag_rises flags)) e

module _ (flags : List ℕ) (rises : cycle_rises flags ≡ true) (i : ℕ) (z : at flags i ≡ 0) where
  -- a cycle that is small up to its first 0 is small
  pub small_up_to : (top : ℕ) → all i (small_one flags top) ≡ true → cycle_small top flags ≡ true
  unfolding cycle_small
  small_up_to top e =
      all_all 15 (small_one flags top)
      (λ k h.
      by (ltb k i) (λ l. all_at i (small_one flags top) e k (ltb-true k i l))
      (λ l. le-leb (at flags k) top (omega (arith, behind flags (rises_pairs flags rises) i z k (ltb-false k i l) h))))

  -- marks from the first 0 on touch place 0 only
  marks_on : (l : List ℕ) (n : ℕ) → i ≤ n → n ≤ 15 → flags_only (iter i (mark_one (at flags)) l) ≡ flags_only (iter n (mark_one (at flags)) l)
  unfolding iter
  marks_on l zero h b =
      let e : i ≡ 0 = omega (arith, h) in
      ap (λ (k : ℕ). flags_only (iter k (mark_one (at flags)) l)) e
  marks_on l (suc n) h b =
      by (eqb i (suc n)) (λ e. ap (λ (k : ℕ). flags_only (iter k (mark_one (at flags)) l)) (eqb-true i (suc n) e))
      (λ e.
      let g : i ≤ n = omega (arith, h, eqb-false i (suc n) e) in
      marks_on l n g (omega (arith, b))
      ∙ sym (rw (behind flags (rises_pairs flags rises) i z n g (omega (arith, b))) (set-set (iter n (mark_one (at flags)) l) 0 1 0)))

  pub marks_up_to : (l : List ℕ) → i < 15 → flags_only (iter i (mark_one (at flags)) l) ≡ flags_only (marks 15 (at flags) l)
  unfolding marks
  marks_up_to l h = marks_on l 15 (omega (arith, h)) (omega arith)

-- a cycle that has a flag is small where its largest is, one that has none always
pub small_table : (top : ℕ) (flags : List ℕ) → length flags ≡ 15 → all (length flags) (small_one flags top) ≡ cycle_small top flags
unfolding cycle_small
small_table top flags z = ap (λ (n : ℕ). all n (small_one flags top)) z

pub small_empty : (top : ℕ) (flags : List ℕ) → cycle_rises flags ≡ true → at flags 0 ≡ 0 → cycle_small top flags ≡ true
small_empty top flags rises z = small_up_to flags rises 0 z top (all_zero (small_one flags top))
