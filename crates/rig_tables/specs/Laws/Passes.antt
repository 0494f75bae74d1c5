-- What the loops over a table keep and cite: entries at most a number, numbers between two others.
use Rattle.std.specs.Prelude.{◌≡◌, refl, ◌⊎◌, ◌≢◌, Bool, true, false, ◌&&◌, List, ℕ, length, take, get_or, ◌+◌, ◌≤◌, ◌<◌, max, zero, suc, eqb, leb, ltb}
use Rattle.std.proofs.Common.{sym, ◌∙◌, ap, inl, inr, arith, add-one, le-leb, ltb-true, ltb-false}
use Rattle.std.specs.List.{list_all, range_with_len, enumerate_from}
use Rattle.std.proofs.lemmas.List.FromFn.{length-range_with_len, get_or-range_with_len, length-enumerate_from, get_or-enumerate_from}
use Rattle.std.proofs.Math.Seq.{take-length}
use Rattle.std.proofs.lemmas.List.Folds.{list_all_more}
use Rattle.std.proofs.Math.Dec.{leb-zero}
use Rattle.std.proofs.Math.Nat.{max-eq_left, max-eq_right}
use Rattle.std.proofs.lemmas.Bool.{lt-leb}
use Rattle.laws.specs.Cases.{by, and_go, and_stop, and_no}
use Rattle.laws.specs.All.{all}
use Rattle.laws.specs.Laws.All.{all_zero, all_next, all_not, all_same, passed_none, passed_next, passed_not}
use Rattle.laws.specs.Largest.{top_next}
use Rattle.rig_tables.specs.Tests.{at, within, small_one}

-- an entry that is 0
abbrev pub zero_one : List ℕ → ℕ → Bool
zero_one l i = eqb (at l i) 0

-- each entry so far is at most top
module _ (l : List ℕ) (top : ℕ) where
  abbrev pub Topped : ℕ → ℕ → Type 0
  Topped most i = leb most top ≡ all i (small_one l top)

  pub topped_none : Topped 0 0
  topped_none = leb-zero top ∙ sym (all_zero (small_one l top))

  pub topped_next : (most i : ℕ) → Topped most i → {new : ℕ} {A B : Type 0} → (A × (new ≡ at l i)) ⊎ (B × (new ≡ most))
      → (A → most < at l i) → (B → at l i ≤ most) → Topped new (i + 1)
  topped_next most i p = top_next most i (small_one l top) (at l i) top p refl

  pub topped_max : (most i : ℕ) → Topped most i → Topped (max most (at l i)) (i + 1)
  topped_max most i p =
      topped_next most i p
      (by (ltb most (at l i))
      (λ e. let h = ltb-true most (at l i) e in inl (h, max-eq_right (omega (arith, h))))
      (λ e. let h = ltb-false most (at l i) e in inr (h, max-eq_left h)))
      (λ w. w) (λ w. w)

-- a test of each entry, along the list and by number
module _ {X : Type 0} (p : X → Bool) (l : List X) (d : X) where
  first_entries : (n : ℕ) → n ≤ length l → list_all p (take n l) ≡ all n (λ k. p (get_or l k d))
  unfolding all
  first_entries zero h = refl
  first_entries (suc n) h =
      rw add-one at (list_all_more p l n d (omega (arith, h))) ∙ ap (λ (b : Bool). b && p (get_or l n d)) (first_entries n (omega (arith, h)))

  pub each_entry : list_all p l ≡ all (length l) (λ k. p (get_or l k d))
  each_entry = ap (list_all p) (sym (take-length l)) ∙ first_entries (length l) (omega arith)

-- of each entry with its number
pub each_place : (p : ℕ × ℕ → Bool) (l : List ℕ) → list_all p (enumerate_from 0 l) ≡ all (length l) (λ k. p (k, at l k))
each_place p l =
    each_entry p (enumerate_from 0 l) (0, 0)
    ∙ ap (λ (m : ℕ). all m (λ k. p (get_or (enumerate_from 0 l) k (0, 0)))) (length-enumerate_from 0 l)
    ∙ all_same (length l) (λ k. p (get_or (enumerate_from 0 l) k (0, 0))) (λ k. p (k, at l k))
    (λ k h. ap p (get_or-enumerate_from 0 l k (0, 0) h ∙ ap (λ (i : ℕ). (i, at l k)) (omega arith)))

-- of n numbers from one on, and of the first numbers
pub each_from : (p : ℕ → Bool) (a n : ℕ) → list_all p (range_with_len a n) ≡ all n (λ i. p (a + i))
each_from p a n =
    each_entry p (range_with_len a n) 0
    ∙ ap (λ (m : ℕ). all m (λ i. p (at (range_with_len a n) i))) (length-range_with_len a n)
    ∙ all_same n (λ i. p (at (range_with_len a n) i)) (λ i. p (a + i)) (λ i h. ap p (get_or-range_with_len a n i 0 h))

pub each_number : (p : ℕ → Bool) (n : ℕ) → list_all p (range_with_len 0 n) ≡ all n p
each_number p n = each_from p 0 n ∙ all_same n (λ i. p (0 + i)) p (λ i h. ap p (omega arith))

-- a number between two others, and one that is not
module _ (low n high : ℕ) where
  pub within_yes : low ≤ n → n ≤ high → within low n high ≡ true
  within_yes a b = and_go (le-leb low n a) (le-leb n high b)

  pub within_below : n < low → within low n high ≡ false
  within_below a = and_stop (leb n high) (lt-leb low n a)

  pub within_above : high < n → within low n high ≡ false
  within_above a = rw (lt-leb n high a) (and_no (leb low n))

pub ruleset ranges = (within_yes, within_below, within_above)

-- what a number that is not 0 is one more than
pub some_suc : (n : ℕ) → n ≢ 0 → (i : ℕ) × (n ≡ suc i)
some_suc zero h = absurd (h refl)
some_suc (suc n) h = (n, refl)

-- the steps of a loop over a table, one that marks what fails and goes on and one that leaves at the first that fails: where it
-- begins, an entry that passes, one that does not
pub ruleset steps = (passed_none, passed_next, passed_not, all_zero, all_next, all_not)
