-- Laws of the definitions of Owners.antt.
use Rattle.std.specs.Prelude.{◌≡◌, refl, ◌⊎◌, ◌≢◌, List, [], ◌∷◌, eqb, set, replicate}
use Rattle.std.proofs.Math.Path.{sym, ap}
use Rattle.std.proofs.Common.{◌∙◌, get_or-set_other}
use Rattle.std.proofs.Math.Logic.{inl, inr, ⊎_elim}
use Prim.Native.Nat.{ℕ, zero, suc, ◌+◌, ◌≤◌, ◌<◌}
use native.Mathlib.Omega.{arith}
use Rattle.std.proofs.Math.ListN.{length, get_or, length-set}
use Rattle.std.proofs.lemmas.List.{length-replicate}
use Rattle.std.proofs.Math.Seq.{get_or-set_same}
use borrow.Author.Tests.{eqb-true, eqb-false}
use Rattle.laws.specs.Cases.{by, below_but}
use Rattle.laws.specs.Laws.Iter.{iter_ind}
use Rattle.laws.specs.Laws.Tables.{zeros}
use Rattle.laws.specs.Owners.{own_one, owners, mark_one, marks}

-- what is read after a store was stored there, or was there before
pub set_cases : (l : List ℕ) (i j a b : ℕ) → get_or (set l i a) j 0 ≡ b → ((j ≡ i) × (a ≡ b)) ⊎ (get_or l j 0 ≡ b)
set_cases [] i j a b e = inr e
set_cases (x ∷ xs) zero zero a b e = inl (refl, e)
set_cases (x ∷ xs) zero (suc j) a b e = inr e
set_cases (x ∷ xs) (suc i) zero a b e = inr e
set_cases (x ∷ xs) (suc i) (suc j) a b e = ⊎_elim (λ w. inl (ap suc w.0, w.1)) (λ w. inr w) (set_cases xs i j a b e)

module _ (key : ℕ → ℕ) (m : ℕ) where
  -- an entry names a number with that key
  pub owner_key : (n p i : ℕ) → get_or (owners n key m) p 0 ≡ suc i → (i < n) × (key i ≡ p)
  unfolding owners
  owner_key n p i =
      iter_ind (λ k l. get_or l p 0 ≡ suc i → (i < k) × (key i ≡ p)) (own_one key) (replicate m 0)
      (λ e. absurd (omega (arith, zeros m p)))
      (λ k l h e.
      ⊎_elim (λ w. let q : i ≡ k = omega arith in (omega arith, ap key q ∙ sym w.0)) (λ q. let r = h q in (omega (arith, r.0), r.1))
      (set_cases l (key k) p (k + 1) (suc i) e))
      n

  -- each number's key has an owner
  pub owner_some : (n i : ℕ) → i < n → key i < m → get_or (owners n key m) (key i) 0 ≢ 0
  unfolding owners
  owner_some n i l g =
      (iter_ind (λ k l. (length l ≡ m) × (i < k → get_or l (key i) 0 ≢ 0)) (own_one key) (replicate m 0)
      (length-replicate m 0, (λ h. absurd (omega arith)))
      (λ k l h. (
        length-set l (key k) (k + 1) ∙ h.0,
        (λ b.
            by (eqb (key i) (key k))
            (λ e. let q = eqb-true (key i) (key k) e in let z : get_or (set l (key k) (k + 1)) (key k) 0 ≡ k + 1 = get_or-set_same l (key k) (k + 1) 0 (omega arith) in rw q (λ y. omega (arith, z, y)))
            (λ e. let u = eqb-false (key i) (key k) e in
            rw (get_or-set_other l (key k) (key i) (k + 1) 0 u) (h.1 (below_but i k b (λ q. u (ap key q)))))),
      ))
      n).1 l

pub marks_length : (n : ℕ) (key : ℕ → ℕ) (l : List ℕ) → length (marks n key l) ≡ length l
unfolding marks
marks_length n key l = iter_ind (λ k r. length r ≡ length l) (mark_one key) l refl (λ k r h. length-set r (key k) 1 ∙ h) n

-- a place is marked that was so before, or that is the key of some number
module _ (key : ℕ → ℕ) (l : List ℕ) (f : ℕ) where
  pub marked_by : (n : ℕ) → get_or (marks n key l) f 0 ≢ 0 → (get_or l f 0 ≢ 0) ⊎ ((i : ℕ) × (i < n) × (key i ≡ f))
  unfolding marks
  marked_by n =
      iter_ind (λ k r. get_or r f 0 ≢ 0 → (get_or l f 0 ≢ 0) ⊎ ((i : ℕ) × (i < k) × (key i ≡ f))) (mark_one key) l (λ h. inl h)
      (λ k r h z.
      ⊎_elim (λ w. inr (k, omega arith, sym w.0))
      (λ e. ⊎_elim (λ y. inl y) (λ w. inr (w.0, omega (arith, w.1), w.2)) (h (λ q. z (sym e ∙ q))))
      (set_cases r (key k) f 1 (get_or (set r (key k) 1) f 0) refl))
      n

  -- a table of 0 and 1 stays one
  pub marks_bit : (n : ℕ) → get_or l f 0 ≤ 1 → get_or (marks n key l) f 0 ≤ 1
  unfolding marks
  marks_bit n h =
      iter_ind (λ k r. get_or r f 0 ≤ 1) (mark_one key) l h
      (λ k r g. ⊎_elim (λ w. omega (arith, w.1)) (λ e. omega (arith, e, g)) (set_cases r (key k) f 1 (get_or (set r (key k) 1) f 0) refl))
      n

  pub marks_it : (n : ℕ) → f < length l → (get_or l f 0 ≢ 0) ⊎ ((i : ℕ) × (i < n) × (key i ≡ f)) → get_or (marks n key l) f 0 ≢ 0
  unfolding marks
  marks_it n b =
      (iter_ind (λ k r. (length r ≡ length l) × ((get_or l f 0 ≢ 0) ⊎ ((i : ℕ) × (i < k) × (key i ≡ f)) → get_or r f 0 ≢ 0)) (mark_one key) l
      (refl, (λ w. ⊎_elim (λ y. y) (λ v. absurd (omega (arith, v.1))) w))
      (λ k r h. (
        length-set r (key k) 1 ∙ h.0,
        (λ w.
            by (eqb f (key k))
            (λ e.
            let q = eqb-true f (key k) e in
            let y : get_or (set r (key k) 1) (key k) 0 ≡ 1 = get_or-set_same r (key k) 1 0 (omega arith) in
            rw q (λ z. omega (arith, y, z)))
            (λ e.
            let u = eqb-false f (key k) e in
            rw (get_or-set_other r (key k) f 1 0 u)
            (h.1 (⊎_elim (λ y. inl y) (λ v. inr (v.0, below_but v.0 k v.1 (λ q. u (sym v.2 ∙ ap key q)), v.2)) w)))),
      ))
      n).1
