-- Laws of the definitions of Stores.antt.
use Rattle.std.specs.Prelude.{◌≡◌, ◌≢◌, Bool, true, false, cond, ◌&&◌, eqb, length, get_or, set, replicate}
use Rattle.std.proofs.Math.Path.{refl}
use Rattle.std.proofs.Common.{sym, ap, ◌∙◌, subst, true≢false, arith, le_refl, length-set, get_or-set_same, get_or-set_other, eqb-true, eq-eqb}
use mathlib.Core.List.{List}
use Prim.Native.Nat.{ℕ, zero, suc, ◌+◌, ◌≤◌, ◌<◌}
use Rattle.std.proofs.lemmas.List.{length-replicate}
use Rattle.laws.specs.Any.{any}
use Rattle.laws.specs.Bits.{bit}
use Rattle.laws.specs.Cases.{by_bool, and_true, and_go, if_yes, if_no, dec_eq}
use Rattle.laws.specs.Iter.{iter}
use Rattle.laws.specs.Laws.Any.{any_some, any_not, any_one}
use Rattle.laws.specs.Laws.Bits.{mark_bit}
use Rattle.laws.specs.Laws.Iter.{iter_ind, iter_step}
use Rattle.laws.specs.Laws.Tables.{zeros_at}
use Rattle.laws.specs.Stores.{store_one}

module _ (test : ℕ → Bool) (at value : ℕ → ℕ) where
  -- what the list has and each store that is made keeps
  pub stores_keep : (P : List ℕ → Type 0) (n : ℕ) → ((k : ℕ) (l : List ℕ) → k < n → test k ≡ true → P l → P (set l (at k) (value k)))
      → (l : List ℕ) → P l → P (iter n (store_one test at value) l)
  stores_keep P n f l h =
      iter_ind (λ i m. i ≤ n → P m) (store_one test at value) l (λ q. h) (λ k m g q. go k m (omega arith) (g (omega arith)) (test k) refl) n (le_refl _)
    where
      go : (k : ℕ) (m : List ℕ) → k < n → P m → (b : Bool) → test k ≡ b → P (cond b (set m (at k) (value k)) m)
      go k m a g true e = f k m a e g
      go k m a g false e = g

  pub stores_length : (n : ℕ) (l : List ℕ) → length (iter n (store_one test at value) l) ≡ length l
  stores_length n l = stores_keep (λ m. length m ≡ length l) n (λ k m a e h. length-set m (at k) (value k) ∙ h) l refl

  -- a place that no store is made at is as it was
  pub stores_miss : (n : ℕ) (l : List ℕ) (i : ℕ) → ((k : ℕ) → k < n → test k ≡ true → i ≢ at k)
      → get_or (iter n (store_one test at value) l) i 0 ≡ get_or l i 0
  stores_miss n l i f =
      stores_keep (λ m. get_or m i 0 ≡ get_or l i 0) n (λ k m a e h. get_or-set_other m (at k) i (value k) 0 (f k a e) ∙ h) l refl

  -- a place that a store is made at holds its value, if all that are made there store the same
  pub stores_hit : (n : ℕ) (l : List ℕ) (k : ℕ) → k < n → test k ≡ true → at k < length l
      → ((j : ℕ) → j < n → test j ≡ true → at j ≡ at k → value j ≡ value k)
      → get_or (iter n (store_one test at value) l) (at k) 0 ≡ value k
  unfolding iter
  stores_hit zero l k a e b f = absurd (omega arith)
  stores_hit (suc n) l k a e b f =
      go (dec_eq k n) (dec_eq (at k) (at n)) (test n) refl (λ c. stores_hit n l k c e b (λ j d. f j (omega arith)))
    where
      m : List ℕ
      m = iter n (store_one test at value) l

      here : at n < length l → get_or (set m (at n) (value n)) (at n) 0 ≡ value n
      here c = get_or-set_same m (at n) (value n) 0 (omega (arith, stores_length n l))

      go : Dec (k ≡ n) → Dec (at k ≡ at n) → (x : Bool) → test n ≡ x → (k < n → get_or m (at k) 0 ≡ value k)
          → get_or (cond x (set m (at n) (value n)) m) (at k) 0 ≡ value k
      go (yes p) q true y ih = subst (λ (j : ℕ). get_or (set m (at n) (value n)) (at j) 0 ≡ value j) (sym p) (here (subst (λ (j : ℕ). at j < length l) p b))
      go (yes p) q false y ih = absurd (true≢false (sym e ∙ ap test p ∙ y))
      go (no p) (yes q) true y ih =
          subst (λ (i : ℕ). get_or (set m (at n) (value n)) i 0 ≡ value k) (sym q) (here (subst (λ (i : ℕ). i < length l) q b) ∙ f n (omega arith) y (sym q))
      go (no p) (no q) true y ih = get_or-set_other m (at n) (at k) (value n) 0 q ∙ ih (omega arith)
      go (no p) q false y ih = ih (omega arith)

-- a store of 1 at each turn whose test says so: a place is 1 if a turn is its own, and else as it was
pub stores_mark : (test : ℕ → Bool) (at : ℕ → ℕ) (n : ℕ) (l : List ℕ) (i : ℕ) → i < length l
    → get_or (iter n (store_one test at (λ k. 1)) l) i 0 ≡ cond (any n (λ k. test k && eqb (at k) i)) 1 (get_or l i 0)
stores_mark test at n l i h =
    by_bool (any n (λ k. test k && eqb (at k) i)) (λ b. get_or (iter n (store_one test at (λ k. 1)) l) i 0 ≡ cond b 1 (get_or l i 0))
    (λ e.
    let w = any_some n (λ k. test k && eqb (at k) i) e in
    let both = and_true (test w.0) (eqb (at w.0) i) w.2 in
    let here = eqb-true (at w.0) i both.1 in
    subst (λ (j : ℕ). get_or (iter n (store_one test at (λ k. 1)) l) j 0 ≡ 1) here
    (stores_hit test at (λ k. 1) n l w.0 w.1 both.0 (subst (λ (j : ℕ). j < length l) (sym here) h) (λ j a b c. refl)))
    (λ e. stores_miss test at (λ k. 1) n l i (λ k a b c.
    true≢false (sym (and_go b (eq-eqb (at k) i (sym c))) ∙ any_not n (λ k. test k && eqb (at k) i) e k a)))

-- each of n places is given its own bit
pub each_bit : (n : ℕ) (test : ℕ → Bool) (i : ℕ) → i < n
    → get_or (iter n (store_one (λ k. true) (λ k. k) (λ k. bit (test k))) (replicate n 0)) i 0 ≡ bit (test i)
each_bit n test i h =
    stores_hit (λ k. true) (λ k. k) (λ k. bit (test k)) n (replicate n 0) i h refl (omega (arith, length-replicate {A = ℕ} n 0, h))
    (λ j a b c. ap (λ (x : ℕ). bit (test x)) c)

-- each of n places that passes is marked
pub each_mark : (n : ℕ) (test : ℕ → Bool) (i : ℕ) → i < n
    → get_or (iter n (store_one test (λ k. k) (λ k. 1)) (replicate n 0)) i 0 ≡ bit (test i)
each_mark n test i h =
    stores_mark test (λ k. k) n (replicate n 0) i (omega (arith, length-replicate {A = ℕ} n 0, h))
    ∙ ap (λ (x : ℕ). cond (any n (λ k. test k && eqb k i)) 1 x) (zeros_at n i)
    ∙ mark_bit (any n (λ k. test k && eqb k i)) false
    ∙ ap bit (any_one n test i h)

-- a turn of such a loop: its store is made, or not
module _ (test : ℕ → Bool) (at value : ℕ → ℕ) (k : ℕ) (l₀ l : List ℕ) (h : l ≡ iter k (store_one test at value) l₀) where
  pub stored_next : store_one test at value k l ≡ iter (k + 1) (store_one test at value) l₀
  stored_next = iter_step k (store_one test at value) l₀ l h

  pub stored_yes : test k ≡ true → set l (at k) (value k) ≡ iter (k + 1) (store_one test at value) l₀
  stored_yes e = sym (if_yes _ e refl) ∙ stored_next

  pub stored_no : test k ≡ false → l ≡ iter (k + 1) (store_one test at value) l₀
  stored_no e = sym (if_no _ e refl) ∙ stored_next
