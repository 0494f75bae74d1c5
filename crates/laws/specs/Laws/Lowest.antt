-- Laws of the definition of Lowest.antt.
use Rattle.std.specs.Prelude.{◌≡◌, refl, Bool, true, false, cond, ℕ, zero, suc, ◌≤◌, ◌<◌, ltb}
use Rattle.std.proofs.Common.{sym, ◌∙◌, ap, true≢false, arith, ltb-true, ltb-false}
use Rattle.laws.specs.Cases.{by}
use Rattle.laws.specs.Lowest.{lowest}

pub lowest_most : (n : ℕ) (p : ℕ → Bool) → lowest n p ≤ n
unfolding lowest
lowest_most zero p = omega arith
lowest_most (suc n) p =
    by (p zero) (λ e. rw e (omega arith)) (λ e. rw e (omega (arith, lowest_most n (λ k. p (suc k)))))

-- where it is one of them, it passes
pub lowest_passes : (n : ℕ) (p : ℕ → Bool) → lowest n p < n → p (lowest n p) ≡ true
unfolding lowest
lowest_passes zero p h = absurd (omega arith)
lowest_passes (suc n) p h = go (p zero) refl h (lowest_passes n (λ k. p (suc k)))
  where
    go : (b : Bool) → p zero ≡ b → cond b zero (suc (lowest n (λ k. p (suc k)))) < suc n
        → (lowest n (λ k. p (suc k)) < n → p (suc (lowest n (λ k. p (suc k)))) ≡ true)
        → p (cond b zero (suc (lowest n (λ k. p (suc k))))) ≡ true
    go true e h rest = e
    go false e h rest = rest (omega arith)

-- and no lower number does
pub lowest_before : (n : ℕ) (p : ℕ → Bool) (k : ℕ) → k < lowest n p → p k ≡ false
unfolding lowest
lowest_before zero p k h = absurd (omega arith)
lowest_before (suc n) p k h = go (p zero) refl k h (lowest_before n (λ j. p (suc j)))
  where
    go : (b : Bool) → p zero ≡ b → (k : ℕ) → k < cond b zero (suc (lowest n (λ j. p (suc j))))
        → ((j : ℕ) → j < lowest n (λ i. p (suc i)) → p (suc j) ≡ false)
        → p k ≡ false
    go true e k h rest = absurd (omega arith)
    go false e zero h rest = e
    go false e (suc k) h rest = rest k (omega arith)

-- so a number that passes, with none below it that does, is the lowest; and where none passes it is n
pub lowest_is : (n : ℕ) (p : ℕ → Bool) (m : ℕ) → m < n → p m ≡ true → ((k : ℕ) → k < m → p k ≡ false) → lowest n p ≡ m
lowest_is n p m h e f =
    let l = lowest n p in
    let low : l ≤ m = by_not_above l m (λ g. true≢false (sym e ∙ lowest_before n p m g)) in
    let high : m ≤ l = by_not_above m l (λ g. true≢false (sym (lowest_passes n p (omega (arith, g, h))) ∙ f l g)) in
    omega (arith, low, high)
  where
    by_not_above : (a b : ℕ) → (b < a → ⊥) → a ≤ b
    by_not_above a b never = by (ltb b a) (λ t. absurd (never (ltb-true b a t))) (λ t. ltb-false b a t)

pub lowest_none : (n : ℕ) (p : ℕ → Bool) → ((k : ℕ) → k < n → p k ≡ false) → lowest n p ≡ n
unfolding lowest
lowest_none zero p f = refl
lowest_none (suc n) p f = rw (f zero (omega arith)) (ap suc (lowest_none n (λ k. p (suc k)) (λ k h. f (suc k) (omega arith))))

-- tests that agree on the first n numbers
pub lowest_same : (n : ℕ) (p q : ℕ → Bool) → ((k : ℕ) → k < n → p k ≡ q k) → lowest n p ≡ lowest n q
unfolding lowest
lowest_same zero p q h = refl
lowest_same (suc n) p q h =
    rw (h zero (omega arith), lowest_same n (λ k. p (suc k)) (λ k. q (suc k)) (λ k l. h (suc k) (omega arith)))
