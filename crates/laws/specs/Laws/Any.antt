-- Laws of the definitions of Any.antt.
use Rattle.std.specs.Prelude.{◌≡◌, refl, Bool, true, false, ◌&&◌, ◌||◌, ℕ, zero, suc, ◌+◌, ◌<◌, eqb}
use Rattle.std.proofs.Common.{sym, ap, ◌∙◌, true≢false, add-one, arith, eqb-true, eq-eqb}
use Rattle.laws.specs.Cases.{by, by_bool, by_eqb, below_but, and_true, and_go, or_no}
use Rattle.laws.specs.Any.{any}

or_right : (a b : Bool) → b ≡ true → (a || b) ≡ true
or_right true b e = refl
or_right false b e = e

pub any_zero : (p : ℕ → Bool) → any 0 p ≡ false
unfolding any
any_zero p = refl

-- one number more
pub any_more : (i : ℕ) (p : ℕ → Bool) → any (i + 1) p ≡ (any i p || p i)
unfolding any
any_more i p = rw add-one

pub any_next : (i : ℕ) (p : ℕ → Bool) → any i p ≡ false → p i ≡ false → any (i + 1) p ≡ false
unfolding any
any_next i p a b = rw add-one (rw a b)

-- a number that does not pass changes nothing
pub any_skip : (i : ℕ) (p : ℕ → Bool) → p i ≡ false → any i p ≡ any (i + 1) p
unfolding any
any_skip i p e = rw (add-one, e) (sym (or_no (any i p)))

pub any_at : (n : ℕ) (p : ℕ → Bool) (k : ℕ) → k < n → p k ≡ true → any n p ≡ true
unfolding any
any_at zero p k h e = absurd (omega arith)
any_at (suc n) p k h e =
    by_eqb k n (λ b. (any n p || p n) ≡ true) (λ q. or_right (any n p) (p n) (rw q at e))
    (λ ne. rw (any_at n p k (below_but k n h ne) e))

pub any_not : (n : ℕ) (p : ℕ → Bool) → any n p ≡ false → (k : ℕ) → k < n → p k ≡ false
any_not n p e k h = by_bool (p k) (λ b. b ≡ false) (λ t. absurd (true≢false (sym (any_at n p k h t) ∙ e))) (λ r. refl)

-- where some number passes, one is found
pub any_some : (n : ℕ) (p : ℕ → Bool) → any n p ≡ true → (k : ℕ) × (k < n) × (p k ≡ true)
unfolding any
any_some zero p e = absurd (true≢false (sym e))
any_some (suc n) p e =
    by (p n) (λ q. (n, omega arith, q)) (λ q. let w = any_some n p (left (any n p) (p n) q e) in (w.0, omega (arith, w.1), w.2))
  where
    left : (a b : Bool) → b ≡ false → (a || b) ≡ true → a ≡ true
    left true b q e = refl
    left false b q e = absurd (true≢false (sym e ∙ q))

-- tests that agree on the first n numbers
pub any_same : (n : ℕ) (p q : ℕ → Bool) → ((k : ℕ) → k < n → p k ≡ q k) → any n p ≡ any n q
unfolding any
any_same zero p q h = refl
any_same (suc n) p q h = rw (any_same n p q (λ k l. h k (omega arith)), h n (omega arith))

-- a test that none of them passes
pub any_none : (n : ℕ) (p : ℕ → Bool) → ((k : ℕ) → k < n → p k ≡ false) → any n p ≡ false
unfolding any
any_none zero p h = refl
any_none (suc n) p h = rw (any_none n p (λ k l. h k (omega arith)), h n (omega arith))

-- one of two tests at some number
pub any_or : (n : ℕ) (p q : ℕ → Bool) → any n (λ k. p k || q k) ≡ (any n p || any n q)
unfolding any
any_or zero p q = refl
any_or (suc n) p q = ap (λ (b : Bool). b || (p n || q n)) (any_or n p q) ∙ swap (any n p) (any n q) (p n) (q n)
  where
    swap : (a b x y : Bool) → ((a || b) || (x || y)) ≡ ((a || x) || (b || y))
    swap true b x y = refl
    swap false true true y = refl
    swap false true false y = refl
    swap false false x y = refl

-- a test at the number i alone
pub any_one : (n : ℕ) (p : ℕ → Bool) (i : ℕ) → i < n → any n (λ k. p k && eqb k i) ≡ p i
any_one n p i h =
    by_bool (p i) (λ b. any n (λ k. p k && eqb k i) ≡ b)
    (λ e. any_at n (λ k. p k && eqb k i) i h (and_go e (eq-eqb i i refl)))
    (λ e.
    by_bool (any n (λ k. p k && eqb k i)) (λ b. b ≡ false)
    (λ t.
    let w = any_some n (λ k. p k && eqb k i) t in
    let both = and_true (p w.0) (eqb w.0 i) w.2 in
    absurd (true≢false (sym both.0 ∙ ap p (eqb-true w.0 i both.1) ∙ e)))
    (λ t. refl))
