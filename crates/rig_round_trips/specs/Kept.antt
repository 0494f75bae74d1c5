-- Lines by number: one more line at a place above all others.
-- Assumes nothing.
use Rattle.std.specs.Prelude.{ℕ, zero, suc, ◌+◌, ◌≤◌, ◌<◌, ◌≡◌, refl, Bool, true, false, [], ◌∷◌, ◌++◌, eqb}
use Rattle.std.proofs.Common.{sym, append-nil, arith, eqb-true}
use Rattle.std.proofs.lemmas.Bool.{eqb-false}
use Rattle.laws.specs.Cases.{by}
use Rattle.rig_lines.specs.Line.{Line}
use Rattle.rig_write.specs.Kept.{kept}

-- tests and lines that agree below n
pub kept_same : (n : ℕ) (p q : ℕ → Bool) (f h : ℕ → Line) → ((i : ℕ) → i < n → p i ≡ q i) → ((i : ℕ) → i < n → p i ≡ true → f i ≡ h i) → kept n p f ≡ kept n q h
unfolding kept
kept_same zero p q f h e d = refl
kept_same (suc n) p q f h e d =
    let i = kept_same n p q f h (λ j l. e j (omega arith)) (λ j l t. d j (omega arith) t) in
    by (p n)
    (λ t. rw (i, ← e n (omega arith), t, d n (omega arith) t))
    (λ t. rw (i, ← e n (omega arith), t))

pub kept_none : (n : ℕ) (p : ℕ → Bool) (f : ℕ → Line) → ((i : ℕ) → i < n → p i ≡ false) → kept n p f ≡ []
unfolding kept
kept_none zero p f e = refl
kept_none (suc n) p f e = rw (kept_none n p f (λ i l. e i (omega arith)), e n (omega arith))

-- a line at place j, and none at or above it before
pub kept_more : (n j : ℕ) (p q : ℕ → Bool) (f h : ℕ → Line) → j < n →
    ((i : ℕ) → i < j → p i ≡ q i) → ((i : ℕ) → i < j → p i ≡ true → f i ≡ h i) →
    ((i : ℕ) → j ≤ i → i < n → p i ≡ false) → q j ≡ true → ((i : ℕ) → j < i → i < n → q i ≡ false) →
    kept n q h ≡ kept n p f ++ (h j ∷ [])
unfolding kept
kept_more zero j p q f h l e d a b c = absurd (omega arith)
kept_more (suc n) j p q f h l e d a b c =
    by (eqb j n)
    (λ t. let z : j ≡ n = eqb-true j n t in
    let s : kept n q h ≡ kept n p f = sym (kept_same n p q f h (λ i k. e i (rw z k)) (λ i k u. d i (rw z k) u)) in
    let y : q n ≡ true = rw (← z) b in
    let x : p n ≡ false = a n (omega arith) (omega arith) in
    rw (s, y, x, append-nil (kept n p f), z))
    (λ t. let z = eqb-false j n t in
    let k : j < n = omega arith in
    let i = kept_more n j p q f h k e d (λ i u v. a i u (omega arith)) b (λ i u v. c i u (omega arith)) in
    let y : q n ≡ false = c n k (omega arith) in
    let x : p n ≡ false = a n (omega arith) (omega arith) in
    rw (i, y, x, append-nil, append-nil (kept n p f)))
