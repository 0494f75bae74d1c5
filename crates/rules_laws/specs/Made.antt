-- How many tasks went from one state to dispatchable: what a store adds to that number, and that it adds up over steps.
use Rattle.std.specs.Prelude.{◌≡◌, refl, ◌≢◌, ◌⊎◌, Bool, true, false, cond, ◌&&◌, List, [], ◌∷◌, ℕ, zero, suc, ◌+◌, ◌≤◌, ◌<◌, eqb, length, get_or, set}
use Rattle.std.proofs.Common.{sym, ap, ◌∙◌, inl, inr, ⊎_elim, zero-le, arith, not-suc-le-zero, le_of_suc-le-suc, eq-eqb, ne_eqb}
use Rattle.laws.specs.Cases.{dec_eq}
use Rattle.laws.specs.Tables.{total}
use Rattle.rules.specs.State.{dispatchable}
use Rattle.rules.specs.Serving.{made}
use Rattle.rules.specs.Soundness.{Within}

-- one task: 1 if it was a and is dispatchable
abbrev one : ℕ → ℕ → ℕ → ℕ
one a x y = cond (eqb x a && eqb y 3) 1 0

one_yes : (a x y : ℕ) → x ≡ a → y ≡ 3 → one a x y ≡ 1
one_yes a x y e f = rw (eq-eqb x a e, eq-eqb y 3 f)

one_not_was : (a x y : ℕ) → x ≢ a → one a x y ≡ 0
one_not_was a x y n = rw (ne_eqb x a n)

one_not_is : (a x y : ℕ) → y ≢ 3 → one a x y ≡ 0
one_not_is a x y n = go (dec_eq x a)
  where
    go : Dec (x ≡ a) → one a x y ≡ 0
    go (yes e) = rw (eq-eqb x a e, ne_eqb y 3 n)
    go (no e) = one_not_was a x y e

one_le : (a x y : ℕ) → one a x y ≤ 1
one_le a x y = go (eqb x a && eqb y 3)
  where
    go : (b : Bool) → cond b 1 0 ≤ 1
    go true = omega arith
    go false = omega arith

one_same : (a x : ℕ) → a ≢ 3 → one a x x ≡ 0
one_same a x z = go (dec_eq x a)
  where
    go : Dec (x ≡ a) → one a x x ≡ 0
    go (yes e) = one_not_is a x x (λ q. z (sym e ∙ q))
    go (no e) = one_not_was a x x e

-- a task that was a, and is not dispatchable yet, becomes so
pub made_next : (a : ℕ) (l m : List ℕ) (t : ℕ) → t < length l → t < length m → get_or l t 0 ≡ a → get_or m t 0 ≢ 3
    → made a l (set m t 3) ≡ suc (made a l m)
unfolding made
made_next a [] m t h k e n = absurd (not-suc-le-zero h)
made_next a (x ∷ l) [] t h k e n = absurd (not-suc-le-zero k)
made_next a (x ∷ l) (y ∷ m) zero h k e n = let p = one_yes a x 3 e refl in let q = one_not_is a x y n in omega arith
made_next a (x ∷ l) (y ∷ m) (suc t) h k e n = omega (arith, made_next a l m t (le_of_suc-le-suc h) (le_of_suc-le-suc k) e n)

-- one that was not a is not counted, whatever it becomes
pub made_other : (a : ℕ) (l m : List ℕ) (t v : ℕ) → get_or l t 0 ≢ a → made a l (set m t v) ≡ made a l m
unfolding made
made_other a [] m t v n = refl
made_other a (x ∷ l) [] t v n = refl
made_other a (x ∷ l) (y ∷ m) zero v n = let p = one_not_was a x v n in let q = one_not_was a x y n in omega arith
made_other a (x ∷ l) (y ∷ m) (suc t) v n = ap (λ (k : ℕ). one a x y + k) (made_other a l m t v n)

-- nor whatever else it was
pub made_from : (a : ℕ) (l m : List ℕ) (t v : ℕ) → get_or l t 0 ≢ a → v ≢ a → made a (set l t v) m ≡ made a l m
unfolding made
made_from a [] m t v n b = refl
made_from a (x ∷ l) [] zero v n b = refl
made_from a (x ∷ l) [] (suc t) v n b = refl
made_from a (x ∷ l) (y ∷ m) zero v n b = let p = one_not_was a x y n in let q = one_not_was a v y b in omega arith
made_from a (x ∷ l) (y ∷ m) (suc t) v n b = ap (λ (k : ℕ). one a x y + k) (made_from a l m t v n b)

-- nobody, where nothing changed
pub made_none : (a : ℕ) → a ≢ 3 → (l : List ℕ) → made a l l ≡ 0
unfolding made
made_none a z [] = refl
made_none a z (x ∷ l) = let p = one_same a x z in omega (arith, made_none a z l)

-- never more than were a
abbrev pub is_state : ℕ → ℕ → ℕ
is_state a x = cond (eqb x a) 1 0

pub made_le : (a : ℕ) (l m : List ℕ) → made a l m ≤ total (is_state a) l
unfolding made total
made_le a [] m = zero-le
made_le a (x ∷ l) [] = zero-le
made_le a (x ∷ l) (y ∷ m) = let p = few (dec_eq x a) in omega (arith, made_le a l m)
  where
    few : Dec (x ≡ a) → one a x y ≤ is_state a x
    few (yes e) = let p : is_state a x ≡ 1 = rw (eq-eqb x a e) in omega (arith, one_le a x y)
    few (no e) = omega (arith, one_not_was a x y e)

-- ---- a step makes tasks dispatchable and does nothing else to them

abbrev pub Up : List ℕ → List ℕ → Type 0
Up l m = (t : ℕ) → (get_or m t 0 ≡ get_or l t 0) ⊎ (get_or m t 0 ≡ dispatchable)

pub up_same : (l : List ℕ) → Up l l
up_same l t = inl refl

pub up_up : (l m n : List ℕ) → Up l m → Up m n → Up l n
up_up l m n h k t = ⊎_elim (λ e. ⊎_elim (λ d. inl (e ∙ d)) (λ d. inr (e ∙ d)) (h t)) (λ e. inr e) (k t)

pub up_set : (l : List ℕ) (t : ℕ) → Up l (set l t 3)
up_set [] t u = inl refl
up_set (x ∷ l) zero zero = inr refl
up_set (x ∷ l) zero (suc u) = inl refl
up_set (x ∷ l) (suc t) zero = inl refl
up_set (x ∷ l) (suc t) (suc u) = up_set l t u

-- who goes from a to dispatchable over two steps does so in one of them
one_adds : (a x y z : ℕ) → a ≢ 3 → (y ≡ x) ⊎ (y ≡ 3) → (z ≡ y) ⊎ (z ≡ 3) → one a x z ≡ one a x y + one a y z
one_adds a x y z n (inl e) k = rw e (omega (arith, one_same a x n))
one_adds a x y z n (inr e) k =
    let f : z ≡ 3 = ⊎_elim (λ q. q ∙ e) (λ q. q) k in
    rw (e, f) (omega (arith, one_not_was a 3 3 (λ q. n (sym q))))

pub made_adds : (a : ℕ) → a ≢ 3 → (l m n : List ℕ) → length m ≡ length l → length n ≡ length l → Up l m → Up m n
    → made a l n ≡ made a l m + made a m n
unfolding made
made_adds a z [] [] n e f h k = omega arith
made_adds a z [] (y ∷ m) n e f h k = absurd (omega arith)
made_adds a z (x ∷ l) [] n e f h k = absurd (omega arith)
made_adds a z (x ∷ l) (y ∷ m) [] e f h k = absurd (omega arith)
made_adds a z (x ∷ l) (y ∷ m) (v ∷ n) e f h k =
    let p = one_adds a x y v z (h 0) (k 0) in
    omega (arith, made_adds a z l m n (omega arith) (omega arith) (λ t. h (suc t)) (λ t. k (suc t)))

-- ---- who was waiting was not inactive, so nobody is counted as both

not_both : (x y : ℕ) → one 2 x y + one 1 x y ≤ 1
not_both x y = go (dec_eq x 2)
  where
    go : Dec (x ≡ 2) → one 2 x y + one 1 x y ≤ 1
    go (yes e) = omega (arith, one_not_was 1 x y (λ q. omega arith), one_le 2 x y)
    go (no e) = omega (arith, one_not_was 2 x y e, one_le 1 x y)

neither : (x y : ℕ) → x ≡ 0 → one 2 x y + one 1 x y ≡ 0
neither x y e = omega (arith, one_not_was 2 x y (λ q. omega arith), one_not_was 1 x y (λ q. omega arith))

-- where only the places below n hold another number than 0, no more than n
below_few : (l m : List ℕ) (n : ℕ) → ((i : ℕ) → get_or l i 0 ≢ 0 → i < n) → made 2 l m + made 1 l m ≤ n
unfolding made
below_few [] m n h = zero-le
below_few (x ∷ l) [] n h = zero-le
below_few (x ∷ l) (y ∷ m) zero h = go (dec_eq x 0) (below_few l m 0 (λ i k. absurd (omega (arith, h (suc i) k))))
  where
    go : Dec (x ≡ 0) → made 2 l m + made 1 l m ≤ 0 → made 2 (x ∷ l) (y ∷ m) + made 1 (x ∷ l) (y ∷ m) ≤ 0
    go (yes e) k = omega (arith, neither x y e)
    go (no e) k = absurd (omega (arith, h 0 e))
below_few (x ∷ l) (y ∷ m) (suc n) h =
    omega (arith, not_both x y, below_few l m n (λ i k. le_of_suc-le-suc (h (suc i) k)))

-- and where those are places 1 to n, as of tasks, no more than n
pub within_few : (n : ℕ) (l m : List ℕ) → Within n l → made 2 l m + made 1 l m ≤ n
unfolding made
within_few n [] m h = zero-le
within_few n (x ∷ l) [] h = zero-le
within_few n (x ∷ l) (y ∷ m) h = go (dec_eq x 0)
  where
    go : Dec (x ≡ 0) → made 2 (x ∷ l) (y ∷ m) + made 1 (x ∷ l) (y ∷ m) ≤ n
    go (yes e) = omega (arith, neither x y e, below_few l m n (λ i k. (h (suc i) k).1))
    go (no e) = absurd (omega (arith, (h 0 e).0))
