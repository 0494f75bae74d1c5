-- Laws of the definitions of Tables.antt.
use Rattle.std.specs.Prelude.{◌≡◌, refl, ◌≢◌, Bool, true, false, cond, List, [], ◌∷◌, ℕ, zero, suc, ◌+◌, ◌≤◌, ◌<◌, eqb, length, get_or, set, take, replicate}
use Rattle.std.proofs.Common.{sym, ap, ◌∙◌, subst, zero-le, suc-le-suc, not-suc-le-zero, le_of_suc-le-suc, arith, eqb-true, get_or-set_same, get_or-set_other}
use Rattle.std.proofs.lemmas.Bool.{eqb-false}
use Rattle.laws.specs.Laws.All.{all_at}
use Rattle.laws.specs.Tables.{total, over, fold, follows}

-- a table of zeros holds 0 at every place, and behind its end
pub zeros_at : (n i : ℕ) → ◌≡◌ {A = ℕ} (get_or (replicate n 0) i 0) 0
zeros_at zero i = refl
zeros_at (suc n) zero = refl
zeros_at (suc n) (suc i) = zeros_at n i

-- a table that holds more than 0 at a place has that place
pub in_range : (l : List ℕ) (i n : ℕ) → get_or l i 0 ≡ suc n → i < length l
in_range [] i n h = omega arith
in_range (x ∷ xs) zero n h = omega arith
in_range (x ∷ xs) (suc i) n h = suc-le-suc (in_range xs i n h)

-- what a store does to each place
pub get_d_set : (l : List ℕ) (i j a : ℕ) → j < length l → get_or (set l i a) j 0 ≡ cond (eqb i j) a (get_or l j 0)
get_d_set l i j a h = go (eqb i j) refl
  where
    go : (b : Bool) → eqb i j ≡ b → get_or (set l i a) j 0 ≡ cond b a (get_or l j 0)
    go true e = rw (eqb-true i j e) (get_or-set_same l j a 0 h)
    go false e = get_or-set_other l i j a 0 (λ q. eqb-false i j e (sym q))

-- a store of what f cannot tell from what was there changes nothing that f sees, in range or not
pub same_under : (f : ℕ → ℕ) (l : List ℕ) (i j a : ℕ) → f a ≡ f (get_or l i 0) → f (get_or (set l i a) j 0) ≡ f (get_or l j 0)
same_under f [] i j a h = refl
same_under f (x ∷ xs) zero zero a h = h
same_under f (x ∷ xs) zero (suc j) a h = refl
same_under f (x ∷ xs) (suc i) zero a h = refl
same_under f (x ∷ xs) (suc i) (suc j) a h = same_under f xs i j a h

-- a store of a leaves an a where it was
pub keeps : (l : List ℕ) (i j a : ℕ) → get_or l j 0 ≡ a → get_or (set l i a) j 0 ≡ a
keeps [] i j a h = h
keeps (x ∷ xs) zero zero a h = refl
keeps (x ∷ xs) zero (suc j) a h = h
keeps (x ∷ xs) (suc i) zero a h = h
keeps (x ∷ xs) (suc i) (suc j) a h = keeps xs i j a h

pub total_set : (f : ℕ → ℕ) (l : List ℕ) (i a : ℕ) → i < length l → total f (set l i a) + f (get_or l i 0) ≡ total f l + f a
unfolding total
total_set f [] i a h = absurd (not-suc-le-zero h)
total_set f (x ∷ xs) zero a h = omega arith
total_set f (x ∷ xs) (suc i) a h = omega (arith, total_set f xs i a (le_of_suc-le-suc h))

pub total_le : (f g : ℕ → ℕ) → ((x : ℕ) → f x ≤ g x) → (l : List ℕ) → total f l ≤ total g l
unfolding total
total_le f g h [] = zero-le
total_le f g h (x ∷ xs) = omega (arith, h x, total_le f g h xs)

pub total_length : (f : ℕ → ℕ) → ((x : ℕ) → f x ≤ 1) → (l : List ℕ) → total f l ≤ length l
unfolding total
total_length f h [] = zero-le
total_length f h (x ∷ xs) = omega (arith, h x, total_length f h xs)

pub over_set : (f : ℕ → ℕ) (l : List ℕ) (i a : ℕ) → suc i < length l → over f (set l (suc i) a) + f (get_or l (suc i) 0) ≡ over f l + f a
unfolding over
over_set f [] i a h = absurd (not-suc-le-zero h)
over_set f (x ∷ xs) i a h = total_set f xs i a (le_of_suc-le-suc h)

-- a store of something that f counts 0 raises no sum, in range or not
pub total_store : (f : ℕ → ℕ) (l : List ℕ) (i a : ℕ) → f a ≡ 0 → total f (set l i a) ≤ total f l
unfolding total
total_store f [] i a h = zero-le
total_store f (x ∷ xs) zero a h = omega arith
total_store f (x ∷ xs) (suc i) a h = omega (arith, total_store f xs i a h)

pub over_store : (f : ℕ → ℕ) (l : List ℕ) (i a : ℕ) → f a ≡ 0 → over f (set l i a) ≤ over f l
unfolding over
over_store f [] i a h = zero-le
over_store f (x ∷ xs) zero a h = omega arith
over_store f (x ∷ xs) (suc i) a h = total_store f xs i a h

pub over_length : (f : ℕ → ℕ) → ((x : ℕ) → f x ≤ 1) → (l : List ℕ) (n : ℕ) → length l ≡ suc n → over f l ≤ n
unfolding over
over_length f h [] n e = zero-le
over_length f h (x ∷ xs) n e = omega (arith, total_length f h xs)

pub over_le : (f g : ℕ → ℕ) → ((x : ℕ) → f x ≤ g x) → (l : List ℕ) → over f l ≤ over g l
unfolding over
over_le f g h [] = zero-le
over_le f g h (x ∷ xs) = total_le f g h xs

-- what is found after a store, and is not what was stored, was there before
pub was_there : (l : List ℕ) (i j a b : ℕ) → a ≢ b → get_or (set l i a) j 0 ≡ b → get_or l j 0 ≡ b
was_there [] i j a b n h = h
was_there (x ∷ xs) zero zero a b n h = absurd (n h)
was_there (x ∷ xs) zero (suc j) a b n h = h
was_there (x ∷ xs) (suc i) zero a b n h = h
was_there (x ∷ xs) (suc i) (suc j) a b n h = was_there xs i j a b n h

-- an index below k + 1 is below k, or is k
pub below_suc : (P : ℕ → Type 0) (k : ℕ) → ((t : ℕ) → t < k → P t) → P k → (t : ℕ) → t < suc k → P t
below_suc P k below at t h = part (eqb t k) refl
  where
    part : (b : Bool) → eqb t k ≡ b → P t
    part true e = rw (eqb-true t k e) at
    part false e =
        let n : t ≢ k = eqb-false t k e in
        below t (omega arith)

-- a 0 that is stored is read, in range or not
pub set_zero : (l : List ℕ) (i : ℕ) → get_or (set l i 0) i 0 ≡ 0
set_zero [] i = refl
set_zero (x ∷ xs) zero = refl
set_zero (x ∷ xs) (suc i) = set_zero xs i

-- a bound on every entry
pub set_le : (n : ℕ) (l : List ℕ) (i a : ℕ) → a ≤ n → ((j : ℕ) → get_or l j 0 ≤ n) → (j : ℕ) → get_or (set l i a) j 0 ≤ n
set_le n [] i a h g j = g j
set_le n (x ∷ xs) zero a h g zero = h
set_le n (x ∷ xs) zero a h g (suc j) = g (suc j)
set_le n (x ∷ xs) (suc i) a h g zero = g zero
set_le n (x ∷ xs) (suc i) a h g (suc j) = set_le n xs i a h (λ k. g (suc k)) j

-- a store of something of which f says b leaves what f says b of
pub keeps_under : (f : ℕ → ℕ) (b : ℕ) (l : List ℕ) (i j a : ℕ) → f a ≡ b → f (get_or l j 0) ≡ b → f (get_or (set l i a) j 0) ≡ b
keeps_under f b [] i j a g h = h
keeps_under f b (x ∷ xs) zero zero a g h = g
keeps_under f b (x ∷ xs) zero (suc j) a g h = h
keeps_under f b (x ∷ xs) (suc i) zero a g h = h
keeps_under f b (x ∷ xs) (suc i) (suc j) a g h = keeps_under f b xs i j a g h

-- ---- a loop over a list, from its front

-- a loop's invariant: what one more turn does
pub fold_more {ℓ κ} : {A : Type ℓ} {B : Type κ} (f : A → B → B) (l : List A) (k : ℕ) (d : A) (v : B) → k < length l
    → fold f (take (suc k) l) v ≡ f (get_or l k d) (fold f (take k l) v)
unfolding fold
fold_more f [] k d v h = absurd (not-suc-le-zero h)
fold_more f (x ∷ xs) zero d v h = refl
fold_more f (x ∷ xs) (suc k) d v h = fold_more f xs k d (f x v) (le_of_suc-le-suc h)

-- ---- what a place that is not 0 tells

-- a table of zeros reads 0 everywhere
pub zeros : (n i : ℕ) → get_or {A = ℕ} (replicate n 0) i 0 ≡ 0
zeros zero i = refl
zeros (suc n) zero = refl
zeros (suc n) (suc i) = zeros n i

-- a table that holds another number than 0 at a place has that place
pub has_place : (l : List ℕ) (i : ℕ) → get_or l i 0 ≢ 0 → i < length l
has_place [] i h = absurd (h refl)
has_place (x ∷ xs) zero h = suc-le-suc zero-le
has_place (x ∷ xs) (suc i) h = suc-le-suc (has_place xs i h)

-- what every place that is not 0 obeys, every such place obeys after a store where it holds
pub set_within : (P : ℕ → Type 0) (l : List ℕ) (i a : ℕ) → (a ≢ 0 → P i) → ((j : ℕ) → get_or l j 0 ≢ 0 → P j) → (j : ℕ) → get_or (set l i a) j 0 ≢ 0 → P j
set_within P l i a h g j n = go (eqb j i) refl
  where
    go : (b : Bool) → eqb j i ≡ b → P j
    go true e =
        let q : j ≡ i = eqb-true j i e in
        subst P (sym q) (h (λ z. n (ap (λ (k : ℕ). get_or (set l i a) k 0) q ∙ at_zero z)))
      where
        at_zero : a ≡ 0 → get_or (set l i a) i 0 ≡ 0
        at_zero z = rw z (set_zero l i)
    go false e = g j (λ z. n (get_or-set_other l i j a 0 (eqb-false j i e) ∙ z))

-- a store of another number than 0 leaves no place with 0 that had none
pub keeps_some : (l : List ℕ) (i j a : ℕ) → a ≢ 0 → get_or l j 0 ≢ 0 → get_or (set l i a) j 0 ≢ 0
keeps_some [] i j a n h = h
keeps_some (x ∷ xs) zero zero a n h = n
keeps_some (x ∷ xs) zero (suc j) a n h = h
keeps_some (x ∷ xs) (suc i) zero a n h = h
keeps_some (x ∷ xs) (suc i) (suc j) a n h = keeps_some xs i j a n h

-- a store where there is no 0 makes no place other than 0 that was 0
pub was_some : (l : List ℕ) (i j a : ℕ) → get_or l i 0 ≢ 0 → get_or (set l i a) j 0 ≢ 0 → get_or l j 0 ≢ 0
was_some [] i j a n h = h
was_some (x ∷ xs) zero zero a n h = n
was_some (x ∷ xs) zero (suc j) a n h = h
was_some (x ∷ xs) (suc i) zero a n h = h
was_some (x ∷ xs) (suc i) (suc j) a n h = was_some xs i j a n h

-- ---- a table that follows a rule

-- the test passed, so the rule holds at each entry
pub follows_at : (n : ℕ) (f : ℕ → ℕ) (t : List ℕ) → follows n f t ≡ true → (k : ℕ) → k < n → get_or t k 0 ≡ f k
unfolding follows
follows_at n f t e k h = eqb-true (get_or t k 0) (f k) (all_at n (λ j. eqb (get_or t j 0) (f j)) e k h)
