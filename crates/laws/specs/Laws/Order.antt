-- Laws of the definitions of Order.antt.
use Rattle.std.specs.Prelude.{◌≡◌, refl, ◌⊎◌, Bool, true, false, List, [], ◌∷◌, ◌++◌, ℕ, ◌+◌, ◌≤◌, ◌<◌, eqb, leb}
use Rattle.std.proofs.Common.{sym, inl, inr, ⊎_elim, arith, le-leb, leb-true, leb-false}
use Rattle.std.proofs.lemmas.Bool.{lt-leb}
use Rattle.laws.specs.Cases.{by}
use Rattle.laws.specs.Members.{In, Distinct, without, keep}
use Rattle.laws.specs.Laws.Members.{in_without, in_keep}
use Rattle.laws.specs.Order.{insert_by, Sorted, later, after}

-- the place that a search finds, from in front
pub place_here : (W : ℕ → ℕ) (x : ℕ) (ys : List ℕ) → ((y : ℕ) (zs : List ℕ) → ys ≡ y ∷ zs → W x < W y) → insert_by W x ys ≡ x ∷ ys
place_here W x [] h = refl
place_here W x (y ∷ ys) h = rw (lt-leb (W y) (W x) (h y ys refl))

pub place_split : (W : ℕ → ℕ) (x : ℕ) (xs ys : List ℕ) → ((a : ℕ) → In a xs → W a ≤ W x) → ((y : ℕ) (zs : List ℕ) → ys ≡ y ∷ zs → W x < W y)
    → insert_by W x (xs ++ ys) ≡ xs ++ x ∷ ys
place_split W x [] ys f h = place_here W x ys h
place_split W x (y ∷ xs) ys f h =
    rw (le-leb (W y) (W x) (f y (inl refl)), place_split W x xs ys (λ a i. f a (inr i)) h)

pub in_place : (W : ℕ → ℕ) (x a : ℕ) (xs : List ℕ) → In a (insert_by W x xs) → (a ≡ x) ⊎ In a xs
in_place W x a [] = λ i. i
in_place W x a (y ∷ ys) =
    by (leb (W y) (W x))
    (λ e. rw e (λ i. ⊎_elim (λ q. inr (inl q)) (λ j. ⊎_elim (λ q. inl q) (λ k. inr (inr k)) (in_place W x a ys j)) i))
    (λ e. rw e (λ i. i))

pub place_sorted : (W : ℕ → ℕ) (x : ℕ) (xs : List ℕ) → Sorted W xs → Sorted W (insert_by W x xs)
place_sorted W x [] s = ((λ a i. absurd i), tt)
place_sorted W x (y ∷ ys) s =
    by (leb (W y) (W x))
    (λ e. rw e (
      (λ a i. ⊎_elim (λ q. rw q (leb-true (W y) (W x) e)) (λ j. s.0 a j) (in_place W x a ys i)),
      place_sorted W x ys s.1,
    ))
    (λ e. rw e
    ((λ a i. ⊎_elim (λ q. rw q (omega (arith, leb-false (W y) (W x) e))) (λ j. omega (arith, leb-false (W y) (W x) e, s.0 a j)) i), s))

-- the key of others may change
pub sorted_same : (W U : ℕ → ℕ) (xs : List ℕ) → ((a : ℕ) → In a xs → U a ≡ W a) → Sorted W xs → Sorted U xs
sorted_same W U [] f s = tt
sorted_same W U (x ∷ xs) f s =
    ((λ a i. omega (arith, f x (inl refl), f a (inr i), s.0 a i)), sorted_same W U xs (λ a i. f a (inr i)) s.1)

after_all : (W : ℕ → ℕ) (c : ℕ) (xs : List ℕ) → ((a : ℕ) → In a xs → c < W a) → after W c xs ≡ xs
after_all W c [] h = refl
after_all W c (y ∷ ys) h = rw (lt-leb (W y) c (h y (inl refl)), after_all W c ys (λ a i. h a (inr i)))

pub later_after : (W : ℕ → ℕ) (c : ℕ) (xs : List ℕ) → Sorted W xs → later W c xs ≡ after W c xs
later_after W c [] s = refl
later_after W c (y ∷ ys) s =
    by (leb (W y) c)
    (λ e. rw e (later_after W c ys s.1))
    (λ e. rw (e, after_all W c ys (λ a i. omega (arith, leb-false (W y) c e, s.0 a i))))

pub keep_sorted : (W : ℕ → ℕ) (p : ℕ → Bool) (xs : List ℕ) → Sorted W xs → Sorted W (keep p xs)
keep_sorted W p [] s = tt
keep_sorted W p (x ∷ xs) s =
    by (p x) (λ q. rw q ((λ a i. s.0 a (in_keep p a xs i)), keep_sorted W p xs s.1)) (λ q. rw q (keep_sorted W p xs s.1))

-- x goes in front of a sorted list that is all later
pub place_front : (W : ℕ → ℕ) (x : ℕ) (ys : List ℕ) → ((a : ℕ) → In a ys → W x < W a) → insert_by W x ys ≡ x ∷ ys
place_front W x [] f = refl
place_front W x (y ∷ ys) f = rw (lt-leb (W y) (W x) (f y (inl refl)))

pub keep_place_in : (W : ℕ → ℕ) (p : ℕ → Bool) (x : ℕ) (ys : List ℕ) → Sorted W ys → p x ≡ true → keep p (insert_by W x ys) ≡ insert_by W x (keep p ys)
keep_place_in W p x [] s q = rw q
keep_place_in W p x (y ∷ ys) s q =
    by (leb (W y) (W x))
    (λ e. by (p y) (λ r. rw (e, r, e, keep_place_in W p x ys s.1 q)) (λ r. rw (e, r, keep_place_in W p x ys s.1 q)))
    (λ e. by (p y)
    (λ r. rw (e, q, r, e))
    (λ r. rw (e, q, r) (sym (place_front W x (keep p ys) (λ a i. omega (arith, leb-false (W y) (W x) e, s.0 a (in_keep p a ys i)))))))

pub keep_place_out : (W : ℕ → ℕ) (p : ℕ → Bool) (x : ℕ) (ys : List ℕ) → p x ≡ false → keep p (insert_by W x ys) ≡ keep p ys
keep_place_out W p x [] q = rw q
keep_place_out W p x (y ∷ ys) q =
    by (leb (W y) (W x))
    (λ e. by (p y) (λ r. rw (e, r, keep_place_out W p x ys q)) (λ r. rw (e, r, keep_place_out W p x ys q)))
    (λ e. rw (e, q))

-- ---- who is placed: the list's own, and the one

pub place_new : (W : ℕ → ℕ) (x : ℕ) (xs : List ℕ) → In x (insert_by W x xs)
place_new W x [] = inl refl
place_new W x (y ∷ ys) = by (leb (W y) (W x)) (λ e. rw e (inr (place_new W x ys))) (λ e. rw e (inl refl))

pub place_old : (W : ℕ → ℕ) (x a : ℕ) (xs : List ℕ) → In a xs → In a (insert_by W x xs)
place_old W x a [] i = absurd i
place_old W x a (y ∷ ys) i =
    by (leb (W y) (W x))
    (λ e. rw e (⊎_elim (λ q. inl q) (λ j. inr (place_old W x a ys j)) i))
    (λ e. rw e (inr i))

pub place_distinct : (W : ℕ → ℕ) (x : ℕ) (xs : List ℕ) → (In x xs → ⊥) → Distinct xs → Distinct (insert_by W x xs)
place_distinct W x [] n d = ((λ i. i), tt)
place_distinct W x (y ∷ ys) n d =
    by (leb (W y) (W x))
    (λ e. rw e (
      (λ i. ⊎_elim (λ q. n (inl (sym q))) (λ j. d.0 j) (in_place W x y ys i)),
      place_distinct W x ys (λ i. n (inr i)) d.1,
    ))
    (λ e. rw e (n, d))

pub without_sorted : (W : ℕ → ℕ) (x : ℕ) (xs : List ℕ) → Sorted W xs → Sorted W (without x xs)
without_sorted W x [] s = tt
without_sorted W x (y ∷ ys) s =
    by (eqb y x)
    (λ e. rw e (without_sorted W x ys s.1))
    (λ e. rw e ((λ a i. s.0 a (in_without x a ys i).0), without_sorted W x ys s.1))
