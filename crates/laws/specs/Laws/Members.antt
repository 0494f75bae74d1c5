-- Laws of the definitions of Members.antt.
use Rattle.std.specs.Prelude.{◌≡◌, refl, ◌⊎◌, ◌≢◌, Bool, true, not, ◌&&◌, ℕ, zero, suc, ◌+◌, ◌≤◌, ◌<◌, eqb, length, get_or}
use Rattle.std.proofs.Common.{sym, ◌∙◌, ap, subst, inl, inr, ⊎_elim, arith, eq-eqb, ne_eqb, eqb-true}
use Rattle.std.proofs.lemmas.Bool.{false≢true, eqb-false}
use mathlib.Core.List.{List, [], ◌∷◌, ◌++◌, reverse, reverse-cons}
use Rattle.laws.specs.Cases.{by, dec_eq}
use Rattle.laws.specs.Members.{In, Distinct, without, keep}

pub in_left : (a : ℕ) (xs ys : List ℕ) → In a xs → In a (xs ++ ys)
in_left a [] ys h = absurd h
in_left a (x ∷ xs) ys (inl e) = inl e
in_left a (x ∷ xs) ys (inr h) = inr (in_left a xs ys h)

pub in_right : (a : ℕ) (xs ys : List ℕ) → In a ys → In a (xs ++ ys)
in_right a [] ys h = h
in_right a (x ∷ xs) ys h = inr (in_right a xs ys h)

pub in_cases : (a : ℕ) (xs ys : List ℕ) → In a (xs ++ ys) → In a xs ⊎ In a ys
in_cases a [] ys h = inr h
in_cases a (x ∷ xs) ys (inl e) = inl (inl e)
in_cases a (x ∷ xs) ys (inr h) = ⊎_elim (λ i. inl (inr i)) (λ i. inr i) (in_cases a xs ys h)

-- an element parts its list
pub in_split : (a : ℕ) (xs : List ℕ) → In a xs → (ys : List ℕ) × (zs : List ℕ) × (xs ≡ ys ++ a ∷ zs)
in_split a [] h = absurd h
in_split a (x ∷ xs) (inl e) = ([], xs, rw e)
in_split a (x ∷ xs) (inr h) = let r = in_split a xs h in (x ∷ r.0, r.1, ap (λ (l : List ℕ). x ∷ l) r.2)

pub without_out : (x : ℕ) (ys : List ℕ) → (In x ys → ⊥) → without x ys ≡ ys
without_out x [] n = refl
without_out x (y ∷ ys) n = rw (ne_eqb y x (λ e. n (inl (sym e))), without_out x ys (λ i. n (inr i)))

pub without_mid : (x : ℕ) (xs ys : List ℕ) → (In x xs → ⊥) → (In x ys → ⊥) → without x (xs ++ x ∷ ys) ≡ xs ++ ys
without_mid x [] ys n m = rw (eq-eqb x x refl, without_out x ys m)
without_mid x (y ∷ xs) ys n m = rw (ne_eqb y x (λ e. n (inl (sym e))), without_mid x xs ys (λ i. n (inr i)) m)

pub in_mid : (a x : ℕ) (xs ys : List ℕ) → In a (xs ++ ys) → In a (xs ++ x ∷ ys)
in_mid a x xs ys i = ⊎_elim (λ j. in_left a xs (x ∷ ys) j) (λ j. in_right a xs (x ∷ ys) (inr j)) (in_cases a xs ys i)

pub out_mid : (a x : ℕ) (xs ys : List ℕ) → In a (xs ++ x ∷ ys) → a ≢ x → In a (xs ++ ys)
out_mid a x xs ys i n =
    ⊎_elim (λ j. in_left a xs ys j) (λ j. ⊎_elim (λ q. absurd (n q)) (λ k. in_right a xs ys k) j) (in_cases a xs (x ∷ ys) i)

-- x in the middle of distinct elements is in neither side
pub apart_left : (x : ℕ) (xs ys : List ℕ) → Distinct (xs ++ x ∷ ys) → In x xs → ⊥
apart_left x [] ys d h = h
apart_left x (y ∷ xs) ys d (inl e) = d.0 (subst (λ (z : ℕ). In z (xs ++ x ∷ ys)) e (in_right x xs (x ∷ ys) (inl refl)))
apart_left x (y ∷ xs) ys d (inr h) = apart_left x xs ys d.1 h

pub distinct_right : (xs ys : List ℕ) → Distinct (xs ++ ys) → Distinct ys
distinct_right [] ys d = d
distinct_right (x ∷ xs) ys d = distinct_right xs ys d.1

pub distinct_left : (xs ys : List ℕ) → Distinct (xs ++ ys) → Distinct xs
distinct_left [] ys d = tt
distinct_left (x ∷ xs) ys d = ((λ i. d.0 (in_left x xs ys i)), distinct_left xs ys d.1)

pub distinct_mid : (x : ℕ) (xs ys : List ℕ) → Distinct (xs ++ x ∷ ys) → Distinct (xs ++ ys)
distinct_mid x [] ys d = d.1
distinct_mid x (y ∷ xs) ys d = ((λ i. d.0 (in_mid y x xs ys i)), distinct_mid x xs ys d.1)

pub distinct_apart : (a : ℕ) (xs ys : List ℕ) → Distinct (xs ++ ys) → In a xs → In a ys → ⊥
distinct_apart a [] ys d h k = h
distinct_apart a (x ∷ xs) ys d (inl e) k = d.0 (in_right x xs ys (subst (λ (z : ℕ). In z ys) e k))
distinct_apart a (x ∷ xs) ys d (inr h) k = distinct_apart a xs ys d.1 h k

-- no more elements than numbers
pub in_without : (x a : ℕ) (xs : List ℕ) → In a (without x xs) → In a xs × (a ≢ x)
in_without x a [] = λ i. absurd i
in_without x a (y ∷ ys) =
    by (eqb y x)
    (λ e. rw e (λ i. let r = in_without x a ys i in (inr r.0, r.1)))
    (λ e. rw e (λ i. ⊎_elim (λ q. (inl q, (λ p. eqb-false y x e (sym q ∙ p)))) (λ j. let r = in_without x a ys j in (inr r.0, r.1)) i))

pub distinct_without : (x : ℕ) (xs : List ℕ) → Distinct xs → Distinct (without x xs)
distinct_without x [] d = tt
distinct_without x (y ∷ ys) d =
    by (eqb y x)
    (λ e. rw e (distinct_without x ys d.1))
    (λ e. rw e ((λ i. d.0 (in_without x y ys i).0), distinct_without x ys d.1))

length_without : (x : ℕ) (xs : List ℕ) → Distinct xs → length xs ≤ suc (length (without x xs))
length_without x [] d = omega arith
length_without x (y ∷ ys) d =
    by (eqb y x)
    (λ e. rw (e, without_out x ys (λ i. d.0 (rw (eqb-true y x e) i))) (omega arith))
    (λ e. rw e (omega (arith, length_without x ys d.1)))

pub bound : (n : ℕ) (xs : List ℕ) → Distinct xs → ((a : ℕ) → In a xs → (0 < a) × (a ≤ n)) → length xs ≤ n
bound zero [] d own = omega arith
bound zero (x ∷ xs) d own = omega (arith, own x (inl refl))
bound (suc n) xs d own =
    omega (
      arith,
      length_without (suc n) xs d,
      bound n (without (suc n) xs) (distinct_without (suc n) xs d)
          (λ a i. let r = in_without (suc n) a xs i in let k = own a r.0 in (k.0, omega (arith, r.1, k.1))),
    )

pub in_reverse : (a : ℕ) (xs : List ℕ) → In a (reverse xs) → In a xs
in_reverse a [] = λ i. i
in_reverse a (x ∷ xs) =
    rw reverse-cons (λ i. ⊎_elim (λ j. inr (in_reverse a xs j)) (λ j. ⊎_elim (λ q. inl q) (λ z. absurd z) j) (in_cases a (reverse xs) (x ∷ []) i))

pub in_keep : (p : ℕ → Bool) (a : ℕ) (xs : List ℕ) → In a (keep p xs) → In a xs
in_keep p a [] = λ i. i
in_keep p a (x ∷ xs) =
    by (p x) (λ q. rw q (λ i. ⊎_elim (λ e. inl e) (λ j. inr (in_keep p a xs j)) i)) (λ q. rw q (λ i. inr (in_keep p a xs i)))

pub dec_in : (a : ℕ) (xs : List ℕ) → Dec (In a xs)
dec_in a [] = no (λ i. i)
dec_in a (x ∷ xs) = go (dec_eq a x) (dec_in a xs)
  where
    go : Dec (a ≡ x) → Dec (In a xs) → Dec (In a (x ∷ xs))
    go (yes e) d = yes (inl e)
    go (no n) (yes i) = yes (inr i)
    go (no n) (no m) = no (λ j. ⊎_elim n m j)

-- who is in a list and is not x is in it without x
pub without_in : (x a : ℕ) (xs : List ℕ) → In a xs → a ≢ x → In a (without x xs)
without_in x a [] i n = absurd i
without_in x a (y ∷ ys) i n =
    by (eqb y x)
    (λ e. rw e (⊎_elim (λ q. absurd (n (q ∙ eqb-true y x e))) (λ j. without_in x a ys j n) i))
    (λ e. rw e (⊎_elim (λ q. inl q) (λ j. inr (without_in x a ys j n)) i))

-- the elements that pass a test pass it; an element that passes is kept
pub keep_test : (p : ℕ → Bool) (a : ℕ) (xs : List ℕ) → In a (keep p xs) → p a ≡ true
keep_test p a [] = λ i. absurd i
keep_test p a (x ∷ xs) =
    by (p x) (λ q. rw q (λ i. ⊎_elim (λ e. ap p e ∙ q) (λ j. keep_test p a xs j) i)) (λ q. rw q (λ i. keep_test p a xs i))

pub keep_in : (p : ℕ → Bool) (a : ℕ) (xs : List ℕ) → In a xs → p a ≡ true → In a (keep p xs)
keep_in p a [] i q = absurd i
keep_in p a (x ∷ xs) i q =
    by (p x)
    (λ e. rw e (⊎_elim (λ z. inl z) (λ j. inr (keep_in p a xs j q)) i))
    (λ e. rw e (⊎_elim (λ z. absurd (false≢true (sym e ∙ (sym (ap p z) ∙ q)))) (λ j. keep_in p a xs j q) i))

pub distinct_keep : (p : ℕ → Bool) (xs : List ℕ) → Distinct xs → Distinct (keep p xs)
distinct_keep p [] d = tt
distinct_keep p (x ∷ xs) d =
    by (p x) (λ q. rw q ((λ i. d.0 (in_keep p x xs i)), distinct_keep p xs d.1)) (λ q. rw q (distinct_keep p xs d.1))

-- one that is not in the list goes to its end
pub distinct_end : (a : ℕ) (xs : List ℕ) → (In a xs → ⊥) → Distinct xs → Distinct (xs ++ a ∷ [])
distinct_end a [] n d = ((λ i. i), tt)
distinct_end a (x ∷ xs) n d = (
  (λ i. ⊎_elim (λ j. d.0 j) (λ j. ⊎_elim (λ q. n (inl (sym q))) (λ z. z) j) (in_cases x xs (a ∷ []) i)),
  distinct_end a xs (λ i. n (inr i)) d.1,
)

-- who stands at a place of a list is in it, and who is in it stands at some place
pub at_in : (a : ℕ) (xs : List ℕ) (i : ℕ) → i < length xs → get_or xs i 0 ≡ a → In a xs
at_in a [] i h e = absurd (omega arith)
at_in a (x ∷ xs) zero h e = inl (sym e)
at_in a (x ∷ xs) (suc i) h e = inr (at_in a xs i (omega arith) e)

pub in_at : (a : ℕ) (xs : List ℕ) → In a xs → (i : ℕ) × (i < length xs) × (get_or xs i 0 ≡ a)
in_at a [] h = absurd h
in_at a (x ∷ xs) (inl e) = (0, omega arith, sym e)
in_at a (x ∷ xs) (inr h) = let w = in_at a xs h in (suc w.0, omega (arith, w.1), w.2)

-- ---- tests of elements, one after the other

-- tests that agree on the list's elements keep the same
pub keep_same : (p q : ℕ → Bool) (xs : List ℕ) → ((a : ℕ) → In a xs → p a ≡ q a) → keep p xs ≡ keep q xs
keep_same p q [] h = refl
keep_same p q (x ∷ xs) h = rw (h x (inl refl), keep_same p q xs (λ a i. h a (inr i)))

pub keep_all : (p : ℕ → Bool) (xs : List ℕ) → ((a : ℕ) → In a xs → p a ≡ true) → keep p xs ≡ xs
keep_all p [] h = refl
keep_all p (x ∷ xs) h = rw (h x (inl refl), keep_all p xs (λ a i. h a (inr i)))

-- to be without x is to fail the test of being x
pub without_keep : (x : ℕ) (p : ℕ → Bool) (xs : List ℕ) → without x (keep p xs) ≡ keep (λ (y : ℕ). p y && not (eqb y x)) xs
without_keep x p [] = refl
without_keep x p (y ∷ ys) =
    by (p y)
    (λ e. by (eqb y x) (λ f. rw (e, f, without_keep x p ys)) (λ f. rw (e, f, without_keep x p ys)))
    (λ e. rw (e, without_keep x p ys))
