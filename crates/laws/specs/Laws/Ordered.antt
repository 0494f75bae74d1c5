-- Laws of the definitions of Ordered.antt.
use Rattle.std.specs.Prelude.{◌≡◌, refl, ◌↔◌, Bool, List, [], ◌∷◌, ◌++◌, ℕ, eqb}
use Rattle.std.proofs.Common.{sym, ◌∙◌, ap, subst, inl, inr, ⊎_elim}
use Rattle.laws.specs.Cases.{by}
use Rattle.laws.specs.Members.{In, without, keep}
use Rattle.laws.specs.Laws.Members.{in_cases, in_without, in_keep}
use Rattle.laws.specs.Ordered.{Ordered}

-- another relation, that holds where the first does
pub ordered_map : (R Q : ℕ → ℕ → Type 0) (xs : List ℕ) → ((a b : ℕ) → In a xs → In b xs → R a b → Q a b) → Ordered R xs → Ordered Q xs
ordered_map R Q [] f o = tt
ordered_map R Q (x ∷ xs) f o =
    ((λ a i. f x a (inl refl) (inr i) (o.0 a i)), ordered_map R Q xs (λ a b i j. f a b (inr i) (inr j)) o.1)

-- some leave
pub ordered_keep : (R : ℕ → ℕ → Type 0) (p : ℕ → Bool) (xs : List ℕ) → Ordered R xs → Ordered R (keep p xs)
ordered_keep R p [] o = tt
ordered_keep R p (x ∷ xs) o =
    by (p x) (λ e. rw e ((λ a i. o.0 a (in_keep p a xs i)), ordered_keep R p xs o.1)) (λ e. rw e (ordered_keep R p xs o.1))

pub ordered_without : (R : ℕ → ℕ → Type 0) (x : ℕ) (xs : List ℕ) → Ordered R xs → Ordered R (without x xs)
ordered_without R x [] o = tt
ordered_without R x (y ∷ ys) o =
    by (eqb y x) (λ e. rw e (ordered_without R x ys o.1))
    (λ e. rw e ((λ a i. o.0 a (in_without x a ys i).0), ordered_without R x ys o.1))

-- one more at the end
pub ordered_end : (R : ℕ → ℕ → Type 0) (x : ℕ) (xs : List ℕ) → ((a : ℕ) → In a xs → R a x) → Ordered R xs → Ordered R (xs ++ x ∷ [])
ordered_end R x [] f o = ((λ a i. absurd i), tt)
ordered_end R x (y ∷ ys) f o = (
  (λ a i. ⊎_elim (λ j. o.0 a j) (λ j. ⊎_elim (λ q. subst (λ (z : ℕ). R y z) (sym q) (f y (inl refl))) (λ z. absurd z) j) (in_cases a ys (x ∷ []) i)),
  ordered_end R x ys (λ a i. f a (inr i)) o.1,
)

-- where no two elements stand in the relation both ways, the elements fix the list
pub ordered_same : (R : ℕ → ℕ → Type 0) → ((a b : ℕ) → R a b → R b a → ⊥) → (xs ys : List ℕ) → Ordered R xs → Ordered R ys
    → ((a : ℕ) → In a xs ↔ In a ys) → xs ≡ ys
ordered_same R n [] [] o q f = refl
ordered_same R n [] (y ∷ ys) o q f = absurd ((f y).1 (inl refl))
ordered_same R n (x ∷ xs) [] o q f = absurd ((f x).0 (inl refl))
ordered_same R n (x ∷ xs) (y ∷ ys) o q f = ap (λ (z : ℕ). z ∷ xs) same ∙ ap (λ (l : List ℕ). y ∷ l) (ordered_same R n xs ys o.1 q.1 (λ a. (there a, back a)))
  where
    same : x ≡ y
    same = ⊎_elim (λ e. e) (λ i. ⊎_elim (λ e. sym e) (λ j. absurd (n x y (o.0 y j) (q.0 x i))) ((f y).1 (inl refl))) ((f x).0 (inl refl))

    there : (a : ℕ) → In a xs → In a ys
    there a i =
        ⊎_elim (λ e. let z : R x x = subst (λ (b : ℕ). R x b) (e ∙ sym same) (o.0 a i) in absurd (n x x z z)) (λ j. j) ((f a).0 (inr i))

    back : (a : ℕ) → In a ys → In a xs
    back a i =
        ⊎_elim (λ e. let z : R y y = subst (λ (b : ℕ). R y b) (e ∙ same) (q.0 a i) in absurd (n y y z z)) (λ j. j) ((f a).1 (inr i))
