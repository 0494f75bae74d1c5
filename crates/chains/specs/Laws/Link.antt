-- Laws of the definitions of Link.antt.
use Rattle.std.specs.Prelude.{◌≡◌, refl, ℕ}
use Rattle.std.proofs.Common.{sym, ◌∙◌, ap, inl, inr}
use mathlib.Core.List.{List, [], ◌∷◌, ◌++◌, reverse, reverse-cons}
use Rattle.laws.specs.Members.{In, Distinct}
use Rattle.chains.specs.Link.{Linked, last, first, rest}

pub in_last : (u : ℕ) (xs : List ℕ) → In (last u xs) (u ∷ xs)
in_last u [] = inl refl
in_last u (x ∷ xs) = inr (in_last x xs)

module _ (N P : ℕ → ℕ) where
  pub linked_split : (u : ℕ) (xs ys : List ℕ) → Linked N P u (xs ++ ys) → Linked N P u xs × Linked N P (last u xs) ys
  linked_split u [] ys h = (tt, h)
  linked_split u (x ∷ xs) ys h = let r = linked_split x xs ys h.2 in ((h.0, h.1, r.0), r.1)

  pub linked_join : (u : ℕ) (xs ys : List ℕ) → Linked N P u xs → Linked N P (last u xs) ys → Linked N P u (xs ++ ys)
  linked_join u [] ys h k = k
  linked_join u (x ∷ xs) ys h k = (h.0, h.1, linked_join x xs ys h.2 k)

  -- the seam of a chain at a place: the first after the place, and the rest
  pub seam_out : (u : ℕ) (ys : List ℕ) (s : ℕ) → Linked N P u (ys ++ s ∷ [])
      → (N u ≡ first ys s) × (P (first ys s) ≡ u) × Linked N P (first ys s) (rest ys s)
  seam_out u [] s h = h
  seam_out u (y ∷ ys) s h = h

  pub seam_in : (u : ℕ) (ys : List ℕ) (s : ℕ)
      → (N u ≡ first ys s) → (P (first ys s) ≡ u) → Linked N P (first ys s) (rest ys s) → Linked N P u (ys ++ s ∷ [])
  seam_in u [] s a b c = (a, b, c)
  seam_in u (y ∷ ys) s a b c = (a, b, c)

  -- an element whose previous is not among the nodes is not among those after them
  back : (u x a : ℕ) (ys : List ℕ) → Linked N P x ys → (In u (x ∷ ys) → ⊥) → P a ≡ u → In a ys → ⊥
  back u x a [] l n e h = h
  back u x a (y ∷ ys) l n e (inl q) = n (inl (sym e ∙ ap P q ∙ l.1))
  back u x a (y ∷ ys) l n e (inr h) = back u y a ys l.2 (λ i. n (inr i)) e h

  -- nodes linked from u on are all distinct, if u is not among them: no visited marks are needed
  pub distinct : (u : ℕ) (xs : List ℕ) → Linked N P u xs → (In u xs → ⊥) → Distinct xs
  distinct u [] l n = tt
  distinct u (x ∷ xs) l n =
      let d : In x xs → ⊥ = back u x x xs l.2 n l.1 in
      (d, distinct x xs l.2 d)

-- the chain read the other way
pub backward : (N P : ℕ → ℕ) (u : ℕ) (xs : List ℕ) (v : ℕ) → Linked N P u (xs ++ v ∷ []) → Linked P N v (reverse xs ++ u ∷ [])
backward N P u [] v h = (h.1, h.0, tt)
backward N P u (x ∷ xs) v h =
    rw reverse-cons
    (linked_join P N v (reverse xs ++ x ∷ []) (u ∷ []) (backward N P x xs v h.2)
    (rw last_snoc (h.1, h.0, tt)))
  where
    last_snoc : (w : ℕ) (l : List ℕ) (z : ℕ) → last w (l ++ z ∷ []) ≡ z
    last_snoc w [] z = refl
    last_snoc w (y ∷ l) z = last_snoc y l z
