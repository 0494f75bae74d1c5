-- Rousing: all of a list of tasks become dispatchable, and nobody else changes.
use Rattle.std.specs.Prelude.{◌≡◌, refl, List, [], ◌∷◌, ℕ, ◌≤◌, ◌<◌, length, get_or, set}
use Rattle.std.proofs.Common.{sym, ◌∙◌, inl, inr, arith, length-set, get_or-set_same, get_or-set_other}
use Rattle.laws.specs.Laws.Tables.{same_under, was_there, set_le, keeps}
use Rattle.laws.specs.Members.{In}
use Rattle.rules.specs.Serving.{rouse}

pub rouse_out : (t : ℕ) (ts l : List ℕ) → (In t ts → ⊥) → get_or (rouse ts l) t 0 ≡ get_or l t 0
unfolding rouse
rouse_out t [] l n = refl
rouse_out t (x ∷ xs) l n = rouse_out t xs (set l x 3) (λ i. n (inr i)) ∙ get_or-set_other l x t 3 0 (λ q. n (inl q))

pub rouse_three : (t : ℕ) (ts l : List ℕ) → get_or l t 0 ≡ 3 → get_or (rouse ts l) t 0 ≡ 3
unfolding rouse
rouse_three t [] l h = h
rouse_three t (x ∷ xs) l h = rouse_three t xs (set l x 3) (keeps l x t 3 h)

pub rouse_in : (t : ℕ) (ts l : List ℕ) → t < length l → In t ts → get_or (rouse ts l) t 0 ≡ 3
unfolding rouse
rouse_in t [] l h i = absurd i
rouse_in t (x ∷ xs) l h (inl e) = rouse_three t xs (set l x 3) (rw e (get_or-set_same l x 3 0 (rw e at h)))
rouse_in t (x ∷ xs) l h (inr i) = rouse_in t xs (set l x 3) (rw length-set h) i

pub rouse_one : (t : ℕ) (ts l : List ℕ) → get_or (rouse ts l) t 0 ≡ 1 → get_or l t 0 ≡ 1
unfolding rouse
rouse_one t [] l h = h
rouse_one t (x ∷ xs) l h = was_there l x t 3 1 (λ q. omega arith) (rouse_one t xs (set l x 3) h)

pub rouse_small : (ts l : List ℕ) → ((t : ℕ) → get_or l t 0 ≤ 3) → (t : ℕ) → get_or (rouse ts l) t 0 ≤ 3
unfolding rouse
rouse_small [] l h t = h t
rouse_small (x ∷ xs) l h t = rouse_small xs (set l x 3) (set_le 3 l x 3 (omega arith) h) t

-- what f sees in the waiting as in the dispatchable, it sees after rousing as before
pub rouse_same : (f : ℕ → ℕ) (ts l : List ℕ) → ((t : ℕ) → In t ts → f 3 ≡ f (get_or l t 0)) → (u : ℕ) → f (get_or (rouse ts l) u 0) ≡ f (get_or l u 0)
unfolding rouse
rouse_same f [] l h u = refl
rouse_same f (x ∷ xs) l h u =
    rouse_same f xs (set l x 3) (λ t i. h t (inr i) ∙ sym (same_under f l x t 3 (h x (inl refl)))) u ∙ same_under f l x u 3 (h x (inl refl))
