-- Who is in a list, lists in which no element comes twice, and lists that some have left.
use Rattle.std.specs.Prelude.{◌≡◌, ◌⊎◌, Bool, false, cond, ◌||◌, List, [], ◌∷◌, ℕ, eqb}

-- a is an element of the list
abbrev pub In : ℕ → List ℕ → Type 0
In a [] = ⊥
In a (y ∷ ys) = (a ≡ y) ⊎ In a ys

-- the same as a test
abbrev pub is_in : ℕ → List ℕ → Bool
is_in a [] = false
is_in a (y ∷ ys) = eqb a y || is_in a ys

-- no element comes twice
abbrev pub Distinct : List ℕ → Type 0
Distinct [] = Unit {0}
Distinct (x ∷ xs) = (In x xs → ⊥) × Distinct xs

-- the list without the element x
abbrev pub without : ℕ → List ℕ → List ℕ
without x [] = []
without x (y ∷ ys) = cond (eqb y x) (without x ys) (y ∷ without x ys)

-- the elements that pass a test
abbrev pub keep : (ℕ → Bool) → List ℕ → List ℕ
keep p [] = []
keep p (x ∷ xs) = cond (p x) (x ∷ keep p xs) (keep p xs)
