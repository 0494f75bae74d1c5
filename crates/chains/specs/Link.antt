-- Doubly linked nodes, over any two link functions N (next) and P (previous).
use Rattle.std.specs.Prelude.{◌≡◌, List, [], ◌∷◌, ◌++◌, ℕ}

-- from u forward: the next of each is the one after it, and its previous the one before
abbrev pub Linked : (ℕ → ℕ) → (ℕ → ℕ) → ℕ → List ℕ → Type 0
Linked N P u [] = Unit {0}
Linked N P u (x ∷ xs) = (N u ≡ x) × (P x ≡ u) × Linked N P x xs

-- the chain of the anchor node s: round from s through xs back to s
abbrev pub Chain : (ℕ → ℕ) → (ℕ → ℕ) → ℕ → List ℕ → Type 0
Chain N P s xs = Linked N P s (xs ++ s ∷ [])

-- the last of u and xs, and the first of xs and d
abbrev pub last : ℕ → List ℕ → ℕ
last u [] = u
last u (x ∷ xs) = last x xs

abbrev pub first : List ℕ → ℕ → ℕ
first [] d = d
first (x ∷ xs) d = x

-- what follows the first of xs ++ d ∷ []
abbrev pub rest : List ℕ → ℕ → List ℕ
rest [] d = []
rest (x ∷ xs) d = xs ++ d ∷ []
