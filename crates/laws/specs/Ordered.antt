-- Lists in which each element stands in a relation to all behind it.
use Rattle.std.specs.Prelude.{List, [], ◌∷◌, ℕ}
use Rattle.laws.specs.Members.{In}

abbrev pub Ordered : (ℕ → ℕ → Type 0) → List ℕ → Type 0
Ordered R [] = Unit {0}
Ordered R (x ∷ xs) = ((a : ℕ) → In a xs → R x a) × Ordered R xs
