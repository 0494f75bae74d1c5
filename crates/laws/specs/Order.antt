-- Lists in order of a key: who is put in place, who is due, and what the order keeps.
use Rattle.std.specs.Prelude.{cond, List, [], ◌∷◌, ℕ, ◌≤◌, leb}
use Rattle.laws.specs.Members.{In}

-- x goes behind all whose key is at most its own, before the first with a larger one
abbrev pub insert_by : (ℕ → ℕ) → ℕ → List ℕ → List ℕ
insert_by W x [] = x ∷ []
insert_by W x (y ∷ ys) = cond (leb (W y) (W x)) (y ∷ insert_by W x ys) (x ∷ y ∷ ys)

-- in order of the key
abbrev pub Sorted : (ℕ → ℕ) → List ℕ → Type 0
Sorted W [] = Unit {0}
Sorted W (x ∷ xs) = ((a : ℕ) → In a xs → W x ≤ W a) × Sorted W xs

-- those with keys up to c leave from the front
abbrev pub later : (ℕ → ℕ) → ℕ → List ℕ → List ℕ
later W c [] = []
later W c (y ∷ ys) = cond (leb (W y) c) (later W c ys) (y ∷ ys)

-- the same by a test of each
abbrev pub after : (ℕ → ℕ) → ℕ → List ℕ → List ℕ
after W c [] = []
after W c (y ∷ ys) = cond (leb (W y) c) (after W c ys) (y ∷ after W c ys)
