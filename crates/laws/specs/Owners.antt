-- A table of owners: each number i below n writes i + 1 at its key, so that a key's entry names the last number that has it,
-- and an entry that stayed 0 is the key of none.
use Rattle.std.specs.Prelude.{List, ℕ, ◌+◌, set, replicate}
use Rattle.laws.specs.Iter.{iter}

abbrev pub own_one : (ℕ → ℕ) → ℕ → List ℕ → List ℕ
own_one key i l = set l (key i) (i + 1)

unfoldable pub owners : ℕ → (ℕ → ℕ) → ℕ → List ℕ
owners n key m = iter n (own_one key) (replicate m 0)

-- A table of marks: each number below n writes 1 at its key.
abbrev pub mark_one : (ℕ → ℕ) → ℕ → List ℕ → List ℕ
mark_one key i l = set l (key i) 1

unfoldable pub marks : ℕ → (ℕ → ℕ) → List ℕ → List ℕ
marks n key l = iter n (mark_one key) l
