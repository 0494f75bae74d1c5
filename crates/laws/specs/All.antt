-- A test at each of the first n numbers, as a Bool that code can compute, and what it says of each.
use Rattle.std.specs.Prelude.{◌≡◌, Bool, true, ◌&&◌, ◌||◌, ℕ, zero, suc, List, [], ◌∷◌, eqb, ltb}

-- shut but for `unfolding all`, so that `all 64 p` is never run out
unfoldable pub all : ℕ → (ℕ → Bool) → Bool
all zero p = true
all (suc k) p = all k p && p k

-- Tests one after the other, as a list: a proof names a test by its place, and needs none of those before it.
unfoldable pub all_of : List Bool → Bool
all_of [] = true
all_of (b ∷ bs) = b && all_of bs

-- What a loop keeps that does not leave early: `bad` is 0 exactly when each entry so far has passed. Where it begins, an entry
-- that passes, one that does not.
abbrev pub Passed : ℕ → ℕ → (ℕ → Bool) → Type 0
Passed bad i test = eqb bad 0 ≡ all i test

-- A test of the numbers from one on, for a loop that begins there: the numbers before it pass. Where the loop begins, a number
-- that it comes to, and where it ends: at `to`, or at once.
abbrev pub since : ℕ → (ℕ → Bool) → ℕ → Bool
since from p i = ltb i from || p i
