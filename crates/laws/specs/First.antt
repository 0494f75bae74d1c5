-- The first test of a list that fails, by its number.
use Rattle.std.specs.Prelude.{Bool, cond, List, [], ◌∷◌, ℕ, suc}

-- the tests of the list are numbered from n on; 0 where none fails
unfoldable pub first_false : ℕ → List Bool → ℕ
first_false n [] = 0
first_false n (b ∷ bs) = cond b (first_false (suc n) bs) n
