-- What is asked of a mark for each task, and of how many flags each cycle has.
use Rattle.std.specs.Prelude.{ℕ, ◌+◌, Bool, List, leb, eqb, get_or}

abbrev pub marked_one : List ℕ → ℕ → Bool
marked_one has i = eqb (get_or has (i + 1) 0) 1

abbrev pub few_one : List ℕ → ℕ → Bool
few_one many c = leb (get_or many c 0) 15
