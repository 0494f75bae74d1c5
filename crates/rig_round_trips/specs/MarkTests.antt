-- The whole-file rules of the lines, by what was marked while they were read.
use Rattle.std.specs.Prelude.{ℕ, ◌+◌, Bool, List, [], ◌∷◌, eqb, get_or}
use Rattle.laws.specs.All.{all}
use Rattle.rig_round_trips.specs.Built.{Marks}

abbrev pub marked_one : List ℕ → ℕ → Bool
marked_one tline i = eqb (get_or tline (i + 1) 0) 1

unfoldable pub mark_tests : Marks → ℕ → List Bool
mark_tests k tasks =
    eqb k.above 0 ∷ eqb k.lines 0 ∷ eqb k.rows 0 ∷ all tasks (marked_one k.tline) ∷ eqb k.crowded 0 ∷ []
