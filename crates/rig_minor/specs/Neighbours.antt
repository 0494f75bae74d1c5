-- The tests of a line by its neighbours, as the code computes them. Laws.antt proves that they say what the test of rig_tables says.
use Rattle.std.specs.Prelude.{Bool, ◌&&◌, not, List, ℕ, ◌+◌, ◌-◌, eqb, ltb}
use Rattle.rig_tables.specs.Tests.{at, place_of}

-- the line before line k is of its condition, and the line behind it
unfoldable pub same_before : List ℕ → List ℕ → ℕ → Bool
same_before line_task line_pos k = ltb 0 k && eqb (place_of line_task line_pos (k - 1)) (place_of line_task line_pos k)

unfoldable pub same_behind : ℕ → List ℕ → List ℕ → ℕ → Bool
same_behind n line_task line_pos k = ltb (k + 1) n && eqb (place_of line_task line_pos (k + 1)) (place_of line_task line_pos k)

-- the condition of line k is unlatched and desires on, and has no other flag
unfoldable pub minor_ok_b : ℕ → List ℕ → List ℕ → List ℕ → List ℕ → ℕ → Bool
minor_ok_b n latched desired line_task line_pos k =
    (eqb (at latched (place_of line_task line_pos k)) 0 && eqb (at desired (place_of line_task line_pos k)) 1)
    && (not (same_before line_task line_pos k) && not (same_behind n line_task line_pos k))
