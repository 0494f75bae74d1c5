-- What the tests that go by A lines ask of them.
use Rattle.std.specs.Prelude.{List, ℕ, ◌+◌, ◌≤◌, ◌<◌}
use Rattle.laws.specs.Sizes.{most_flags, most_lines, condition_places}
use Rattle.rig_tables.specs.Tests.{at, place_of}

-- the A lines name places that are there
pub record Placed (n : ℕ) (line_task line_pos : List ℕ) : Type 0 where
  pub few : n ≤ most_lines
  pub low : (k : ℕ) → k < n → place_of line_task line_pos k < condition_places

-- and flags that are there
pub record LinesFit (n : ℕ) (line_task line_pos line_flag : List ℕ) : Type 0 where
  pub placed : Placed n line_task line_pos
  pub flags : (k : ℕ) → k < n → at line_flag k ≤ most_flags

-- lines of one condition stand together: no line's place is below that of the line before it
abbrev pub Together : ℕ → List ℕ → List ℕ → Type 0
Together n line_task line_pos = (k : ℕ) → k + 1 < n → place_of line_task line_pos k ≤ place_of line_task line_pos (k + 1)
