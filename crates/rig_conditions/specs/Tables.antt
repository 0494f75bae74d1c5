-- The table of the conditions that A lines name, the test that goes by it, and what the code asks of it. Laws.antt proves that it
-- says what the tests of rig_tables say.
use Rattle.std.specs.Prelude.{◌≡◌, Bool, List, ℕ, ◌+◌, ◌*◌, ◌≤◌, ◌<◌, eqb, replicate}
use Rattle.laws.specs.All.{all}
use Rattle.laws.specs.Owners.{marks}
use Rattle.rig_tables.specs.Tests.{at, place_of}

-- a table by place of condition has nothing from `end` on
abbrev pub ZeroFrom : ℕ → List ℕ → Type 0
ZeroFrom end l = (p : ℕ) → end ≤ p → p < 1040 → at l p ≡ 0

-- no condition and no A line is of a task above the last
pub record Ends (tasks n : ℕ) (present line_task line_pos : List ℕ) : Type 0 where
  pub few : tasks ≤ 64
  pub conditions : ZeroFrom (16 * (tasks + 1)) present
  pub lines : (k : ℕ) → k < n → place_of line_task line_pos k < 16 * (tasks + 1)

-- the conditions that A lines name, marked by 1
unfoldable pub place_marks : ℕ → List ℕ → List ℕ → List ℕ
place_marks n line_task line_pos = marks n (place_of line_task line_pos) (replicate 1040 0)

-- the marked places are the conditions
abbrev pub matched_one : List ℕ → List ℕ → ℕ → Bool
matched_one present table p = eqb (at present p) (at table p)

unfoldable pub matched_b : List ℕ → List ℕ → Bool
matched_b present table = all 1040 (matched_one present table)
