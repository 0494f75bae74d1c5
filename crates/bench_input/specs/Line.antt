-- A SCRIPT LINE AS IT COMES, and a last one that no LF ends.
use Rattle.std.specs.Prelude.{ℕ, ◌≤◌, ◌≡◌, cond, List, [], ◌∷◌, ◌++◌, ltb, length, take}
use Rattle.bench_script.specs.Output.{wrong_text}

-- so many bytes of a line are kept; no line that says anything has as many
abbrev pub line_room : ℕ
line_room = 24

-- one byte more of a line
unfoldable pub with_more : List ℕ → ℕ → List ℕ
with_more line b = cond (ltb (length line) line_room) (line ++ (b ∷ [])) line

-- "a line .. has .. no LF" is of wrong shape; where no byte stands there is no line
unfoldable pub last_text : List ℕ → List ℕ
last_text [] = []
last_text (b ∷ bytes) = wrong_text

-- the number of a line as it is printed; no rig file has a line of a larger one
unfoldable pub line_number : ℕ → ℕ
line_number n = cond (ltb n 65536) n 0

-- the line's bytes are kept in a table, from its front on
pub record Holds (line : List ℕ) (held b : ℕ) (after : List ℕ) (r : ℕ) : Type 0 where
  pub is : take r after ≡ with_more (take held line) b
  pub high : r ≤ line_room
  pub size : length after ≡ length line
