-- Lines by number: those that pass a test, in order.
use Rattle.std.specs.Prelude.{ℕ, zero, suc, Bool, cond, List, [], ◌∷◌, ◌++◌}
use Rattle.rig_lines.specs.Line.{Line}
use Rattle.rig_lines.specs.Text.{line_bytes}

-- the lines f i of those i below n that pass p
unfoldable pub kept : ℕ → (ℕ → Bool) → (ℕ → Line) → List Line
kept zero p f = []
kept (suc k) p f = kept k p f ++ cond (p k) (f k ∷ []) []

-- a line's bytes with its LF
abbrev pub ended : Line → List ℕ
ended r = line_bytes r ++ (10 ∷ [])
