-- Lines as they stand in bytes, ten bytes a line: its kind, then its numbers.
use Rattle.std.specs.Prelude.{ℕ, zero, suc, ◌+◌, ◌*◌, cond, List, [], ◌∷◌, ◌++◌, get_or, take, drop}
use Rattle.rig_lines.specs.Kinds.{is_known, count_of}
use Rattle.rig_lines.specs.Line.{Line}

-- the line that stands in the ten bytes from 10 times i on: as many numbers as its kind has
unfoldable pub line_in : List ℕ → ℕ → Line
line_in l i = record { kind = get_or l (10 * i) 0; nums = take (count_of (get_or l (10 * i) 0)) (drop (10 * i + 1) l) }

-- the first n lines
unfoldable pub lines_in : List ℕ → ℕ → List Line
lines_in l zero = []
lines_in l (suc n) = lines_in l n ++ (line_in l n ∷ [])

-- the lines of the six kinds
unfoldable pub known : List Line → List Line
known [] = []
known (r ∷ rs) = cond (is_known r.kind) (r ∷ known rs) (known rs)
