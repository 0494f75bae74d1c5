-- The text of a line as it is written, field after field.
use Rattle.std.specs.Prelude.{ℕ, List, [], ◌∷◌, ◌++◌, map, take}
use Rattle.decimal.specs.Decimal.{dec}
use Rattle.text.specs.Split.{led, lf, tab}
use Rattle.rig_lines.specs.Kinds.{count_of, name_of}

-- f numbers, each after a tab
unfoldable pub begun : List ℕ → ℕ → List ℕ
begun v f = led tab (map dec (take f v))

-- the line with its end
unfoldable pub line_text : ℕ → List ℕ → List ℕ
line_text k v = (name_of k ++ begun v (count_of k)) ++ (lf ∷ [])
