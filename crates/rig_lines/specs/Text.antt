-- The text of lines, which the writer goes by.
use Rattle.std.specs.Prelude.{ℕ, List, [], ◌∷◌, ◌++◌, map}
use Rattle.decimal.specs.Decimal.{dec}
use Rattle.text.specs.Split.{led, lf, tab}
use Rattle.rig_lines.specs.Kinds.{name_of}
use Rattle.rig_lines.specs.Line.{Line}

-- "fields are parted by one tab"
unfoldable pub line_bytes : Line → List ℕ
line_bytes r = name_of r.kind ++ led tab (map dec r.nums)

-- "Lines end in LF"
unfoldable pub text : List Line → List ℕ
text [] = []
text (r ∷ rs) = line_bytes r ++ (lf ∷ text rs)
