-- A file's bytes, from its text.
use Rattle.std.specs.Prelude.{List, [] as none, ◌∷◌ as ◌then◌, ℕ}
use Prim.Native.Char.{code}
use Prim.Native.String.{String, [], ◌∷◌}

abbrev pub lf : ℕ
lf = code "\n"

-- the bytes of a text that has plain characters only: the code of each
unfoldable pub bytes : String → List ℕ
bytes [] = none
bytes (c ∷ s) = ◌then◌ (code c) (bytes s)
