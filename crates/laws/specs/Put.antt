-- A list with other elements in the place of those from a position on: what writers are said by.
use Rattle.std.specs.Prelude.{ℕ, ◌+◌, List, ◌++◌, length, take, drop}

-- the list with vs in the place of what stood from `at` on
unfoldable pub put : List ℕ → ℕ → List ℕ → List ℕ
put l at vs = take at l ++ (vs ++ drop (at + length vs) l)
