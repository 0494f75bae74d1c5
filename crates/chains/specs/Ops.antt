-- How a chain is read.
use Rattle.std.specs.Prelude.{cond, ◌&&◌, List, [], ◌∷◌, ℕ, zero, suc, leb, ltb}

-- READ: what a reader sees who follows f from node u for at most n steps, as long as there are tasks
unfoldable pub walk : (ℕ → ℕ) → ℕ → ℕ → ℕ → List ℕ
walk f T zero u = []
walk f T (suc n) u = cond (ltb 0 (f u) && leb (f u) T) (f u ∷ walk f T n (f u)) []
