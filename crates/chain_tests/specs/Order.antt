-- A chain is in order of waking count, from a lowest one on; and a chain that is walked by its next links alone.
use Rattle.std.specs.Prelude.{◌≡◌, Bool, true, ◌&&◌, List, [], ◌∷◌, ℕ, leb}
use Rattle.chains.specs.Link.{last}
use Rattle.chains.specs.Ops.{walk}

-- each waking count is at least the one before, the first at least lo
unfoldable pub risingb : (ℕ → ℕ) → ℕ → List ℕ → Bool
risingb W lo [] = true
risingb W lo (x ∷ xs) = leb lo (W x) && risingb W (W x) xs

-- who follows N from node u, through tasks alone, comes to s
abbrev pub Reaches : (ℕ → ℕ) → ℕ → ℕ → Type 0
Reaches N u s = N (last u (walk N 64 64 u)) ≡ s
