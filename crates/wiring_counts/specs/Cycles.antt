-- A TABLE OF A FRAME'S CYCLES, one number for each.
use Rattle.std.specs.Prelude.{◌≡◌, List, ℕ, ◌<◌, length, get_or}
use Rattle.rules.specs.Sizes.{minor_cycles}

-- it has what f says of the first n cycles
pub record InCycles (f : ℕ → ℕ) (n : ℕ) (cycles : List ℕ) : Type 0 where
  pub long : length cycles ≡ minor_cycles
  pub each : (c : ℕ) → c < n → get_or cycles c 0 ≡ f c
