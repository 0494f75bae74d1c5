-- A Bool as the number 0 or 1, and back.
use Rattle.std.specs.Prelude.{Bool, true, false, ℕ, eqb}

abbrev pub bit : Bool → ℕ
bit true = 1
bit false = 0

abbrev pub is_one : ℕ → Bool
is_one n = eqb n 1
