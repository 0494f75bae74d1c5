-- A test at some of the first n numbers, as a Bool that code can compute.
use Rattle.std.specs.Prelude.{Bool, false, ◌||◌, ℕ, zero, suc}

unfoldable pub any : ℕ → (ℕ → Bool) → Bool
any zero p = false
any (suc k) p = any k p || p k
