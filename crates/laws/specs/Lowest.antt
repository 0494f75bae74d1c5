-- The lowest of the first n numbers that passes a test; n where none does.
use Rattle.std.specs.Prelude.{Bool, cond, ℕ, zero, suc}

unfoldable pub lowest : ℕ → (ℕ → Bool) → ℕ
lowest zero p = zero
lowest (suc n) p = cond (p zero) zero (suc (lowest n (λ k. p (suc k))))
