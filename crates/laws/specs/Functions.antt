-- A function with another value at one number.
use Rattle.std.specs.Prelude.{cond, ℕ, eqb}

-- f with v at i
abbrev pub upd {ℓ} : {A : Type ℓ} → (ℕ → A) → ℕ → A → ℕ → A
upd f i v j = cond (eqb j i) v (f j)
