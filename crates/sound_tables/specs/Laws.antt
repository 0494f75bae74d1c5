-- What the tests of one entry compute.
use Rattle.std.specs.Prelude.{◌≡◌, refl, ℕ, zero, suc, ◌≤◌, ◌<◌, Bool, true, false, not, cond, eqb}
use Rattle.std.proofs.Common.{arith}
use Rattle.std.specs.Int.Bits.{bit_xor}
use Rattle.laws.specs.Bits.{bit}
use Rattle.rules.specs.State.{active}

-- the fault of a task that waits and is in no chain, or the other way round
pub wait_fault : (a b : ℕ) {waits held : ℕ} → waits ≡ bit (eqb a 2) → held ≡ bit (not (eqb b 0))
    → cond (eqb a 2) (not (eqb b 0)) (eqb b 0) ≡ eqb (bit_xor waits held) 0
wait_fault a b e f = rw (e, f) (go (eqb a 2) (eqb b 0))
  where
    go : (x y : Bool) → cond x (not y) y ≡ eqb (bit_xor (bit x) (bit (not y))) 0
    go true true = refl
    go true false = refl
    go false true = refl
    go false false = refl

-- a state's activity, by its size
pub active_low : (n : ℕ) → n < 2 → active n ≡ 0
active_low zero h = refl
active_low (suc zero) h = refl
active_low (suc (suc n)) h = absurd (omega arith)

pub active_high : (n : ℕ) → 2 ≤ n → active n ≡ 1
active_high zero h = absurd (omega arith)
active_high (suc zero) h = absurd (omega arith)
active_high (suc (suc n)) h = refl
