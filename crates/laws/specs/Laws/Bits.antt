-- Laws of the definitions of Bits.antt.
use Rattle.std.specs.Prelude.{◌≡◌, refl, Bool, true, false, cond, ◌||◌, ℕ, zero, suc, ◌≤◌, ◌<◌}
use Rattle.std.proofs.Common.{arith}
use Rattle.laws.specs.Bits.{bit, is_one}

pub bit_below : (b : Bool) → bit b < 2
bit_below true = omega arith
bit_below false = omega arith

pub bit_le : (b : Bool) → bit b ≤ 1
bit_le true = omega arith
bit_le false = omega arith

pub is_one_bit : (b : Bool) → is_one (bit b) ≡ b
is_one_bit true = refl
is_one_bit false = refl

pub bit_is_one : (n : ℕ) → n < 2 → bit (is_one n) ≡ n
bit_is_one zero h = refl
bit_is_one (suc zero) h = refl
bit_is_one (suc (suc n)) h = absurd (omega arith)

-- marks over a bit
pub mark_bit : (a b : Bool) → cond a 1 (bit b) ≡ bit (b || a)
mark_bit true true = refl
mark_bit true false = refl
mark_bit false true = refl
mark_bit false false = refl
