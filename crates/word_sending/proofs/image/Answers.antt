-- `image` is the definition: the word, and the parity bit below it.
use mathlib.Core.Path.{◌≡◌}
use Prim.Native.Nat.{ℕ, ◌<◌}
use native.Mathlib.Omega.{arith}
use Rattle.word_parts.specs.Parity.{parity_bit, image_of}
use Rattle.word_parts.proofs.Laws.Parity.{parity_below}
use Rattle.word_sending.proofs.image.Goals as goal

-- whatever word it is the parity of
one_bit : (b n : ℕ) → b ≡ parity_bit n → b < 2
one_bit b n e = omega (arith, e, parity_below n)

pub overflow_mul-result : goal.overflow_mul-result
overflow_mul-result c = omega (arith, one_bit _ _ c.parity-bit.ensures)

pub overflow_add-result : goal.overflow_add-result
overflow_add-result c = omega (arith, one_bit _ _ c.parity-bit.ensures)

pub returns : goal.returns
unfolding image_of
returns c = rw c.parity-bit.ensures
