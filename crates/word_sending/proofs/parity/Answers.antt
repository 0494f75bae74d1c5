-- `parity` is the definition: the operation counts the ones of a word, of which there are at most sixteen.
use mathlib.Core.Path.{refl}
use Prim.Native.Nat.{ℕ, ◌+◌, ◌^◌, ◌<◌}
use native.Mathlib.Omega.{arith}
use lib.Count.{ones, ones-le}
use Rattle.word_parts.specs.Parity.{parity_bit}
use Rattle.word_sending.proofs.parity.Goals as goal

few_ones : (k n : ℕ) → k < 2 → n < 65536 → k + ones n < 2 ^ 32
few_ones k n b h = omega (arith, ones-le 16 n h)

pub overflow_add-result : goal.overflow_add-result
overflow_add-result c = record { fits = few_ones _ _ (omega arith) (omega (arith, c.ranges.word.fits)) }

pub returns : goal.returns
unfolding parity_bit
returns c = refl
