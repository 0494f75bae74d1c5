-- Cases of our own on parity and images.
use Rattle.std.specs.Prelude.{◌≡◌, refl}
use Rattle.std.specs.Int.Count.{ones, ones_in}
use Rattle.word_parts.specs.Parity.{parity_bit, image_of}
use Rattle.word_parts.proofs.Laws.Parity.{parity_bytes}

-- the parities of some words, by bytes: the rule itself counts a word's ones in as many steps as the word's number
pub parities : (parity_bit 14400 ≡ 1) × (parity_bit 65535 ≡ 1) × (parity_bit 14336 ≡ 0) × (parity_bit 15360 ≡ 1) × (parity_bit 14338 ≡ 1) × (parity_bit 14337 ≡ 1)
unfolding parity_bit ones ones_in
parities = (parity_bytes 14400, parity_bytes 65535, parity_bytes 14336, parity_bytes 15360, parity_bytes 14338, parity_bytes 14337)

-- "With parity it is a 17-bit image, word times two plus parity."
pub images : (image_of 14400 ≡ 28801) × (image_of 65535 ≡ 131071) × (image_of 14336 ≡ 28672)
unfolding image_of
images = rw (parities.0, parities.1, parities.2) (refl, refl, refl)
