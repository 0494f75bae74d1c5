-- What follows from the rule of parity, how the parity of a number is made of that of its parts, and what an image holds.
use Rattle.std.specs.Prelude.{◌≡◌, ◌↔◌, ℕ, ◌+◌, ◌*◌, ◌/◌, ◌%◌, ◌^◌, ◌<◌}
use Rattle.std.proofs.Common.{sym, ap, ◌∙◌, arith, div-add-mod'}
use Rattle.std.specs.Int.Count.{ones}
use Rattle.std.proofs.lemmas.Nat.{ones_cat}
use Rattle.word_parts.specs.Parity.{parity_bit, image_of, word_in, parity_in}

pub parity_below : (n : ℕ) → parity_bit n < 2
unfolding parity_bit
parity_below n = omega arith

-- the parity bit is the one bit that makes the number of ones odd
pub parity_exactly : (n b : ℕ) → b < 2 → ((ones n + b) % 2 ≡ 1) ↔ (b ≡ parity_bit n)
unfolding parity_bit
parity_exactly n b h = ((λ e. omega arith), (λ e. omega arith))

-- a number in two parts, at any width of the lower one
pub parity_parts : (k high low : ℕ) → low < 2 ^ k → parity_bit (high * 2 ^ k + low) ≡ (1 + parity_bit high + parity_bit low) % 2
unfolding parity_bit
parity_parts k high low h = rw (ones_cat k high low h) (omega arith)

-- a word by its bytes
pub parity_bytes : (w : ℕ) → parity_bit w ≡ (1 + parity_bit (w / 256) + parity_bit (w % 256)) % 2
parity_bytes w = ap parity_bit (sym (div-add-mod' w 256)) ∙ parity_parts 8 (w / 256) (w % 256) (omega arith)

-- ---- images

pub image_below : (w : ℕ) → w < 65536 → image_of w < 131072
unfolding image_of
image_below w h = omega (arith, parity_below w)

pub image_word : (w : ℕ) → word_in (image_of w) ≡ w
unfolding image_of
image_word w = omega (arith, parity_below w)

pub image_parity : (w : ℕ) → parity_in (image_of w) ≡ parity_bit w
unfolding image_of
image_parity w = omega (arith, parity_below w)
