-- "Word parity is that of MIL-STD-1553, odd."
use Rattle.std.specs.Prelude.{ℕ, ◌+◌, ◌*◌, ◌/◌, ◌%◌}
use Rattle.std.specs.Int.Count.{ones}

-- The bit that makes the number of ones odd, of a byte as of a word. `ones n` is how many of n's binary digits are 1.
unfoldable pub parity_bit : ℕ → ℕ
parity_bit n = (1 + ones n) % 2

-- "With parity it is a 17-bit image, word times two plus parity."
unfoldable pub image_of : ℕ → ℕ
image_of w = w * 2 + parity_bit w

-- What an image holds: the word, and the parity bit below it.
abbrev pub word_in : ℕ → ℕ
word_in image = image / 2

abbrev pub parity_in : ℕ → ℕ
parity_in image = image % 2
