-- Decimal numbers without spare zeros.
--     number     what a text says: its value below `cap`, `cap` for every larger one, `bad` or `unread` where it is no decimal
--     dec        the decimal of a number
-- The reading goes byte after byte, by `read_byte`, so that a loop's invariant is one equation on what is left. What a decimal is, said of the
-- text alone, and that exactly these are read, each as its value: `Decimal`, `value`, `number_exact`, `number_value` (Plain).
use Rattle.std.specs.Prelude.{ℕ, zero, suc, ◌+◌, ◌-◌, ◌*◌, ◌/◌, ◌%◌, min, Bool, cond, ◌&&◌, List, [], ◌∷◌, ◌++◌, leb, ltb, eqb}

-- the least number that is read as `cap`; no decimal; nothing read yet
abbrev pub cap : ℕ
cap = 4294967296

abbrev pub bad : ℕ
bad = 4294967297

abbrev pub unread : ℕ
unread = 4294967298

-- the digits 0 and 9, as bytes
abbrev pub zero_byte : ℕ
zero_byte = 48

abbrev pub nine_byte : ℕ
nine_byte = 57

abbrev pub digit : ℕ → Bool
digit b = leb zero_byte b && leb b nine_byte

-- one byte more: after nothing the digit's value, after a number its next value, after 0 (a spare zero) and after `bad` nothing good
unfoldable pub read_byte : ℕ → ℕ → ℕ
read_byte m b =
    cond (digit b)
    (cond (eqb m unread) (b - zero_byte) (cond (eqb m 0) bad (cond (ltb cap m) bad (min cap (m * 10 + (b - zero_byte))))))
    bad

unfoldable pub read_on : ℕ → List ℕ → ℕ
read_on m [] = m
read_on m (b ∷ bs) = read_on (read_byte m b) bs

abbrev pub number : List ℕ → ℕ
number l = read_on unread l

-- the decimal of n, for n below 10 ^ (k + 1)
unfoldable pub dec_by : ℕ → ℕ → List ℕ
dec_by zero n = (zero_byte + n) ∷ []
dec_by (suc k) n = cond (ltb n 10) ((zero_byte + n) ∷ []) (dec_by k (n / 10) ++ ((zero_byte + n % 10) ∷ []))

unfoldable pub dec : ℕ → List ℕ
dec n = dec_by 9 n
