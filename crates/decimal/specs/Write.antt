-- How the writer of a number goes, digit after digit.
-- Assumes nothing.
use Rattle.std.specs.Prelude.{ℕ, ◌+◌, ◌/◌, ◌%◌, ◌≤◌, ◌<◌, ◌≡◌, List, [], ◌∷◌, ◌++◌, length, set}
use Rattle.std.proofs.Common.{sym, ap, ◌∙◌, arith, length-append}
use Rattle.put_text.specs.Wrote.{Wrote}
use Rattle.put_text.specs.Laws.Wrote.{wrote_as, byte_wrote, then_byte}
use Rattle.decimal.specs.Decimal.{dec, cap}
use Rattle.decimal.specs.Laws.{dec_small, dec_tens}

module _ (l : List ℕ) (at n : ℕ) (room : at + length (dec n) ≤ length l) where
  -- a digit is written, and is the whole number
  pub write_small : n < 10 → (at < length l) × Wrote l at (dec n) (set l at (48 + n)) (at + 1)
  write_small h =
      let e = dec_small n h in
      let k : length (dec n) ≡ 1 = ap length e in
      (omega arith, wrote_as l (set l at (48 + n)) ((48 + n) ∷ []) (dec n) at (at + 1) (sym e) (byte_wrote l at (48 + n) (omega arith)))

  -- the last digit is written after the others
  module _ (h : 10 ≤ n) (g : n < cap) where
    one_more : length (dec n) ≡ length (dec (n / 10)) + 1
    one_more = ap length (dec_tens n h g) ∙ length-append (dec (n / 10)) ((48 + n % 10) ∷ [])

    pub tens_room : at + length (dec (n / 10)) < length l
    tens_room = omega (arith, one_more)

    pub write_tens : (m : List ℕ) (p : ℕ) → Wrote l at (dec (n / 10)) m p → Wrote l at (dec n) (set m p (48 + n % 10)) (p + 1)
    write_tens m p w =
        wrote_as l (set m p (48 + n % 10)) (dec (n / 10) ++ ((48 + n % 10) ∷ [])) (dec n) at (p + 1) (sym (dec_tens n h g))
        (then_byte l m (dec (n / 10)) at (48 + n % 10) p tens_room w)
