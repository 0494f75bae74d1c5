-- THE RULES OF ROWS AS TESTS: each a Bool that a program can compute. Crate rig_whole proves of each test that it is true exactly
-- when its rule holds.
use Rattle.std.specs.Prelude.{Bool, not, ◌&&◌, ◌||◌, List, [], ◌∷◌, ℕ, eqb, leb, ltb, length, get_or}
use Rattle.laws.specs.All.{all, all_of}
use Rattle.laws.specs.Any.{any}
use Rattle.rig_tables.specs.Tests.{at, within}
use Rattle.rig.specs.declared.Row.{Row}
use Rattle.rig.specs.Rules.{no_row, periods, at}

-- addresses, sub-addresses, words, period and phase of a row
abbrev pub is_period : ℕ → ℕ → Bool
is_period p i = eqb (at periods i) p

unfoldable pub listed_b : ℕ → Bool
listed_b p = any 7 (is_period p)

unfoldable pub row_tests : Row → List Bool
row_tests b =
    leb b.sender 31 ∷
    within 1 b.sender_sub 30 ∷
    leb b.receiver 31 ∷
    within 1 b.receiver_sub 30 ∷
    within 1 b.words 32 ∷
    listed_b b.period ∷
    ltb b.phase b.period ∷
    []

abbrev pub row_one : List Row → ℕ → Bool
row_one row k = all_of (row_tests (get_or row k no_row))

-- there are places for sixty-four rows, and the first n have their sizes
unfoldable pub rows_b : ℕ → List Row → Bool
rows_b n row = eqb (length row) 64 && all n (row_one row)

abbrev pub differ_one : List Row → ℕ → Bool
differ_one row k = not (eqb (get_or row k no_row).sender (get_or row k no_row).receiver)

unfoldable pub differ_b : ℕ → List Row → Bool
differ_b n row = all n (differ_one row)

unfoldable pub row_zero_tests : Row → List Bool
row_zero_tests b =
    eqb b.sender 0 ∷
    eqb b.sender_sub 0 ∷
    eqb b.receiver 0 ∷
    eqb b.receiver_sub 0 ∷
    eqb b.words 0 ∷
    eqb b.period 0 ∷
    eqb b.phase 0 ∷
    []

unfoldable pub row_zero : Row → Bool
row_zero b = all_of (row_zero_tests b)

abbrev pub row_zero_one : ℕ → List Row → ℕ → Bool
row_zero_one n row k = ltb k n || row_zero (get_or row k no_row)

unfoldable pub row_zeros_b : ℕ → List Row → Bool
row_zeros_b n row = all 64 (row_zero_one n row)
