-- THE LIBRARY'S OWN NUMBERS: the record's layout, and the version.
use Rattle.std.specs.Prelude.{ℕ, ◌+◌, ◌*◌}

-- bytes of a record, and what its address is a multiple of
abbrev pub record_size : ℕ
record_size = 10920

abbrev pub record_align : ℕ
record_align = 4

-- version 0.8.0 as one number, larger for a later one: 1,000,000 for each of the first, 1,000 for each of the second, 1 for each of the third
abbrev pub version : ℕ
version = 0 * 1000000 + 8 * 1000 + 0
