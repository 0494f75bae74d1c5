-- PACKED WORDS: the fields from the highest to the lowest, each shifted past those below it.
use Rattle.std.specs.Prelude.{ℕ, ◌+◌, ◌*◌, ◌%◌}

-- the last number that a field of five, of nine, of seventeen bits holds
abbrev pub last_of_five : ℕ
last_of_five = 31

abbrev pub last_of_nine : ℕ
last_of_nine = 511

abbrev pub last_of_seventeen : ℕ
last_of_seventeen = 131071

-- what a field is multiplied by that stands above eleven bits, above ten, above five, above one
abbrev pub past_eleven : ℕ
past_eleven = 2048

abbrev pub past_ten : ℕ
past_ten = 1024

abbrev pub past_five : ℕ
past_five = 32

abbrev pub past_one : ℕ
past_one = 2

-- "Command word, high bits first: address 5, transmit 1, sub-address 5, words 5, where 32 is written as 0."
unfoldable pub command_word : ℕ → ℕ → ℕ → ℕ → ℕ
command_word address transmit sub words = past_eleven * address + past_ten * transmit + past_five * sub + words % past_five

-- "Status word: address 5, message error 1, status 9, terminal failure 1."
unfoldable pub status_word : ℕ → ℕ → ℕ → ℕ → ℕ
status_word address error status failure = past_eleven * address + past_ten * error + past_one * status + failure
