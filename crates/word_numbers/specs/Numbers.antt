-- WORDS FOR C: every field is a number, those of one bit too.
use Rattle.std.specs.Prelude.{Bool, [], ◌∷◌, ℕ, leb}
use Rattle.laws.specs.All.{all_of}
use Rattle.laws.specs.Bits.{bit, is_one}
use Rattle.laws.specs.Tables.{at}
use Rattle.word_parts.specs.Packed.{command_word, status_word}
use Rattle.word_answers.specs.Answers.{WordReport, if_in_size}
use Rattle.command_words.specs.declared.Command.{Command}
use Rattle.command_words.specs.Command.{command_in_size}
use Rattle.status_words.specs.declared.Status.{Status}
use Rattle.status_words.specs.Status.{status_in_size}
use Rattle.word_numbers.specs.declared.Made.{Made}
use Rattle.word_numbers.specs.declared.CommandNumbers.{CommandNumbers}
use Rattle.word_numbers.specs.declared.StatusNumbers.{StatusNumbers}

-- "transmit 1", "message error 1", "terminal failure 1": a field of one bit is 0 or 1
abbrev pub is_bit : ℕ → Bool
is_bit n = leb n 1

-- the fields that numbers say
abbrev pub command_of : ℕ → ℕ → ℕ → ℕ → Command
command_of address transmit sub last = record { address = address; transmit = is_one transmit; sub = sub; last = last }

abbrev pub status_of : ℕ → ℕ → ℕ → ℕ → Status
status_of address error status failure = record { address = address; error = is_one error; status = status; failure = is_one failure }

-- What is answered to numbers: their word, or 11 exactly when one is outside its size.
unfoldable pub command_answer : ℕ → ℕ → ℕ → ℕ → WordReport ℕ
command_answer address transmit sub last =
    if_in_size (all_of (is_bit transmit ∷ command_in_size (command_of address transmit sub last) ∷ [])) (command_word address transmit sub last)

unfoldable pub status_answer : ℕ → ℕ → ℕ → ℕ → WordReport ℕ
status_answer address error status failure =
    if_in_size (all_of (is_bit error ∷ is_bit failure ∷ status_in_size (status_of address error status failure) ∷ [])) (status_word address error status failure)

-- The answer as C has it: "a refused word entry answers the number alone", the word is 0 then.
abbrev pub made_of : WordReport ℕ → Made
made_of report = record { refusal = report.number; word = at report.values 0 }

-- The numbers of fields.
abbrev pub command_numbers : Command → CommandNumbers
command_numbers c = record { address = c.address; transmit = bit c.transmit; sub = c.sub; last = c.last }

abbrev pub status_numbers : Status → StatusNumbers
status_numbers s = record { address = s.address; error = bit s.error; status = s.status; failure = bit s.failure }
