-- "Status word: address 5, message error 1, status 9, terminal failure 1."
use Rattle.std.specs.Prelude.{Bool, [], ◌∷◌, ℕ, ◌/◌, ◌%◌, leb}
use Rattle.laws.specs.All.{all_of}
use Rattle.laws.specs.Bits.{bit, is_one}
use Rattle.status_words.specs.declared.Status.{Status}
use Rattle.word_answers.specs.Answers.{WordReport, if_in_size}
use Rattle.word_parts.specs.Packed.{last_of_five, last_of_nine, past_eleven, past_ten, past_one, status_word}

abbrev pub word_of_status : Status → ℕ
word_of_status s = status_word s.address (bit s.error) s.status (bit s.failure)

-- "address 5", "status 9"; the other two are one bit by their type
unfoldable pub status_in_size : Status → Bool
status_in_size s = all_of (leb s.address last_of_five ∷ leb s.status last_of_nine ∷ [])

-- What is answered to fields: their word, or 11 exactly when one is outside its size.
unfoldable pub status_report : Status → WordReport ℕ
status_report s = if_in_size (status_in_size s) (word_of_status s)

-- The fields of any word, cut out at the same places.
unfoldable pub status_fields : ℕ → Status
status_fields w =
    record {
      address = w / past_eleven;
      error = is_one (w / past_ten % 2);
      status = w / past_one % 512;
      failure = is_one (w % 2);
    }
