-- "Command word, high bits first: address 5, transmit 1, sub-address 5, words 5, where 32 is written as 0."
use Rattle.std.specs.Prelude.{Bool, cond, ◌&&◌, [], ◌∷◌, ℕ, ◌/◌, ◌%◌, leb, eqb}
use Rattle.laws.specs.All.{all_of}
use Rattle.laws.specs.Bits.{bit, is_one}
use Rattle.word_parts.specs.Packed.{last_of_five, past_eleven, past_ten, past_five, command_word}
use Rattle.command_words.specs.declared.Command.{Command}
use Rattle.word_answers.specs.Answers.{WordReport, if_in_size}

abbrev pub word_of_command : Command → ℕ
word_of_command c = command_word c.address (bit c.transmit) c.sub c.last

-- "sub-address 0 makes it a mode command"
abbrev pub mode_sub : ℕ
mode_sub = 0

abbrev pub is_mode : ℕ → Bool
is_mode sub = eqb sub mode_sub

-- "the words 1 to 32"; of a mode command "the last field its number, 0 to 31"
abbrev pub most_words : ℕ
most_words = 32

unfoldable pub last_in_size : Bool → ℕ → Bool
last_in_size mode last = cond mode (leb last last_of_five) (leb 1 last && leb last most_words)

-- "address 5"; "In a command the sub-address is 0 to 31"; and the last field
unfoldable pub command_in_size : Command → Bool
command_in_size c = all_of (leb c.address last_of_five ∷ leb c.sub last_of_five ∷ last_in_size (is_mode c.sub) c.last ∷ [])

-- What is answered to fields: their word, or 11 exactly when one is outside its size.
unfoldable pub command_report : Command → WordReport ℕ
command_report c = if_in_size (command_in_size c) (word_of_command c)

-- What the five bits of the last field say: "32 is written as 0", and a mode number as itself.
unfoldable pub last_of : Bool → ℕ → ℕ
last_of mode field = cond mode field (cond (eqb field 0) most_words field)

-- The fields of any word, cut out at the same places.
unfoldable pub command_fields : ℕ → Command
command_fields w =
    record {
      address = w / past_eleven;
      transmit = is_one (w / past_ten % 2);
      sub = w / past_five % past_five;
      last = last_of (is_mode (w / past_five % past_five)) (w % past_five);
    }
