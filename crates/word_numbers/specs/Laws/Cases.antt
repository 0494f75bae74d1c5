-- Cases of our own on what C is told: the refusal's number and no word, or no refusal and the word.
use Rattle.std.specs.Prelude.{◌≡◌, refl}
use Rattle.laws.specs.All.{all_of}
use Rattle.word_parts.specs.Packed.{command_word, status_word}
use Rattle.word_answers.specs.Answers.{if_in_size}
use Rattle.command_words.specs.Command.{command_in_size, last_in_size}
use Rattle.status_words.specs.Status.{status_in_size}
use Rattle.word_numbers.specs.Numbers.{command_answer, status_answer, made_of}

pub made_cases :
    (made_of (command_answer 7 0 2 32) ≡ record { refusal = 0; word = 14400 })
    × (made_of (command_answer 7 1 2 32) ≡ record { refusal = 0; word = 15424 })
    × (made_of (command_answer 7 2 2 32) ≡ record { refusal = 11; word = 0 })
    × (made_of (command_answer 7 0 2 33) ≡ record { refusal = 11; word = 0 })
    × (made_of (status_answer 7 1 0 0) ≡ record { refusal = 0; word = 15360 })
    × (made_of (status_answer 7 0 0 1) ≡ record { refusal = 0; word = 14337 })
    × (made_of (status_answer 7 2 0 0) ≡ record { refusal = 11; word = 0 })
    × (made_of (status_answer 7 0 0 2) ≡ record { refusal = 11; word = 0 })
unfolding command_answer command_in_size last_in_size command_word status_answer status_in_size status_word if_in_size all_of
made_cases = (refl, refl, refl, refl, refl, refl, refl, refl)
