-- The worked cases of the paper that are marked *, as far as they concern words.
use Rattle.std.specs.Prelude.{refl, List, [], ◌∷◌}
use Rattle.std.specs.Int.Count.{ones, ones_in}
use Rattle.laws.specs.All.{all_of}
use Rattle.word_parts.specs.Packed.{command_word, status_word}
use Rattle.word_parts.specs.Parity.{parity_bit}
use Rattle.word_answers.specs.Answers.{word_answered, word_refused, if_in_size}
use Rattle.word_answers.specs.Cases.{Case, case, AsTold}
use Rattle.command_words.specs.Command.{command_report, command_in_size, last_in_size}
use Rattle.command_words.specs.Laws.Cases.{receive, transmit}
use Rattle.status_words.specs.Status.{status_report, status_in_size}
use Rattle.status_words.specs.Laws.Cases.{message_error}

unfoldable pub word_cases : List Case
word_cases =
    -- "Receive, address 7, sub-address 2, 32 words: 14400."
    case (command_report (receive 7 2 32)) (word_answered 14400)
    -- "Receive 5, 1, 1 word: 10273."
    ∷ case (command_report (receive 5 1 1)) (word_answered 10273)
    -- "Transmit 31, 30, 32 words: 65472."
    ∷ case (command_report (transmit 31 30 32)) (word_answered 65472)
    -- "Status, address 7, message error only: 15360."
    ∷ case (status_report (message_error 7)) (word_answered 15360)
    -- "Parity of 14400 is 1."
    ∷ case (word_answered (parity_bit 14400)) (word_answered 1)
    -- "Parity of 1 is 0."
    ∷ case (word_answered (parity_bit 1)) (word_answered 0)
    -- "Words 33: refused 11."
    ∷ case (command_report (receive 7 2 33)) (word_refused 11)
    ∷ []

-- "Cases marked * are proved of the rules, as one table with one statement."
pub words_right : AsTold word_cases
unfolding word_cases command_report command_in_size last_in_size command_word status_report status_in_size status_word if_in_size all_of parity_bit ones ones_in
words_right = refl
