-- Cases of our own on commands, for sentences that the paper's leave open.
use Rattle.std.specs.Prelude.{refl, true, false, List, [], ◌∷◌, ℕ}
use Rattle.laws.specs.All.{all_of}
use Rattle.word_parts.specs.Packed.{command_word}
use Rattle.word_answers.specs.Answers.{word_answered, word_refused, if_in_size}
use Rattle.word_answers.specs.Cases.{Case, case, AsTold}
use Rattle.command_words.specs.declared.Command.{Command}
use Rattle.command_words.specs.Command.{command_report, command_in_size, last_in_size, last_of, command_fields}

abbrev pub receive : ℕ → ℕ → ℕ → Command
receive address sub words = record { address = address; transmit = false; sub = sub; last = words }

abbrev pub transmit : ℕ → ℕ → ℕ → Command
transmit address sub words = record { address = address; transmit = true; sub = sub; last = words }

unfoldable pub command_cases : List Case
command_cases =
    -- "sub-address 0 makes it a mode command and the last field its number, 0 to 31"
    case (command_report (receive 7 0 0)) (word_answered 14336)
    ∷ case (command_report (receive 7 0 31)) (word_answered 14367)
    ∷ case (command_report (receive 7 0 32)) (word_refused 11)
    ∷ case (word_answered (command_fields 14336).last) (word_answered 0)
    ∷ case (word_answered (command_fields 14367).last) (word_answered 31)
    -- sub-address 31 does not: "the sub-address is 0 to 31 and the words 1 to 32"
    ∷ case (command_report (receive 7 31 32)) (word_answered 15328)
    ∷ case (command_report (receive 7 31 0)) (word_refused 11)
    ∷ case (word_answered (command_fields 15328).last) (word_answered 32)
    ∷ case (command_report (receive 7 1 0)) (word_refused 11)
    ∷ case (command_report (receive 7 32 1)) (word_refused 11)
    ∷ case (command_report (receive 32 1 1)) (word_refused 11)
    ∷ []

pub commands_right : AsTold command_cases
unfolding command_cases command_report command_in_size last_in_size command_fields last_of command_word if_in_size all_of
commands_right = refl
