-- Cases of our own on statuses, for sentences that the paper's leave open.
use Rattle.std.specs.Prelude.{refl, true, false, List, [], ◌∷◌, ℕ}
use Rattle.laws.specs.All.{all_of}
use Rattle.word_parts.specs.Packed.{status_word}
use Rattle.word_answers.specs.Answers.{word_answered, word_refused, if_in_size}
use Rattle.word_answers.specs.Cases.{Case, case, AsTold}
use Rattle.status_words.specs.declared.Status.{Status}
use Rattle.status_words.specs.Status.{status_report, status_in_size}

abbrev pub message_error : ℕ → Status
message_error address = record { address = address; error = true; status = 0; failure = false }

abbrev pub only_status : ℕ → ℕ → Status
only_status address status = record { address = address; error = false; status = status; failure = false }

abbrev pub only_failure : ℕ → Status
only_failure address = record { address = address; error = false; status = 0; failure = true }

unfoldable pub status_cases : List Case
status_cases =
    -- "Status word: address 5, message error 1, status 9, terminal failure 1."
    case (status_report (only_status 31 511)) (word_answered 64510)
    ∷ case (status_report (only_status 31 512)) (word_refused 11)
    ∷ case (status_report (only_status 32 0)) (word_refused 11)
    ∷ case (status_report (only_failure 1)) (word_answered 2049)
    ∷ []

pub statuses_right : AsTold status_cases
unfolding status_cases status_report status_in_size status_word if_in_size all_of
statuses_right = refl
