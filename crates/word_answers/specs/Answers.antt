-- ANSWERS: the paper's number and values for each case of what a word entry answers.
use Rattle.std.specs.Prelude.{Bool, cond, List, [], ◌∷◌, ℕ, Result, Ok, Err}
use Rattle.word_answers.specs.declared.OutsideSize.{OutsideSize}

-- number: 0 accepted, else the refusal's number; values: what is answered with it
pub record WordReport (A : Type 0) : Type 0 where
  pub number : ℕ
  pub values : List A

abbrev pub word_answered : {A : Type 0} → A → WordReport A
word_answered value = record { number = 0; values = value ∷ [] }

-- "a refused word entry answers the number alone"
abbrev pub word_refused : {A : Type 0} → ℕ → WordReport A
word_refused number = record { number = number; values = [] }

-- the refusal's number
abbrev pub outside_size : ℕ
outside_size = 11

-- 11, "Given exactly when": "a word's field, an expected address or a status image is outside its size"
unfoldable pub if_in_size : {A : Type 0} → Bool → A → WordReport A
if_in_size is_in_size value = cond is_in_size (word_answered value) (word_refused outside_size)

abbrev pub report : {A : Type 0} → Result A OutsideSize → WordReport A
report (Ok value) = word_answered value
report (Err _) = word_refused outside_size

-- of an entry that makes a word of fields
abbrev pub encoded_report : Result ℕ OutsideSize → WordReport ℕ
encoded_report answer = report answer
