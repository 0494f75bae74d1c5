-- "Against an expected address it is an error .., an exception .., or clean."
use Rattle.std.specs.Prelude.{Bool, cond, not, ◌||◌, [], ◌∷◌, ℕ, leb, eqb}
use Rattle.laws.specs.All.{all_of}
use Rattle.word_parts.specs.Packed.{last_of_five, last_of_seventeen}
use Rattle.word_parts.specs.Parity.{parity_bit, word_in, parity_in}
use Rattle.word_answers.specs.Answers.{WordReport, if_in_size}
use Rattle.status_words.specs.declared.Status.{Status}
use Rattle.status_words.specs.Status.{status_fields}
use Rattle.word_judging.specs.declared.Verdict.{Verdict}
use Rattle.word_judging.specs.declared.Verdict.TheVariants.{Error, Exception, Clean}

-- "an error (bad parity or another address)"
unfoldable pub is_error : ℕ → ℕ → Bool
is_error image address =
    not (eqb (parity_in image) (parity_bit (word_in image))) || not (eqb (status_fields (word_in image)).address address)

-- "an exception (any other field not zero)"
unfoldable pub is_exception : Status → Bool
is_exception s = s.error || not (eqb s.status 0) || s.failure

unfoldable pub verdict_of : ℕ → ℕ → Verdict
verdict_of image address = cond (is_error image address) Error (cond (is_exception (status_fields (word_in image))) Exception Clean)

-- What is answered to an image and an expected address: the verdict, or 11 exactly when the image has more than 17 bits or the address more than 5.
unfoldable pub judged_as : ℕ → ℕ → WordReport Verdict
judged_as image address = if_in_size (all_of (leb image last_of_seventeen ∷ leb address last_of_five ∷ [])) (verdict_of image address)
