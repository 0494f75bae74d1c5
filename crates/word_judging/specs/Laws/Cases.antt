-- Cases of our own on judging, for sentences that the paper's leave open.
use Rattle.std.specs.Prelude.{◌≡◌, refl}
use Rattle.laws.specs.All.{all_of}
use Rattle.word_parts.specs.Parity.{image_of}
use Rattle.word_parts.proofs.Laws.ParityCases.{parities}
use Rattle.word_answers.specs.Answers.{word_answered, word_refused, if_in_size}
use Rattle.status_words.specs.Status.{status_fields}
use Rattle.word_judging.specs.declared.Verdict.TheVariants.{Error, Exception, Clean}
use Rattle.word_judging.specs.Judging.{is_error, is_exception, verdict_of, judged_as}

-- "an error (bad parity or another address), an exception (any other field not zero), or clean"; 11 for an image or an
-- address outside its size
pub verdicts :
    (judged_as 28672 7 ≡ word_answered Clean)
    × (judged_as 28673 7 ≡ word_answered Error)
    × (judged_as 28672 8 ≡ word_answered Error)
    × (judged_as (image_of 15360) 7 ≡ word_answered Exception)
    × (judged_as (image_of 14338) 7 ≡ word_answered Exception)
    × (judged_as (image_of 14337) 7 ≡ word_answered Exception)
    × (judged_as 131071 31 ≡ word_answered Exception)
    × (judged_as 131072 31 ≡ word_refused 11)
    × (judged_as 28672 32 ≡ word_refused 11)
unfolding judged_as verdict_of is_error is_exception status_fields image_of if_in_size all_of
-- a word's own image is judged once its parity is in it: its parity is asked twice
verdicts =
    rw (parities.1, parities.2, parities.3, parities.4, parities.5, parities.3, parities.4, parities.5)
    (refl, refl, refl, refl, refl, refl, refl, refl, refl)
