-- The paper's number and values for each case of what judging answers, and what C is told of them.
use Rattle.std.specs.Prelude.{List, [], ◌∷◌, ℕ, Result}
use Rattle.word_answers.specs.Answers.{WordReport, report}
use Rattle.word_answers.specs.declared.OutsideSize.{OutsideSize}
use Rattle.word_judging.specs.declared.Verdict.{Verdict}
use Rattle.word_judging.specs.declared.Verdict.TheVariants as verdict

abbrev pub judged_report : Result Verdict OutsideSize → WordReport Verdict
judged_report answer = report answer

-- a verdict as a number
abbrev pub verdict_number : Verdict → ℕ
verdict_number verdict.Clean = 0
verdict_number verdict.Exception = 1
verdict_number verdict.Error = 2

-- "a refused word entry answers the number alone"; what is accepted, the verdict
abbrev pub number_or : List Verdict → ℕ → ℕ
number_or [] refusal = refusal
number_or (v ∷ _) refusal = verdict_number v

abbrev pub number_told : WordReport Verdict → ℕ
number_told report = number_or report.values report.number
