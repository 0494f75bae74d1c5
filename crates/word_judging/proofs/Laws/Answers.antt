-- Two answers of judging with one report are one answer, and so are two that C is told by one number.
use Rattle.std.specs.Prelude.{◌≡◌, refl, ℕ, zero, suc, Result, Ok, Err}
use Rattle.std.proofs.Common.{sym, ap, ◌∙◌}
use Rattle.word_answers.specs.declared.OutsideSize.{OutsideSize}
use Rattle.word_answers.specs.Laws.Answers.{report_same}
use Rattle.word_judging.specs.declared.Verdict.{Verdict}
use Rattle.word_judging.specs.declared.Verdict.TheVariants as verdict
use Rattle.word_judging.specs.Answers.{judged_report, number_told}

pub judged_same : (a b : Result Verdict OutsideSize) → judged_report a ≡ judged_report b → a ≡ b
judged_same a b e = report_same a b e

-- the answer that a number tells
said_by : ℕ → Result Verdict OutsideSize
said_by zero = Ok verdict.Clean
said_by (suc zero) = Ok verdict.Exception
said_by (suc (suc zero)) = Ok verdict.Error
said_by (suc (suc (suc n))) = Err (record {})

said : (a : Result Verdict OutsideSize) → said_by (number_told (judged_report a)) ≡ a
unfolding said_by
said (Ok verdict.Clean) = refl
said (Ok verdict.Exception) = refl
said (Ok verdict.Error) = refl
said (Err _) = refl

pub told_same : (a b : Result Verdict OutsideSize) → number_told (judged_report a) ≡ number_told (judged_report b) → a ≡ b
told_same a b e = sym (said a) ∙ (ap said_by e ∙ said b)
