-- What the code makes of an outcome: the next record and the answer.
use Rattle.std.specs.Prelude.{ℕ, zero, suc, Result, Ok, Err}
use Rattle.refusals.specs.declared.Refusal.{Refusal}
use Rattle.refusals.specs.Numbers.{refusal_number}
use Rattle.exec_outcome.specs.Outcome.{Outcome}
use Rattle.exec.specs.Call.{with_state}
use Rattle.exec.specs.declared.Exec.{Exec}
use Rattle.exec_outcome.specs.declared.Report.{Report}
use Rattle.exec.specs.declared.Step.{Step}
use Rattle.exec.specs.declared.Answer.{Answer}
use Rattle.exec.specs.declared.Answer.TheVariants.{Accepted, Refused}

-- the answer of a number and of what is told: accepted where the number is 0
abbrev pub answer_from : ℕ → Report → Answer
answer_from zero p = Accepted p
answer_from (suc n) p = Refused (suc n)

abbrev pub report_from : Outcome → Report
report_from o = record { served = o.served; woken = o.woken; activated = o.activated; words = o.words; value = o.value }

abbrev pub step_from : Exec → Outcome → Step
step_from x o = record { exec = with_state x o.st; answer = answer_from o.refusal (report_from o) }

-- the answer of what is told, or of a refusal
abbrev pub answer_made : Result Report Refusal → Answer
answer_made (Ok p) = Accepted p
answer_made (Err r) = Refused (refusal_number r)
