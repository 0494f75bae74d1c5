-- A STEP FROM ITS TWO PARTS: where the record is lent, what a call hands back stands in two places, the record behind the reference
-- and the answer. Together they are the step that the call by value returns.
use Rattle.exec.specs.declared.Exec.{Exec}
use Rattle.exec.specs.declared.Step.{Step}
use Rattle.exec.specs.declared.Answer.{Answer}

abbrev pub step_of : Exec → Answer → Step
step_of after said = record { exec = after; answer = said }
