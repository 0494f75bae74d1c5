use mathlib.Core.Path.{refl, ap, ◌∙◌}
use Rattle.refusals.specs.Numbers.{refusal_number, some_number}
use Rattle.exec_outcome.specs.Outcome.{accepted_with, refused_by}
use Rattle.exec.specs.Laws.Made.{report_from}
use Rattle.exec.specs.Laws.Meeting.{answer_refused}
use Rattle.exec.specs.Laws.Starting.{refused_start, accepted_start}
use Rattle.exec.specs.declared.Answer.TheVariants.{Refused}
use Rattle.exec.proofs.start.Goals as goal

pub returns-in-Ok : goal.returns-in-Ok
returns-in-Ok c =
    let rows = c.cycles_of-exec in
    accepted_start c.args.rig c.args.cycles rows.result rows.ensures (accepted_with c.start.new.st c.in-Ok.report) c.in-Ok.ensures refl _ refl

pub returns-in-Err : goal.returns-in-Err
returns-in-Err c =
    let rows = c.cycles_of-exec in
    let n = refusal_number c.in-Err.refusal in
    let o = refused_by c.start.new.st n in
    let w = ap Refused c.number.ensures ∙ answer_refused n (report_from o) (some_number c.in-Err.refusal) in
    refused_start c.args.rig c.args.cycles rows.result rows.ensures o c.in-Err.ensures (some_number c.in-Err.refusal) _
    (λ i. record { exec = c.none.ensures i; answer = w i })
