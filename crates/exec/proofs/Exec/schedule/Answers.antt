use Rattle.exec.specs.Laws.Meeting.{told_meets}
use Rattle.exec.proofs.Exec.schedule.Goals as goal

pub returns : goal.returns
returns c = rw c.answer_of.ensures (told_meets c.args.self _ c.schedule-told.new.st c.schedule-told.result _ c.schedule-told.ensures)
