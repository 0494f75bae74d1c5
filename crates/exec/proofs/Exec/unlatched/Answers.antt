use Rattle.exec.specs.Laws.Meeting.{told_meets}
use Rattle.exec.proofs.Exec.unlatched.Goals as goal

pub returns : goal.returns
returns c = rw c.answer_of.ensures (told_meets c.args.self _ c.wait_on-told.new.st c.wait_on-told.result _ c.wait_on-told.ensures)
