use Rattle.exec.specs.Laws.Meeting.{told_meets}
use Rattle.exec.proofs.Exec.terminate.Goals as goal

pub returns : goal.returns
returns c = rw c.answer_of.ensures (told_meets c.args.self _ c.terminate-told.new.st c.terminate-told.result _ c.terminate-told.ensures)
