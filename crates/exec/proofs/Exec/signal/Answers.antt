use Rattle.exec.specs.Laws.Meeting.{told_meets}
use Rattle.exec.proofs.Exec.signal.Goals as goal

pub returns : goal.returns
returns c = rw c.answer_of.ensures (told_meets c.args.self _ c.signal-told.new.st c.signal-told.result _ c.signal-told.ensures)
