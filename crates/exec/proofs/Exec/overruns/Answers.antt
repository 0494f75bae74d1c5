use Rattle.exec.specs.Laws.Meeting.{told_meets}
use Rattle.exec.proofs.Exec.overruns.Goals as goal

pub returns : goal.returns
returns c = rw c.answer_of.ensures (told_meets c.args.self _ c.args.self.st c.overruns-told.result _ c.overruns-told.ensures)
