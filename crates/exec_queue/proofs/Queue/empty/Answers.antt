use Rattle.exec_queue.specs.Laws.Queued.{entries_none}
use mathlib.Core.Path.{refl}
use Rattle.exec_queue.proofs.Queue.empty.Goals as goal

pub returns : goal.returns
returns c = (entries_none _, refl)
