use Rattle.rig_write.specs.Laws.Kept.{InKept}
use Rattle.rig_write.specs.File.{is_task, task_line}
use Rattle.rig_write.proofs.put_tasks.Given as goal

abbrev pub invariant-loop-t : goal.invariant-loop-t
invariant-loop-t l = InKept l.initial.buf l.buf l.at 65 (is_task l.g) (task_line l.g) l.p l.t
