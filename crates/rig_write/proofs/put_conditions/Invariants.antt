use Rattle.rig_write.specs.Laws.Kept.{InKept}
use Rattle.rig_write.specs.File.{is_condition, condition_line}
use Rattle.rig_write.proofs.put_conditions.Given as goal

abbrev pub invariant-loop-c : goal.invariant-loop-c
invariant-loop-c l = InKept l.initial.buf l.buf l.at 1040 (is_condition l.g) (condition_line l.g) l.p l.c
