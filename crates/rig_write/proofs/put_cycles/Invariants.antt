use Rattle.rig_write.specs.Laws.Kept.{InKept}
use Rattle.rig_write.specs.File.{is_flag, cycle_line}
use Rattle.rig_write.proofs.put_cycles.Given as goal

abbrev pub invariant-loop-i : goal.invariant-loop-i
invariant-loop-i l = InKept l.initial.buf l.buf l.at 960 (is_flag l.table) (cycle_line l.table) l.p l.i
