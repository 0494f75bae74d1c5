use Rattle.rig_write.specs.Laws.Kept.{InKept}
use Rattle.rig_write.specs.File.{is_line, flag_line}
use Rattle.rig_write.proofs.put_lines.Given as goal

abbrev pub invariant-loop-a : goal.invariant-loop-a
invariant-loop-a l = InKept l.initial.buf l.buf l.at 1024 (is_line l.g) (flag_line l.g) l.p l.a
