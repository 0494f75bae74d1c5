use Rattle.rig_write.specs.Laws.Kept.{InKept}
use Rattle.rig_write.specs.File.{is_row, row_line}
use Rattle.rig_write.proofs.put_rows.Given as goal

abbrev pub invariant-loop-k : goal.invariant-loop-k
invariant-loop-k l = InKept l.initial.buf l.buf l.at 64 (is_row l.g) (row_line l.g) l.p l.k
