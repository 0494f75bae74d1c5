use Prim.Native.Nat.{ℕ, ◌+◌}
use Rattle.compool.specs.View.{rows_of}
use Rattle.wiring_text.specs.Sheet.{row_text}
use Rattle.wiring_lines.specs.Laws.Each.{Telling}
use Rattle.wiring_text.proofs.put_rows.Given as goal

abbrev pub invariant-loop-i : goal.invariant-loop-i
invariant-loop-i l = Telling (λ (k : ℕ). row_text l.table (k + 1) (rows_of l.rig.row k)) 736 l.rig.rows l.initial.out l.at l.out l.p l.i
