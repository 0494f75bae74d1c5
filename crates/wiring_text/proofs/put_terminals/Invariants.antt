use Rattle.compool.specs.View.{rows_of}
use Rattle.wiring_text.specs.Sheet.{terminal_text}
use Rattle.wiring_lines.specs.Laws.Each.{Telling}
use Rattle.wiring_text.proofs.put_terminals.Given as goal

abbrev pub invariant-loop-a : goal.invariant-loop-a
invariant-loop-a l = Telling (terminal_text l.table l.rig.rows l.rig.master (rows_of l.rig.row)) 736 32 l.initial.out l.at l.out l.p l.a
