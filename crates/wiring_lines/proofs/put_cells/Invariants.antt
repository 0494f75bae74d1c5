use Prim.Native.Nat.{ℕ}
use lib.ListN.{get_or}
use Rattle.wiring_lines.specs.Line.{cell}
use Rattle.wiring_lines.specs.Laws.Each.{Telling}
use Rattle.wiring_lines.proofs.put_cells.Given as goal

abbrev pub invariant-loop-n : goal.invariant-loop-n
invariant-loop-n l = Telling (λ (k : ℕ). cell (get_or l.cycles k 0)) 11 64 l.initial.out l.at l.out l.p l.n-index
