use Prim.Native.Nat.{◌≤◌}
use Rattle.rules.specs.Frame.{due_in}
use Rattle.compool.specs.View.{row_of}
use Rattle.wiring_counts.specs.Cycles.{InCycles}
use Rattle.wiring_counts.proofs.row_cycles.Given as goal

abbrev pub invariant-loop-c : goal.invariant-loop-c
invariant-loop-c l = InCycles (due_in (row_of l.row)) l.c l.cycles × (l.c ≤ 64)
