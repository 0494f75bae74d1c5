use Prim.Native.Nat.{◌≤◌}
use Rattle.rules.specs.Frame.{commands_in}
use Rattle.compool.specs.View.{rows_of}
use Rattle.wiring_counts.specs.Cycles.{InCycles}
use Rattle.wiring_counts.proofs.terminal_cycles.Given as goal

abbrev pub invariant-loop-c : goal.invariant-loop-c
invariant-loop-c l = InCycles (commands_in l.rig.rows l.rig.master (rows_of l.rig.row) l.address) l.c l.cycles × (l.c ≤ 64)
