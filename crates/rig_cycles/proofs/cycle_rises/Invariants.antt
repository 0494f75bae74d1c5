use Prim.Native.Nat.{◌≤◌}
use Rattle.laws.specs.All.{Passed}
use Rattle.rig_tables.specs.Tests.{flag_rises}
use Rattle.rig_cycles.proofs.cycle_rises.Given as goal

abbrev pub invariant-loop-i : goal.invariant-loop-i
invariant-loop-i l = Passed l.faults l.i (flag_rises l.flags) × (l.i ≤ 14)
