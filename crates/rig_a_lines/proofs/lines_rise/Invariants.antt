use Prim.Native.Nat.{◌≤◌, ◌-◌}
use Rattle.laws.specs.All.{Passed}
use Rattle.rig_tables.specs.Tests.{line_rises}
use Rattle.rig_a_lines.proofs.lines_rise.Given as goal

abbrev pub invariant-loop-k : goal.invariant-loop-k
invariant-loop-k l = Passed l.faults (l.k - 1) (line_rises l.rig.line_task l.rig.line_pos l.rig.line_flag) × ((1 ≤ l.k) × (l.k - 1 ≤ l.rig.lines - 1))
