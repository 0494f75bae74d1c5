use Prim.Native.Nat.{◌≤◌}
use Rattle.sound_tables.specs.Passes.{Joined}
use Rattle.sound_tables.proofs.empty.Given as goal

abbrev pub invariant-loop-i : goal.invariant-loop-i
invariant-loop-i l = Joined l.table l.initial.i l.faults l.i × ((l.initial.i ≤ l.i) × (l.i ≤ 65))
