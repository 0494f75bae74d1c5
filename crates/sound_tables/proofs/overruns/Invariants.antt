use Prim.Native.Nat.{◌≤◌}
use Rattle.sound_tables.specs.Passes.{Joined}
use Rattle.sound_tables.proofs.overruns.Given as goal

abbrev pub invariant-loop-i : goal.invariant-loop-i
invariant-loop-i l = Joined l.numbers l.initial.i l.faults l.i × ((l.initial.i ≤ l.i) × (l.i ≤ 65))
