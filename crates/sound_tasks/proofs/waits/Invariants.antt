use Prim.Native.Nat.{◌≤◌}
use Rattle.laws.specs.All.{Passed}
use Rattle.sound_tables.specs.Tests.{wait_one}
use Rattle.sound_tasks.proofs.waits.Given as goal

abbrev pub invariant-loop-t : goal.invariant-loop-t
invariant-loop-t l = Passed l.faults l.t (wait_one l.states l.on) × (l.t ≤ 65)
