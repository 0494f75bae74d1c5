use mathlib.Core.Path.{◌≡◌}
use Prim.Native.Nat.{◌≤◌}
use Rattle.laws.specs.Iter.{iter}
use Rattle.rig_tables.specs.Tests.{at}
use Rattle.rules.specs.Running.{best_one}
use Rattle.exec_running.proofs.best.Given as goal

abbrev pub invariant-loop-i : goal.invariant-loop-i
invariant-loop-i l = (l.b ≡ iter l.i (best_one (at l.rig.privileged) (at l.rig.priority) l.state) 0) × (l.b ≤ l.i)
