use mathlib.Core.Path.{◌≡◌}
use Prim.Native.Nat.{◌≤◌}
use Rattle.rig_tables.specs.Tests.{at, climb}
use Rattle.rig_controllers.proofs.climbed.Given as goal

abbrev pub invariant-loop-y : goal.invariant-loop-y
invariant-loop-y l = (climb (at l.controller) l.c 64 l.y ≡ climb (at l.controller) l.c 64 l.x) × (l.y ≤ l.x)

abbrev pub decreases-loop-y : goal.decreases-loop-y
decreases-loop-y l = l.y
