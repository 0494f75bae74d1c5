use mathlib.Core.Path.{◌≡◌}
use mathlib.Core.Bool.{true}
use Prim.Native.Nat.{◌≤◌, ◌+◌}
use Rattle.laws.specs.All.{all}
use Rattle.rig_tables.specs.Tests.{controller_one}
use Rattle.rig_controllers.proofs.controllers.Given as goal

abbrev pub invariant-loop-t : goal.invariant-loop-t
invariant-loop-t l = (all l.t (controller_one l.rig.controller) ≡ true) × ((2 ≤ l.t) × (l.t ≤ l.rig.tasks + 1))
