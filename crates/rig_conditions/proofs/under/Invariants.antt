use Prim.Native.Nat.{◌≤◌}
use Rattle.laws.specs.All.{Passed}
use Rattle.rig_conditions.specs.Passes.{under_one}
use Rattle.rig_conditions.proofs.under.Given as goal

abbrev pub invariant-loop-i : goal.invariant-loop-i
invariant-loop-i l = Passed l.bad l.i (under_one l.a l.b) × (l.i ≤ 1040)
