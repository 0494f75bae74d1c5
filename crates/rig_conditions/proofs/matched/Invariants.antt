use Prim.Native.Nat.{◌+◌, ◌*◌, ◌≤◌}
use Rattle.laws.specs.All.{Passed}
use Rattle.rig_conditions.specs.Tables.{matched_one}
use Rattle.rig_conditions.proofs.matched.Given as goal

abbrev pub invariant-loop-p : goal.invariant-loop-p
invariant-loop-p l = Passed l.bad l.p (matched_one l.rig.present l.table) × (l.p ≤ 16 * (l.rig.tasks + 1))
