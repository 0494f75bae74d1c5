use mathlib.Core.Path.{◌≡◌}
use Prim.Native.Nat.{◌≤◌}
use lib.ListN.{replicate}
use Rattle.laws.specs.Iter.{iter}
use Rattle.laws.specs.Owners.{mark_one}
use Rattle.rig_tables.specs.Tests.{place_of}
use Rattle.rig_conditions.proofs.place_marks.Given as goal

abbrev pub invariant-loop-k : goal.invariant-loop-k
invariant-loop-k l = (l.table ≡ iter l.k (mark_one (place_of l.rig.line_task l.rig.line_pos)) (replicate 1040 0)) × (l.k ≤ l.rig.lines)
