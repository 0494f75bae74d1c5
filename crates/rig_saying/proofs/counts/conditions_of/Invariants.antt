use Prim.Native.Nat.{◌≤◌}
use mathlib.Core.Path.{◌≡◌}
use Rattle.rig_saying.specs.Saying.{count_to, has_condition}
use Rattle.rig_saying.proofs.counts.conditions_of.Given as goal

abbrev pub invariant-loop-p : goal.invariant-loop-p
invariant-loop-p l = (l.p-index ≤ 1040) × (l.n ≤ l.p-index) × (l.n ≡ count_to l.p-index (has_condition l.g))
