use Prim.Native.Nat.{◌+◌, ◌-◌, ◌≤◌}
use mathlib.Core.Path.{◌≡◌}
use lib.ListN.{length}
use Rattle.rig_shapes.specs.Shape.{fields_of}
use Rattle.rig_shapes.specs.Laws.{fields_from}
use Rattle.rig_shapes.proofs.fields.many.Given as goal

abbrev pub invariant-loop-p : goal.invariant-loop-p
invariant-loop-p l = (l.n ≡ length l.line) × (l.p ≤ length l.line) × (l.f ≤ l.p) × (l.f + length (fields_from l.line l.p) ≡ length (fields_of l.line))

abbrev pub decreases-loop-p : goal.decreases-loop-p
decreases-loop-p l = length l.line - l.p
