use Prim.Native.Nat.{◌-◌, ◌≤◌}
use mathlib.Core.Path.{◌≡◌}
use lib.ListN.{length}
use Rattle.text.specs.Split.{split, part}
use Rattle.rig_shapes.specs.Shape.{piece_reason, reason_of}
use Rattle.rig_shapes.proofs.reasons.why.Given as goal

abbrev pub invariant-loop-at : goal.invariant-loop-at
invariant-loop-at l = (l.n ≡ length l.s) × (l.at ≤ length l.s) × (piece_reason l.left (split 10 (part l.at (length l.s) l.s)) ≡ reason_of l.s l.number)

abbrev pub decreases-loop-at : goal.decreases-loop-at
decreases-loop-at l = length l.s - l.at
