use Prim.Native.Nat.{◌+◌, ◌-◌, ◌≤◌, ◌<◌}
use mathlib.Core.Path.{◌≡◌}
use lib.ListN.{length}
use Rattle.text.specs.Split.{split, part}
use Rattle.rig_culprits.specs.Culprits.{guilty, first_at, culprit_line}
use Rattle.rig_culprits.proofs.first_guilty.Given as goal

abbrev pub invariant-loop-at : goal.invariant-loop-at
invariant-loop-at l = (l.n ≡ length l.s) × (l.at ≤ length l.s) × (l.line ≤ l.at + 1) × (first_at (guilty l.rule l.s) l.line l.at (split 10 (part l.at (length l.s) l.s)) ≡ culprit_line l.rule l.s) × (0 < l.line)

abbrev pub decreases-loop-at : goal.decreases-loop-at
decreases-loop-at l = length l.s - l.at
