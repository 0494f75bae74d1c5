use Prim.Native.Nat.{◌-◌, ◌≤◌}
use mathlib.Core.Path.{◌≡◌}
use lib.ListN.{length}
use Rattle.rig_suspects.specs.Suspects.{key_of, lines_from, look_in}
use Rattle.rig_suspects.proofs.look.Given as goal

abbrev pub invariant-loop-at : goal.invariant-loop-at
invariant-loop-at l = (l.n ≡ length l.s) × (l.at ≤ length l.s) × (look_in (key_of l.key) l.m (lines_from l.s l.at) ≡ look_in (key_of l.key) l.m (lines_from l.s l.from))

abbrev pub decreases-loop-at : goal.decreases-loop-at
decreases-loop-at l = length l.s - l.at
