use mathlib.Core.Path.{◌≡◌}
use lib.ListN.{length}
use Prim.Native.Nat.{◌-◌, ◌≤◌, ◌<◌}
use Rattle.sound_chains.specs.Post.{RingsTo}
use Rattle.sound_chains.proofs.walk_all.Given as goal

abbrev pub invariant-loop-s : goal.invariant-loop-s
invariant-loop-s l = (64 < l.s) × (l.s ≤ 322) × RingsTo l.links l.seen l.s × (length l.seen ≡ 65)

abbrev pub decreases-loop-s : goal.decreases-loop-s
decreases-loop-s l = 322 - l.s
