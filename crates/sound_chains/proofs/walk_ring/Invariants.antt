use Rattle.sound_chains.specs.Laws.{RingAt}
use Rattle.sound_chains.proofs.walk_ring.Given as goal

abbrev pub invariant-loop-v : goal.invariant-loop-v
invariant-loop-v l = RingAt l.links l.s l.initial.seen l.seen l.left l.u l.v

abbrev pub decreases-loop-v : goal.decreases-loop-v
decreases-loop-v l = l.left
