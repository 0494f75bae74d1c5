use Prim.Native.Nat.{◌+◌, ◌≤◌}
use Rattle.laws.specs.All.{Passed}
use Rattle.chains.specs.Held.{at}
use Rattle.sound_chains.specs.Post.{aloneb}
use Rattle.sound_chains.proofs.alone_from.Given as goal

abbrev pub invariant-loop-i : goal.invariant-loop-i
invariant-loop-i l = Passed l.faults l.i (λ k. aloneb (at l.links.next) (at l.links.prev) (l.s + k)) × (l.i ≤ 16)
