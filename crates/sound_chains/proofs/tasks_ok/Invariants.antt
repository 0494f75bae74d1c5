use Prim.Native.Nat.{◌≤◌}
use Rattle.laws.specs.All.{Passed}
use Rattle.chains.specs.Held.{at}
use Rattle.chains.specs.Laws.Check.{taskb}
use Rattle.sound_chains.proofs.tasks_ok.Given as goal

abbrev pub invariant-loop-t : goal.invariant-loop-t
invariant-loop-t l = Passed l.faults l.t (taskb (at l.links.next) (at l.links.prev) (at l.links.on) (at l.seen)) × (l.t ≤ 65)
