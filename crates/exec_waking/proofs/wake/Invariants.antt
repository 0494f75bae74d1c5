use lib.ListN.{length}
use Rattle.chains.specs.Ops.{walk}
use Rattle.chains.specs.Held.{at}
use Rattle.exec_waking.specs.Laws.Waking.{Waking}
use Rattle.exec_waking.proofs.wake.Given as goal

abbrev pub invariant-loop-v : goal.invariant-loop-v
invariant-loop-v l = Waking l.initial.links l.initial.state l.s l.state l.links l.v l.woken

abbrev pub decreases-loop-v : goal.decreases-loop-v
decreases-loop-v l = length (walk (at l.links.next) 64 64 l.s)
