-- `chain_tests::in_order` meets its contract: what is left to test is at each turn the whole test's.
use lib.ListN.{length}
use Rattle.chains.specs.Ops.{walk}
use Rattle.chains.specs.Held.{at}
use Rattle.chain_tests.specs.Laws.Order.{Rising}
use Rattle.chain_tests.proofs.in_order.Given as goal

abbrev pub invariant-loop-v : goal.invariant-loop-v
invariant-loop-v l = Rising (at l.links.next) (at l.wake) l.lo l.s l.u l.v l.w

abbrev pub decreases-loop-v : goal.decreases-loop-v
decreases-loop-v l = length (walk (at l.links.next) 64 64 l.u)
