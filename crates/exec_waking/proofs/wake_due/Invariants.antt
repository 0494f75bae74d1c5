use lib.ListN.{length}
use Rattle.chains.specs.Ops.{walk}
use Rattle.chains.specs.Held.{at}
use Rattle.exec_state.specs.Set.{put_links}
use Rattle.exec_waking.specs.Laws.Due.{Waking}
use Rattle.exec_waking.proofs.wake_due.Given as goal

abbrev pub invariant-loop-v : goal.invariant-loop-v
invariant-loop-v l = Waking l.initial.st (put_links l.st l.initial.st.links) l.st.links l.v

abbrev pub decreases-loop-v : goal.decreases-loop-v
decreases-loop-v l = length (walk (at l.st.links.next) 64 64 65)
