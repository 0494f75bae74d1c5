use mathlib.Core.Path.{◌≡◌}
use mathlib.Core.List.{[]}
use Prim.Native.Nat.{◌≤◌}
use Rattle.laws.specs.Iter.{iter}
use Rattle.chains.specs.Held.{at}
use Rattle.rules.specs.Calls.{queue_one}
use Rattle.exec_queue.specs.View.{entries_of}
use Rattle.exec_queue.proofs.Queue.of_cycle.Given as goal

abbrev pub invariant-loop-f : goal.invariant-loop-f
invariant-loop-f l = (entries_of l.q ≡ iter l.f-index (queue_one (at l.cycle.flags)) []) × (l.q.n ≤ l.f-index)
