use mathlib.Core.Path.{◌≡◌}
use mathlib.Core.List.{[]}
use Prim.Native.Nat.{◌≤◌}
use Rattle.laws.specs.Iter.{iter}
use Rattle.chains.specs.Held.{at}
use Rattle.rules.specs.Family.{off_one}
use Rattle.exec_queue.specs.View.{entries_of}
use Rattle.exec_queue.proofs.Queue.of_offs.Given as goal

abbrev pub invariant-loop-i : goal.invariant-loop-i
invariant-loop-i l = (entries_of l.q ≡ iter l.i (off_one (at l.activation) l.marks l.state) []) × (l.q.n ≤ l.i)
