-- `chains::fresh` meets its contract: the anchors below i are linked to themselves.
use Prim.Native.Nat.{◌<◌}
use Rattle.chains.specs.Held.{Selves}
use Rattle.chains.proofs.fresh.Given as goal

abbrev pub invariant-loop-i : goal.invariant-loop-i
invariant-loop-i l = (64 < l.i) × Selves l.next l.i × Selves l.prev l.i
