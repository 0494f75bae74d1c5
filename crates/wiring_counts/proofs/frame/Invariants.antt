use Prim.Native.Nat.{◌≤◌}
use Rattle.wiring_counts.specs.Laws.{Summed}
use Rattle.wiring_counts.proofs.frame.Given as goal

abbrev pub invariant-loop-n : goal.invariant-loop-n
invariant-loop-n l = Summed l.cycles l.sum l.n-index × (l.n-index ≤ 64)
