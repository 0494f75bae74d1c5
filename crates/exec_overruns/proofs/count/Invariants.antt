use Prim.Native.Nat.{◌-◌}
use Rattle.exec_overruns.specs.Laws.Counting.{Counting}
use Rattle.exec_overruns.proofs.count.Given as goal

abbrev pub invariant-loop-t : goal.invariant-loop-t
invariant-loop-t l = Counting l.named l.state l.initial.overruns l.overruns (l.t - 1)
