use Rattle.exec_family.specs.Laws.Leaving.{Turned}
use Rattle.exec_family.proofs.desert.Given as goal

abbrev pub invariant-loop-i : goal.invariant-loop-i
invariant-loop-i l = Turned l.initial.l l.marks l.l l.i
