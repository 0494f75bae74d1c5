use mathlib.Core.Path.{◌≡◌}
use Rattle.laws.specs.Iter.{iter}
use Rattle.rules.specs.Family.{clear_one}
use Rattle.exec_family.proofs.uninvoke.Given as goal

abbrev pub invariant-loop-i : goal.invariant-loop-i
invariant-loop-i l = l.state ≡ iter l.i (clear_one l.marks) l.initial.state
