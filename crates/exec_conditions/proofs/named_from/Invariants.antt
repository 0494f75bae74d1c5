use mathlib.Core.Path.{◌≡◌}
use lib.Dec.{eqb}
use Rattle.laws.specs.Any.{any}
use Rattle.exec_conditions.specs.Lines.{past}
use Rattle.exec_conditions.proofs.named_from.Given as goal

abbrev pub invariant-loop-i : goal.invariant-loop-i
invariant-loop-i s = eqb s.found 1 ≡ any s.i (λ l. eqb (past s.k s.line_flag l) s.f)
