use mathlib.Core.Path.{◌≡◌}
use mathlib.Core.Bool.{false}
use Rattle.laws.specs.Any.{any}
use Rattle.rig_tables.specs.Tests.{at}
use Rattle.rules.specs.Conditions.{names_one}
use Rattle.exec_conditions.proofs.names.Given as goal

abbrev pub invariant-loop-k : goal.invariant-loop-k
invariant-loop-k l = any l.k (names_one (at l.rig.line_task) (at l.rig.line_flag) l.t l.f) ≡ false
