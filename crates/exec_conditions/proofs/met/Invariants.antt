use mathlib.Core.Path.{◌≡◌}
use mathlib.Core.Bool.{true}
use Rattle.laws.specs.All.{all}
use Rattle.rig_tables.specs.Tests.{at}
use Rattle.rules.specs.Conditions.{met_one}
use Rattle.exec_conditions.proofs.met.Given as goal

abbrev pub invariant-loop-p : goal.invariant-loop-p
invariant-loop-p l = all l.p (met_one (at l.rig.present) (at l.rig.desired) l.t l.cond) ≡ true
