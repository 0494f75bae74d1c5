use mathlib.Core.Path.{◌≡◌}
use Rattle.laws.specs.Iter.{iter}
use Rattle.rig_tables.specs.Tests.{at}
use Rattle.rules.specs.Conditions.{relax_one}
use Rattle.exec_conditions.proofs.relax.Given as goal

abbrev pub invariant-loop-p : goal.invariant-loop-p
invariant-loop-p l = l.cond ≡ iter l.p (relax_one (at l.rig.present) (at l.rig.latched) (at l.rig.desired) l.t) l.initial.cond
