use mathlib.Core.Path.{◌≡◌}
use Rattle.laws.specs.Iter.{iter}
use Rattle.laws.specs.Owners.{mark_one}
use Rattle.rig_tables.specs.Tests.{at}
use Rattle.rig_cycles.proofs.mark_cycle.Given as goal

abbrev pub invariant-loop-f : goal.invariant-loop-f
invariant-loop-f l = (l.table ≡ iter l.f-index (mark_one (at l.flags)) l.initial.table)
