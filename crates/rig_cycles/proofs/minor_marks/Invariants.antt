use mathlib.Core.Path.{◌≡◌}
use lib.ListN.{replicate}
use Rattle.laws.specs.Iter.{iter}
use Rattle.rig_cycles.specs.Laws.Cycles.{flags_only}
use Rattle.rig_cycles.specs.Tests.{mark_cycle}
use Rattle.rig_cycles.proofs.minor_marks.Given as goal

abbrev pub invariant-loop-c : goal.invariant-loop-c
invariant-loop-c l = (flags_only l.table ≡ flags_only (iter l.c-index (mark_cycle l.cycles) (replicate 129 0)))
