use mathlib.Core.Path.{◌≡◌}
use mathlib.Core.Bool.{true}
use Rattle.laws.specs.All.{all}
use Rattle.rig_cycles.specs.Tests.{cycle_small_one}
use Rattle.rig_cycles.proofs.cycles_small.Given as goal

abbrev pub invariant-loop-c : goal.invariant-loop-c
invariant-loop-c l = (all l.c-index (cycle_small_one l.top l.cycles) ≡ true)
