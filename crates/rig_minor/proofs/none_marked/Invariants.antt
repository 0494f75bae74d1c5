use lib.Dec.{eqb}
use Rattle.laws.specs.All.{Passed}
use Rattle.rig_tables.specs.Tests.{at}
use Rattle.rig_minor.proofs.none_marked.Given as goal

abbrev pub invariant-loop-f : goal.invariant-loop-f
invariant-loop-f l = Passed l.found l.f-index (λ i. eqb (at l.flags (at l.some i)) 0)
