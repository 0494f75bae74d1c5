use mathlib.Core.Path.{◌≡◌}
use mathlib.Core.Bool.{◌&&◌}
use lib.Dec.{eqb}
use lib.ListN.{replicate}
use Rattle.laws.specs.Iter.{iter}
use Rattle.laws.specs.Stores.{store_one}
use Rattle.rig_tables.specs.Places.{at}
use Rattle.start_tests.specs.Tables.{clear}
use Rattle.start_tables.proofs.able.Given as goal

abbrev pub invariant-loop-t : goal.invariant-loop-t
invariant-loop-t l = l.can ≡ iter l.t (store_one (λ i. eqb (at l.state i) 1 && clear l.table i) (λ i. i) (λ i. 1)) (replicate 65 0)
