use mathlib.Core.Path.{◌≡◌}
use Rattle.laws.specs.Iter.{iter}
use Rattle.laws.specs.Stores.{store_one}
use Rattle.rig_tables.specs.Places.{at}
use Rattle.start_tests.specs.Tables.{open_one}
use Rattle.start_tables.specs.Links.{tasks_of, places_of}
use Rattle.start_tables.proofs.open_links.Given as goal

abbrev pub invariant-loop-link : goal.invariant-loop-link
invariant-loop-link l = l.table ≡ iter l.link-index (store_one (open_one (tasks_of l.links) l.can) (at (places_of l.links)) (λ i. 1)) l.initial.table
