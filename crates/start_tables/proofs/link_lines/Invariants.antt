use mathlib.Core.Path.{◌≡◌}
use lib.ListN.{length}
use Rattle.laws.specs.Iter.{iter}
use Rattle.laws.specs.Stores.{store_one}
use Rattle.start_tests.specs.Tables.{helps_one, place_at, link_one, link_task, Kept}
use Rattle.start_tables.specs.Links.{tasks_of, places_of}
use Rattle.start_tables.proofs.link_lines.Given as goal

abbrev pub invariant-loop-k : goal.invariant-loop-k
invariant-loop-k l = (l.table ≡ iter l.k (store_one (helps_one l.rig.line_task l.rig.line_pos l.rig.line_flag l.rig.desired l.owner l.state) (place_at l.rig.line_task l.rig.line_pos) (λ i. 1)) l.initial.table)
    × Kept l.k (link_one l.rig.line_task l.rig.line_pos l.rig.line_flag l.rig.desired l.owner l.state) (link_task l.rig.line_flag l.owner) (place_at l.rig.line_task l.rig.line_pos) (length l.links.items) (tasks_of l.links.items) (places_of l.links.items)
