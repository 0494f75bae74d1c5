use Rattle.std.proofs.Common.{rules, ◌≡◌, ◌∙◌, length}
use borrow.Author.Tests.{tests}
use Rattle.std.specs.List.{list_all}
use Rattle.std.proofs.lemmas.Iterator.{YieldsList-from_slice}
use Rattle.std.proofs.lemmas.Iterator.Search.{all_from_yields_List}
use Rattle.rig.specs.declared.Cycle.{Cycle}
use Rattle.rig_tables.specs.Tests.{cycle_rises}
use Rattle.rig_cycles.specs.Laws.Marks.{cycles_rise_law}
use Rattle.rig_cycles.proofs.cycles_rise.Goals as goal

pub returns : goal.returns
returns c =
    let cycles = c.args.cycles.now in
    let long : length cycles ≡ 64 = search rules in
    let each : c.all.result ≡ list_all (λ (y : Cycle). cycle_rises y.flags) cycles =
    all_from_yields_List (λ (y : Cycle). cycle_rises y.flags) _ _ _ c.all.ensures.ran (YieldsList-from_slice cycles cc) (λ x b q k. search (rules, tests)) in
    each ∙ cycles_rise_law cycles long
