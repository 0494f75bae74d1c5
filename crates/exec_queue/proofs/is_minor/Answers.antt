use Rattle.std.proofs.Common.{rules, tests, sym, ◌∙◌}
use Rattle.std.proofs.lemmas.Iterator.{YieldsList-from_slice}
use Rattle.std.proofs.lemmas.Iterator.Search.{any_from_yields_List}
use Rattle.chains.specs.Held.{at}
use Rattle.rig.specs.declared.Cycle.{Cycle}
use Rattle.rules.specs.Rig.{in_cycle}
use Rattle.exec_queue.specs.Laws.Found.{minor_list}
use Rattle.exec_queue.proofs.is_minor.Goals as goal

pub returns : goal.returns
returns c =
    any_from_yields_List (λ (y : Cycle). in_cycle (at y.flags) c.args.f) _ _ _ c.any.ensures.ran (YieldsList-from_slice c.args.cycles.now cc) (λ x b q k. search (rules, tests))
    ∙ sym (minor_list c.args.cycles.now c.args.f (search rules))
