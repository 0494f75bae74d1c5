use Rattle.std.proofs.Common.{rules, tests, refl, ◌∙◌}
use native.Mathlib.Omega.{arith}
use Rattle.std.proofs.lemmas.Iterator.{YieldsList-from_range}
use Rattle.std.proofs.lemmas.Iterator.Search.{all_from_yields_List}
use Rattle.rig_tables.specs.Tests.{named_one, named_b}
use Rattle.rig_tables.specs.Laws.Passes.{each_number}
use Rattle.rig_conditions.proofs.names_present.Goals as goal

pub returns : goal.returns
unfolding named_b
returns c =
    let g = c.args.rig.now in
    all_from_yields_List (named_one g.present g.line_task g.line_pos) _ _ _ c.all.ensures.ran (YieldsList-from_range 0 g.lines g.lines refl (omega arith)) (λ x b q k. search (rules, tests))
    ∙ each_number (named_one g.present g.line_task g.line_pos) g.lines
