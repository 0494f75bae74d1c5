use Rattle.std.proofs.Common.{rules, tests, refl, ◌∙◌, ℕ, ◌+◌, ◌||◌, Bool}
use native.Mathlib.Omega.{arith}
use lib.Dec.{eqb}
use Rattle.std.proofs.lemmas.Iterator.{YieldsList-from_range}
use Rattle.std.proofs.lemmas.Iterator.Search.{all_from_yields_List}
use Rattle.laws.specs.Laws.All.{all_same}
use Rattle.rig_tables.specs.Tests.{at, minor_condition_one, marked}
use Rattle.rig_tables.specs.Laws.Passes.{each_from}
use Rattle.rig_minor.specs.Neighbours.{minor_ok_b}
use Rattle.rig_minor.specs.Laws.{minor_either}
use Rattle.rig_minor.proofs.minor_from.Goals as goal

pub returns : goal.returns
returns c =
    let g = c.args.rig.now in
    let k = c.args.k in
    let m = c.args.m in
    let flags = c.args.flags.now in
    let test : ℕ → Bool = λ l. eqb (at flags (at g.line_flag l)) 0 || minor_ok_b g.lines g.latched g.desired g.line_task g.line_pos l in
    all_from_yields_List test _ _ _ c.all.ensures.ran (YieldsList-from_range k (k + m) m refl (omega arith)) (λ x b q j. search (rules, tests))
    ∙ each_from test k m
    ∙ all_same m (λ i. test (k + i)) (λ i. minor_condition_one g.lines g.latched g.desired g.line_task g.line_pos g.line_flag (marked flags) (k + i)) (λ i h. minor_either g.lines g.line_task g.line_pos c.requires.1.0 (k + i) (omega (arith, h, c.requires.1.1)) g.latched g.desired g.line_flag flags)
