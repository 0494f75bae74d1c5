use lib.ListN.{length}
use borrow.Author.Rules.{rules}
use mathlib.Core.Path.{◌≡◌, sym, ◌∙◌}
use borrow.Author.Tests.{not-true, not-false}
use native.Mathlib.Omega.{arith}
use Rattle.laws.specs.Laws.All.{all_zero, all_next, all_not}
use Rattle.rig_cycles.specs.Tests.{cycles_small_b}
use Rattle.rig_cycles.specs.Laws.Marks.{cycles_rise_at}
use Rattle.rig_cycles.proofs.cycles_small.Goals as goal

pub loop-c-init : goal.loop-c-init
loop-c-init c = all_zero _

pub cycle_small-requires : goal.cycle_small-requires
cycle_small-requires c = cycles_rise_at c.args.cycles.now c.requires c.loop-c.c-index c.loop-c-test.true

pub returns-then-not-cycle_small : goal.returns-then-not-cycle_small
unfolding cycles_small_b
returns-then-not-cycle_small c = sym (all_not _ _ c.loop-c.c-index c.loop-c-test.true (sym c.cycle_small.ensures ∙ not-true _ c.if-not-cycle_small.true-raw))

pub loop-c-preserved : goal.loop-c-preserved
loop-c-preserved c = all_next _ _ c.loop-c.invariant (sym c.cycle_small.ensures ∙ not-false _ c.if-not-cycle_small.false-raw)

pub returns : goal.returns
unfolding cycles_small_b
returns c =
    let long : length c.args.cycles.now ≡ 64 = search rules in
    let e : c.loop-c.c-index ≡ 64 = omega (arith, long) in
    sym (rw e at c.loop-c.invariant)
