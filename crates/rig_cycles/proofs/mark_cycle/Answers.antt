use borrow.Author.Rules.{rules}
use mathlib.Core.Path.{◌≡◌, sym, ◌∙◌, ap}
use native.Mathlib.Omega.{arith}
use lib.ListN.{length}
use Rattle.laws.specs.Laws.Iter.{iter_zero, iter_step}
use Rattle.laws.specs.Owners.{mark_one, marks}
use Rattle.rig_tables.specs.Tests.{at}
use Rattle.rig_cycles.specs.Laws.Cycles.{flags_only, marks_up_to}
use Rattle.rig_cycles.proofs.mark_cycle.Goals as goal

pub loop-f-init : goal.loop-f-init
loop-f-init c = sym (iter_zero _ _)

pub bounds-table-f : goal.bounds-table-f
bounds-table-f c = omega (arith, c.requires.1 c.loop-f.f-index c.loop-f-test.true)

pub loop-f-preserved : goal.loop-f-preserved
loop-f-preserved c =
    let d = c in
    let a = d.args in
    iter_step d.loop-f.f-index (mark_one (at a.flags.now)) a.table.now d.loop-f.table d.loop-f.invariant

pub returns-after-loop-f : goal.returns-after-loop-f
unfolding marks
returns-after-loop-f c =
    let long : length c.args.flags.now ≡ 15 = search rules in
    let e : c.loop-f.f-index ≡ 15 = omega (arith, long) in
    ap flags_only (rw e at c.loop-f.invariant)

pub returns-then-f-eq0 : goal.returns-then-f-eq0
returns-then-f-eq0 c =
    let d = c in
    let a = d.args in
    ap flags_only d.loop-f.invariant ∙ marks_up_to a.flags.now d.requires.0 d.loop-f.f-index c.if-f-eq0.true a.table.now c.loop-f-test.true
