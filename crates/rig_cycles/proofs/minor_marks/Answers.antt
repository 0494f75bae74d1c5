use borrow.Author.Rules.{rules}
use mathlib.Core.Path.{◌≡◌, sym, ◌∙◌, ap}
use native.Mathlib.Omega.{arith}
use lib.ListN.{length, get_or, replicate}
use Rattle.laws.specs.Iter.{iter}
use Rattle.laws.specs.Laws.Iter.{iter_zero, iter_next}
use Rattle.rig_cycles.specs.Laws.Cycles.{flags_only, marks_flags}
use Rattle.rig.specs.Rules.{at, no_cycle}
use Rattle.rig_cycles.specs.Tests.{mark_cycle, minor_marks}
use Rattle.rig_cycles.specs.Laws.Marks.{cycles_rise_at}
use Rattle.rig_cycles.proofs.minor_marks.Goals as goal

pub loop-c-init : goal.loop-c-init
loop-c-init c = ap flags_only (sym (iter_zero _ _))

pub mark_cycle-requires : goal.mark_cycle-requires
mark_cycle-requires c =
    let s = c in
    let k = c.loop-c.c-index in
    let h = c.loop-c-test.true in
    (cycles_rise_at s.args.cycles.now s.requires.0 k h, s.requires.1 k h)

pub loop-c-preserved : goal.loop-c-preserved
loop-c-preserved c =
    let k = c.loop-c in
    let l = c.args.cycles.now in
    c.mark_cycle.ensures ∙ marks_flags 15 (at (get_or l k.c-index no_cycle).flags) k.table (iter k.c-index (mark_cycle l) (replicate 129 0)) k.invariant ∙ ap flags_only (sym (iter_next k.c-index (mark_cycle l) (replicate 129 0)))

pub returns : goal.returns
unfolding minor_marks
returns c =
    let long : length c.args.cycles.now ≡ 64 = search rules in
    let e : c.loop-c.c-index ≡ 64 = omega (arith, long) in
    rw e at c.loop-c.invariant
