use mathlib.Core.Path.{◌≡◌, sym, ◌∙◌}
use mathlib.Core.List.{[]}
use native.Mathlib.Omega.{arith}
use Rattle.laws.specs.Laws.Iter.{iter_zero, iter_step}
use Rattle.chains.specs.Held.{at}
use Rattle.rules.specs.Calls.{cycle_queue, queue_one}
use Rattle.exec_queue.specs.View.{entries_of}
use Rattle.exec_queue.proofs.Queue.of_cycle.Goals as goal

pub loop-f-init : goal.loop-f-init
loop-f-init c = (c.empty-q.ensures.0 ∙ sym (iter_zero _ _), omega (arith, c.empty-q.ensures.1))

pub loop-f-preserved : goal.loop-f-preserved
loop-f-preserved c =
    let l = c.loop-f in
    let m = c.push.ensures in
    (m.is ∙ iter_step l.f-index (queue_one (at c.args.cycle.now.flags)) [] (entries_of l.q) l.invariant.0, omega (arith, m.more, l.invariant.1))

pub returns : goal.returns
unfolding cycle_queue
returns c =
    let e : c.loop-f.f-index ≡ 15 = omega arith in
    rw e at c.loop-f.invariant.0
