use mathlib.Core.Path.{◌∙◌, ap}
use Rattle.chains.specs.Held.{at}
use Rattle.rig.specs.declared.Cycle.{Cycle}
use Rattle.rules.specs.Calls.{cycle_queue}
use Rattle.exec_waking.specs.Laws.Due.{ticked_is}
use Rattle.exec_waking.proofs.ticked.Goals as goal

pub returns : goal.returns
returns c =
    let a = c.args in
    ticked_is a.st.now a.cycles.now c.of_cycle-queue.result
    (c.of_cycle-queue.ensures ∙ ap (λ (y : Cycle). cycle_queue (at y.flags)) c.cycle_at.ensures) c.wake_due.new.st c.wake_due.ensures
