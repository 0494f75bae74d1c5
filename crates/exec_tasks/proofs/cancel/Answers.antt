use mathlib.Core.List.{[]}
use mathlib.Core.Bool.{not}
use lib.Dec.{eqb, ltb}
use native.Mathlib.Omega.{arith}
use Rattle.rules.specs.Calls as R
use Rattle.exec_refusals.specs.Rows.{task_rows, run_rows}
use Rattle.exec_state.specs.Work.{Work}
use Rattle.exec_outcome.specs.Outcome.{accepted_with}
use Rattle.exec_outcome.specs.Laws.Meeting.{Passed, judged_passed, refusal_tells, silent_lent}
use Rattle.exec_outcome.specs.Laws.Tables.{finish_table}
use Rattle.exec_outcome.specs.Laws.Settling.{settles, settled_tells}
use Rattle.exec_tasks.specs.Laws.Tasks.{schedule_by, cancel_by, terminate_by, cancel_ok, task_there, runner_there, scheduled_work, scheduled_links, cancelled_work, terminated_work, finished_work, finished_links}
use Rattle.exec_tasks.proofs.cancel.Goals as goal

pub returns-in_err-of_task : goal.returns-in_err-of_task
returns-in_err-of_task c =
    let a = c.args in
    let g = a.rig.now in
    let cy = a.cycles.now in
    let s = a.st.now in
    refusal_tells g cy s c.sound-sound.result c.sound-sound.ensures _ (R.cancel a.task) (cancel_by g cy s a.task c.look-uninvoked.result c.look-uninvoked.ensures) c.from_residual.result _ c.from_residual.ensures.1 c.in_err-of_task.ensures [] (silent_lent (R.cancel a.task) tt)

pub cancel-queue-requires : goal.cancel-queue-requires
cancel-queue-requires c =
    let a = c.args in
    let g = a.rig.now in
    let cy = a.cycles.now in
    let s = a.st.now in
    let h : Passed g cy s (task_rows s.running g.tasks g.controller a.task (eqb c.look-uninvoked.result 0)) (R.cancel a.task) = judged_passed g cy s c.sound-sound.result c.sound-sound.ensures _ (R.cancel a.task) (cancel_by g cy s a.task c.look-uninvoked.result c.look-uninvoked.ensures) c.in_ok-of_task.ensures in
    record { holds_chains = h.sound.links; cancel_ok = cancel_ok g cy h.sound.rig }

pub settle-requires : goal.settle-requires
settle-requires c =
    let a = c.args in
    let g = a.rig.now in
    let cy = a.cycles.now in
    let s = a.st.now in
    let h : Passed g cy s (task_rows s.running g.tasks g.controller a.task (eqb c.look-uninvoked.result 0)) (R.cancel a.task) = judged_passed g cy s c.sound-sound.result c.sound-sound.ensures _ (R.cancel a.task) (cancel_by g cy s a.task c.look-uninvoked.result c.look-uninvoked.ensures) c.in_ok-of_task.ensures in
    let w : Work = record { st = c.cancel-queue.new.self; queue = c.cancel-queue.result } in
    let m = c.cancel-queue.ensures in
    settles g cy s h.sound (R.cancel a.task) tt h.none w (cancelled_work g cy s h.sound w a.task m) m.sound

pub returns : goal.returns
unfolding R.ended
returns c =
    let a = c.args in
    let g = a.rig.now in
    let cy = a.cycles.now in
    let s = a.st.now in
    let h : Passed g cy s (task_rows s.running g.tasks g.controller a.task (eqb c.look-uninvoked.result 0)) (R.cancel a.task) = judged_passed g cy s c.sound-sound.result c.sound-sound.ensures _ (R.cancel a.task) (cancel_by g cy s a.task c.look-uninvoked.result c.look-uninvoked.ensures) c.in_ok-of_task.ensures in
    let w : Work = record { st = c.cancel-queue.new.self; queue = c.cancel-queue.result } in
    settled_tells g cy s h.sound (R.cancel a.task) tt h.none w (cancelled_work g cy s h.sound w a.task c.cancel-queue.ensures)
    (accepted_with c.settle.new.st c.settle.result) c.settle.ensures tt
