use mathlib.Core.List.{[]}
use mathlib.Core.Bool.{not}
use lib.Dec.{eqb, ltb}
use native.Mathlib.Omega.{arith}
use Rattle.rules.specs.Calls as R
use Rattle.exec_refusals.specs.Rows.{task_rows, run_rows}
use Rattle.exec_state.specs.Work.{Work}
use Rattle.exec_outcome.specs.Outcome.{accepted_with}
use Rattle.exec_outcome.specs.Laws.Meeting.{Passed, judged_passed, refusal_tells, silent_lent}
use Rattle.exec_outcome.specs.Laws.Tables.{finish_table}
use Rattle.exec_outcome.specs.Laws.Settling.{settles, settled_tells}
use Rattle.exec_tasks.specs.Laws.Tasks.{schedule_by, cancel_by, terminate_by, cancel_ok, task_there, runner_there, scheduled_work, scheduled_links, cancelled_work, terminated_work, finished_work, finished_links}
use Rattle.exec_tasks.proofs.schedule.Goals as goal

pub returns-in_err-of_task : goal.returns-in_err-of_task
returns-in_err-of_task c =
    let a = c.args in
    let g = a.rig.now in
    let cy = a.cycles.now in
    let s = a.st.now in
    refusal_tells g cy s c.sound-sound.result c.sound-sound.ensures _ (R.schedule a.task) (schedule_by g cy s a.task c.look-invoked.result c.look-invoked.ensures) c.from_residual.result _ c.from_residual.ensures.1 c.in_err-of_task.ensures [] (silent_lent (R.schedule a.task) tt)

pub scheduled-queue-requires : goal.scheduled-queue-requires
scheduled-queue-requires c =
    let a = c.args in
    let g = a.rig.now in
    let cy = a.cycles.now in
    let s = a.st.now in
    let h : Passed g cy s (task_rows s.running g.tasks g.controller a.task (not (eqb c.look-invoked.result 0))) (R.schedule a.task) = judged_passed g cy s c.sound-sound.result c.sound-sound.ensures _ (R.schedule a.task) (schedule_by g cy s a.task c.look-invoked.result c.look-invoked.ensures) c.in_ok-of_task.ensures in
    (task_there g cy s h.sound a.task _ h.quiet).1

pub settle-requires : goal.settle-requires
settle-requires c =
    let a = c.args in
    let g = a.rig.now in
    let cy = a.cycles.now in
    let s = a.st.now in
    let h : Passed g cy s (task_rows s.running g.tasks g.controller a.task (not (eqb c.look-invoked.result 0))) (R.schedule a.task) = judged_passed g cy s c.sound-sound.result c.sound-sound.ensures _ (R.schedule a.task) (schedule_by g cy s a.task c.look-invoked.result c.look-invoked.ensures) c.in_ok-of_task.ensures in
    let w : Work = record { st = c.scheduled-queue.new.st; queue = c.scheduled-queue.result } in
    let m = c.scheduled-queue.ensures in
    settles g cy s h.sound (R.schedule a.task) tt h.none w (scheduled_work g cy s h.sound w a.task m) (scheduled_links g cy s h.sound w a.task m)

pub returns : goal.returns
unfolding R.ended
returns c =
    let a = c.args in
    let g = a.rig.now in
    let cy = a.cycles.now in
    let s = a.st.now in
    let h : Passed g cy s (task_rows s.running g.tasks g.controller a.task (not (eqb c.look-invoked.result 0))) (R.schedule a.task) = judged_passed g cy s c.sound-sound.result c.sound-sound.ensures _ (R.schedule a.task) (schedule_by g cy s a.task c.look-invoked.result c.look-invoked.ensures) c.in_ok-of_task.ensures in
    let w : Work = record { st = c.scheduled-queue.new.st; queue = c.scheduled-queue.result } in
    settled_tells g cy s h.sound (R.schedule a.task) tt h.none w (scheduled_work g cy s h.sound w a.task c.scheduled-queue.ensures)
    (accepted_with c.settle.new.st c.settle.result) c.settle.ensures tt
