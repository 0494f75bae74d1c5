use mathlib.Core.List.{[]}
use mathlib.Core.Bool.{not}
use lib.Dec.{eqb, ltb}
use native.Mathlib.Omega.{arith}
use Rattle.rules.specs.Calls as R
use Rattle.exec_refusals.specs.Rows.{task_rows, run_rows}
use Rattle.exec_state.specs.Work.{Work}
use Rattle.exec_outcome.specs.Outcome.{accepted_with}
use Rattle.exec_outcome.specs.Laws.Meeting.{Passed, judged_passed, refusal_tells, silent_lent}
use Rattle.exec_outcome.specs.Laws.Tables.{finish_table}
use Rattle.exec_outcome.specs.Laws.Settling.{settles, settled_tells}
use Rattle.exec_tasks.specs.Laws.Tasks.{schedule_by, cancel_by, terminate_by, cancel_ok, task_there, runner_there, scheduled_work, scheduled_links, cancelled_work, terminated_work, finished_work, finished_links}
use Rattle.exec_tasks.proofs.terminate.Goals as goal

pub returns-in_err-of_task : goal.returns-in_err-of_task
returns-in_err-of_task c =
    let a = c.args in
    let g = a.rig.now in
    let cy = a.cycles.now in
    let s = a.st.now in
    refusal_tells g cy s c.sound-sound.result c.sound-sound.ensures _ (R.terminate a.task) (terminate_by g cy s a.task c.look-idle.result c.look-idle.ensures) c.from_residual.result _ c.from_residual.ensures.1 c.in_err-of_task.ensures [] (silent_lent (R.terminate a.task) tt)

pub terminate-queue-requires : goal.terminate-queue-requires
terminate-queue-requires c =
    let a = c.args in
    let g = a.rig.now in
    let cy = a.cycles.now in
    let s = a.st.now in
    let h : Passed g cy s (task_rows s.running g.tasks g.controller a.task (ltb c.look-idle.result 2)) (R.terminate a.task) = judged_passed g cy s c.sound-sound.result c.sound-sound.ensures _ (R.terminate a.task) (terminate_by g cy s a.task c.look-idle.result c.look-idle.ensures) c.in_ok-of_task.ensures in
    record { holds_chains = h.sound.links; t_nonzero = task_there g cy s h.sound a.task _ h.quiet }

pub settle_again-requires : goal.settle_again-requires
settle_again-requires c =
    let a = c.args in
    let g = a.rig.now in
    let cy = a.cycles.now in
    let s = a.st.now in
    let h : Passed g cy s (task_rows s.running g.tasks g.controller a.task (ltb c.look-idle.result 2)) (R.terminate a.task) = judged_passed g cy s c.sound-sound.result c.sound-sound.ensures _ (R.terminate a.task) (terminate_by g cy s a.task c.look-idle.result c.look-idle.ensures) c.in_ok-of_task.ensures in
    let w : Work = record { st = c.terminate-queue.new.self; queue = c.terminate-queue.result } in
    let m = c.terminate-queue.ensures in
    let there = task_there g cy s h.sound a.task _ h.quiet in
    record {
      first = settles g cy s h.sound (R.terminate a.task) tt h.none w (terminated_work g cy s h.sound w a.task m) m.sound;
      some = omega (arith, there.0);
      there = omega (arith, there.1);
    }

pub returns : goal.returns
unfolding R.ended
returns c =
    let a = c.args in
    let g = a.rig.now in
    let cy = a.cycles.now in
    let s = a.st.now in
    let h : Passed g cy s (task_rows s.running g.tasks g.controller a.task (ltb c.look-idle.result 2)) (R.terminate a.task) = judged_passed g cy s c.sound-sound.result c.sound-sound.ensures _ (R.terminate a.task) (terminate_by g cy s a.task c.look-idle.result c.look-idle.ensures) c.in_ok-of_task.ensures in
    let w : Work = record { st = c.terminate-queue.new.self; queue = c.terminate-queue.result } in
    settled_tells g cy s h.sound (R.terminate a.task) tt h.none w (terminated_work g cy s h.sound w a.task c.terminate-queue.ensures)
    (accepted_with c.settle_again.new.st c.settle_again.result) c.settle_again.ensures tt
