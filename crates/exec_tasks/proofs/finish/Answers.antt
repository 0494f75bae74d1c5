use mathlib.Core.List.{[]}
use mathlib.Core.Bool.{not}
use lib.Dec.{eqb, ltb}
use native.Mathlib.Omega.{arith}
use Rattle.rules.specs.Calls as R
use Rattle.exec_refusals.specs.Rows.{task_rows, run_rows}
use Rattle.exec_state.specs.Work.{Work}
use Rattle.exec_outcome.specs.Outcome.{accepted_with}
use Rattle.exec_outcome.specs.Laws.Meeting.{Passed, judged_passed, refusal_tells, silent_lent}
use Rattle.exec_outcome.specs.Laws.Tables.{finish_table}
use Rattle.exec_outcome.specs.Laws.Settling.{settles, settled_tells}
use Rattle.exec_tasks.specs.Laws.Tasks.{schedule_by, cancel_by, terminate_by, cancel_ok, task_there, runner_there, scheduled_work, scheduled_links, cancelled_work, terminated_work, finished_work, finished_links}
use Rattle.exec_tasks.proofs.finish.Goals as goal

pub returns-in_err-of_run : goal.returns-in_err-of_run
returns-in_err-of_run c =
    let a = c.args in
    let g = a.rig.now in
    let cy = a.cycles.now in
    let s = a.st.now in
    refusal_tells g cy s c.sound-sound.result c.sound-sound.ensures _ R.finish (finish_table g cy s) c.from_residual.result _ c.from_residual.ensures.1 c.in_err-of_run.ensures [] (silent_lent R.finish tt)

pub finish-off-requires : goal.finish-off-requires
finish-off-requires c =
    let a = c.args in
    let g = a.rig.now in
    let cy = a.cycles.now in
    let s = a.st.now in
    let h : Passed g cy s (run_rows s.running) R.finish = judged_passed g cy s c.sound-sound.result c.sound-sound.ensures _ R.finish (finish_table g cy s) c.in_ok-of_run.ensures in
    (runner_there g cy s h.sound h.quiet).1

pub settle_again-requires : goal.settle_again-requires
settle_again-requires c =
    let a = c.args in
    let g = a.rig.now in
    let cy = a.cycles.now in
    let s = a.st.now in
    let h : Passed g cy s (run_rows s.running) R.finish = judged_passed g cy s c.sound-sound.result c.sound-sound.ensures _ R.finish (finish_table g cy s) c.in_ok-of_run.ensures in
    let w : Work = record { st = c.finish-off.new.self; queue = c.finish-off.result } in
    let m = c.finish-off.ensures in
    let there = runner_there g cy s h.sound h.quiet in
    record {
      first = settles g cy s h.sound R.finish tt h.none w (finished_work g cy s h.sound w m) (finished_links g cy s h.sound w m);
      some = omega (arith, there.0);
      there = omega (arith, there.1);
    }

pub returns : goal.returns
unfolding R.ended
returns c =
    let a = c.args in
    let g = a.rig.now in
    let cy = a.cycles.now in
    let s = a.st.now in
    let h : Passed g cy s (run_rows s.running) R.finish = judged_passed g cy s c.sound-sound.result c.sound-sound.ensures _ R.finish (finish_table g cy s) c.in_ok-of_run.ensures in
    let w : Work = record { st = c.finish-off.new.self; queue = c.finish-off.result } in
    settled_tells g cy s h.sound R.finish tt h.none w (finished_work g cy s h.sound w c.finish-off.ensures)
    (accepted_with c.settle_again.new.st c.settle_again.result) c.settle_again.ensures tt
