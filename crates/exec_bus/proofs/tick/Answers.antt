use mathlib.Core.Path.{refl}
use native.Mathlib.Omega.{arith}
use lib.ListN.{length}
use Rattle.rules.specs.Calls as R
use Rattle.exec_state.specs.Work.{Work}
use Rattle.exec_refusals.specs.Rows.{tick_rows}
use Rattle.exec_outcome.specs.Outcome.{accepted_with}
use Rattle.exec_outcome.specs.Laws.Meeting.{Passed, judged_passed, refusal_tells}
use Rattle.exec_outcome.specs.Laws.Tables.{tick_table}
use Rattle.exec_outcome.specs.Laws.Settling.{settles}
use Rattle.compool.specs.Laws.Rows.{rows_fit}
use Rattle.exec_bus.specs.Laws.Tick.{tick_ok, tick_room, bus_fits, ticked_work, tick_tells}
use Rattle.exec_bus.proofs.tick.Goals as goal

pub returns-in_err-of_tick : goal.returns-in_err-of_tick
unfolding R.lent
returns-in_err-of_tick c =
    let a = c.args in
    let g = a.rig.now in
    let cy = a.cycles.now in
    let s = a.st.now in
    refusal_tells g cy s c.sound-sound.result c.sound-sound.ensures _ (R.tick a.out.now) (tick_table g cy s a.out.now) c.from_residual.result _ c.from_residual.ensures.1 c.in_err-of_tick.ensures
    a.out.now refl

pub ticked-queue-requires : goal.ticked-queue-requires
ticked-queue-requires c =
    let a = c.args in
    let g = a.rig.now in
    let cy = a.cycles.now in
    let s = a.st.now in
    let h : Passed g cy s (tick_rows s.count (length a.out.now)) (R.tick a.out.now) = judged_passed g cy s c.sound-sound.result c.sound-sound.ensures _ (R.tick a.out.now) (tick_table g cy s a.out.now) c.in_ok-of_tick.ensures in
    record { holds_chains = h.sound.links; tick_ok = tick_ok g cy s h.sound (length a.out.now) h.quiet }

pub settle_in-report-requires : goal.settle_in-report-requires
settle_in-report-requires c =
    let a = c.args in
    let g = a.rig.now in
    let cy = a.cycles.now in
    let s = a.st.now in
    let h : Passed g cy s (tick_rows s.count (length a.out.now)) (R.tick a.out.now) = judged_passed g cy s c.sound-sound.result c.sound-sound.ensures _ (R.tick a.out.now) (tick_table g cy s a.out.now) c.in_ok-of_tick.ensures in
    let w : Work = record { st = c.ticked-queue.new.st; queue = c.ticked-queue.result } in
    let m = c.ticked-queue.ensures in
    settles g cy s h.sound (R.tick a.out.now) tt h.none w (ticked_work g cy s h.sound w m a.out.now) m.sound

pub bus_words-words-requires : goal.bus_words-words-requires
bus_words-words-requires c =
    let a = c.args in
    let g = a.rig.now in
    let cy = a.cycles.now in
    let s = a.st.now in
    let h : Passed g cy s (tick_rows s.count (length a.out.now)) (R.tick a.out.now) = judged_passed g cy s c.sound-sound.result c.sound-sound.ensures _ (R.tick a.out.now) (tick_table g cy s a.out.now) c.in_ok-of_tick.ensures in
    (rows_fit g cy h.sound.rig, tick_room g cy s h.sound (length a.out.now) h.quiet)

pub overflow_cast-report : goal.overflow_cast-report
overflow_cast-report c =
    let a = c.args in
    let g = a.rig.now in
    let cy = a.cycles.now in
    let s = a.st.now in
    let h : Passed g cy s (tick_rows s.count (length a.out.now)) (R.tick a.out.now) = judged_passed g cy s c.sound-sound.result c.sound-sound.ensures _ (R.tick a.out.now) (tick_table g cy s a.out.now) c.in_ok-of_tick.ensures in
    omega (arith, bus_fits _ _ _ _ c.bus_words-words.result c.bus_words-words.ensures.0 h.sound.rig.row_count)

pub returns : goal.returns
returns c =
    let a = c.args in
    let g = a.rig.now in
    let cy = a.cycles.now in
    let s = a.st.now in
    let h : Passed g cy s (tick_rows s.count (length a.out.now)) (R.tick a.out.now) = judged_passed g cy s c.sound-sound.result c.sound-sound.ensures _ (R.tick a.out.now) (tick_table g cy s a.out.now) c.in_ok-of_tick.ensures in
    let w : Work = record { st = c.ticked-queue.new.st; queue = c.ticked-queue.result } in
    let m = c.ticked-queue.ensures in
    let k = c.cycle_at-cycle in
    let o = c.settle_in-report in
    let b = c.bus_words-words in
    tick_tells g cy s h.sound w m a.out.now h.none k.result k.ensures (accepted_with o.new.st o.result) o.ensures b.result b.new.out b.ensures.0 b.ensures.1
