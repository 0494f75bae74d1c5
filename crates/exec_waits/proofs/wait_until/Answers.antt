use mathlib.Core.Path.{◌≡◌, refl, sym, ◌∙◌, ap, subst}
use mathlib.Core.Bool.{◌&&◌}
use mathlib.Core.List.{[]}
use Prim.Native.Nat.{ℕ, ◌+◌}
use native.Mathlib.Omega.{arith}
use lib.Dec.{eqb, ltb}
use lib.ListN.{get_or}
use Rattle.rules.specs.Calls as R
use Rattle.rules.specs.Waiting.{wait_on}
use Rattle.laws.specs.Bits.{bit}
use Rattle.exec_state.specs.View.{rig_of, view_of, work_of}
use Rattle.exec_state.specs.Work.{Work}
use Rattle.exec_refusals.specs.Rows.{count_rows, flag_rows}
use Rattle.exec_outcome.specs.Outcome.{accepted_with, kept_with}
use Rattle.exec_outcome.specs.Laws.Meeting.{Passed, judged_passed, refusal_tells, kept_tells, silent_lent, silent_output}
use Rattle.exec_outcome.specs.Laws.Tables.{until_table, for_table}
use Rattle.exec_outcome.specs.Laws.Settling.{empty_cycle, Settled, settles, settled_tells}
use Rattle.rules_laws.specs.Acceptance.{somebody_runs}
use Rattle.exec_waits.specs.Laws.Waits.{flag_wait, wait_silent, wait_nobody, wait_proper, wait_table, may_wait, flag_ok, wait_work, wait_stays, until_work, until_stays, for_work, for_stays, count_there}
use Rattle.exec_waits.proofs.wait_until.Goals as goal

pub returns-in_err-of_count : goal.returns-in_err-of_count
returns-in_err-of_count c =
    let a = c.args in
    let g = a.rig.now in
    let cy = a.cycles.now in
    let s = a.st.now in
    refusal_tells g cy s c.sound-sound.result c.sound-sound.ensures _ (R.wait_until a.count) (until_table g cy s a.count) c.from_residual.result _ c.from_residual.ensures.1 c.in_err-of_count.ensures [] (silent_lent (R.wait_until a.count) tt)

pub returns-then-count-st : goal.returns-then-count-st
unfolding R.ended
returns-then-count-st c =
    let a = c.args in
    let g = a.rig.now in
    let cy = a.cycles.now in
    let s = a.st.now in
    let h : Passed g cy s (count_rows s.running (ltb 2147483647 a.count)) (R.wait_until a.count) = judged_passed g cy s c.sound-sound.result c.sound-sound.ensures _ (R.wait_until a.count) (until_table g cy s a.count) c.in_ok-of_count.ensures in
    rw c.of_value.ensures
    (kept_tells g cy s (R.wait_until a.count) h.sound (until_stays g cy s h.sound a.count c.if-count-st.true) refl tt h.none 0 (kept_with s 0) refl [] (silent_output (rig_of g cy) (view_of s) (R.wait_until a.count) tt))

pub wait_until-requires : goal.wait_until-requires
wait_until-requires c =
    let a = c.args in
    let g = a.rig.now in
    let cy = a.cycles.now in
    let s = a.st.now in
    let h : Passed g cy s (count_rows s.running (ltb 2147483647 a.count)) (R.wait_until a.count) = judged_passed g cy s c.sound-sound.result c.sound-sound.ensures _ (R.wait_until a.count) (until_table g cy s a.count) c.in_ok-of_count.ensures in
    may_wait g cy s h.sound (somebody_runs (view_of s) _ (sym h.quiet))

pub settle-requires : goal.settle-requires
settle-requires c =
    let a = c.args in
    let g = a.rig.now in
    let cy = a.cycles.now in
    let s = a.st.now in
    let h : Passed g cy s (count_rows s.running (ltb 2147483647 a.count)) (R.wait_until a.count) = judged_passed g cy s c.sound-sound.result c.sound-sound.ensures _ (R.wait_until a.count) (until_table g cy s a.count) c.in_ok-of_count.ensures in
    let w : Work = record { st = c.wait_until.new.st; queue = c.empty.result } in
    let work = until_work g cy s h.sound w.st w.queue c.empty.ensures.0 a.count (omega (arith, c.if-count-st.false)) c.wait_until.ensures.is in
    settles g cy s h.sound (R.wait_until a.count) tt h.none w work c.wait_until.ensures.sound

pub returns : goal.returns
unfolding R.ended
returns c =
    let a = c.args in
    let g = a.rig.now in
    let cy = a.cycles.now in
    let s = a.st.now in
    let h : Passed g cy s (count_rows s.running (ltb 2147483647 a.count)) (R.wait_until a.count) = judged_passed g cy s c.sound-sound.result c.sound-sound.ensures _ (R.wait_until a.count) (until_table g cy s a.count) c.in_ok-of_count.ensures in
    let w : Work = record { st = c.wait_until.new.st; queue = c.empty.result } in
    let work = until_work g cy s h.sound w.st w.queue c.empty.ensures.0 a.count (omega (arith, c.if-count-st.false)) c.wait_until.ensures.is in
    settled_tells g cy s h.sound (R.wait_until a.count) tt h.none w work (accepted_with c.settle.new.st c.settle.result) c.settle.ensures tt
