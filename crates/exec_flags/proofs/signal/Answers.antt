use mathlib.Core.Path.{◌≡◌, refl, sym, ◌∙◌}
use mathlib.Core.List.{[]}
use native.Mathlib.Omega.{arith}
use Rattle.rules.specs.Rig.{not_plain}
use Rattle.rules.specs.Calls as R
use Rattle.laws.specs.Bits.{bit}
use Rattle.laws.specs.Laws.Bits.{bit_le}
use Rattle.exec_state.specs.View.{rig_of, view_of}
use Rattle.exec_state.specs.Work.{Work}
use Rattle.exec_refusals.specs.Rows.{flag_rows, signal_rows}
use Rattle.exec_outcome.specs.Outcome.{accepted_with, kept_with}
use Rattle.exec_outcome.specs.Laws.Meeting.{Passed, judged_passed, refusal_tells, kept_tells, silent_lent}
use Rattle.exec_outcome.specs.Laws.Tables.{signal_table, read_table}
use Rattle.exec_outcome.specs.Laws.Settling.{settles, settled_tells}
use Rattle.rules_laws.specs.Acceptance.{flagged_is}
use Rattle.exec_flags.specs.Laws.Signal.{signal_work}
use Rattle.exec_flags.specs.Laws.Reading.{read_lent, read_quiet, read_output}
use Rattle.exec_flags.proofs.signal.Goals as goal

pub returns-in_err-of_signal : goal.returns-in_err-of_signal
returns-in_err-of_signal c =
    let a = c.args in
    let g = a.rig.now in
    let cy = a.cycles.now in
    let s = a.st.now in
    refusal_tells g cy s c.sound-sound.result c.sound-sound.ensures _ (R.signal a.flag (bit a.value)) (signal_table g cy s a.flag (bit a.value)) c.from_residual.result _ c.from_residual.ensures.1 c.in_err-of_signal.ensures [] (silent_lent (R.signal a.flag (bit a.value)) tt)

pub overflow_cast-flag : goal.overflow_cast-flag
overflow_cast-flag c =
    let a = c.args in
    let g = a.rig.now in
    let cy = a.cycles.now in
    let s = a.st.now in
    let h : Passed g cy s (signal_rows s.running g.flags cy g.activation a.flag) (R.signal a.flag (bit a.value)) = judged_passed g cy s c.sound-sound.result c.sound-sound.ensures _ (R.signal a.flag (bit a.value)) (signal_table g cy s a.flag (bit a.value)) c.in_ok-of_signal.ensures in
    omega (arith, (flagged_is (rig_of g cy) (view_of s) a.flag (not_plain (rig_of g cy) a.flag) (sym h.quiet)).flag.1)

pub settle-requires : goal.settle-requires
settle-requires c =
    let a = c.args in
    let g = a.rig.now in
    let cy = a.cycles.now in
    let s = a.st.now in
    let h : Passed g cy s (signal_rows s.running g.flags cy g.activation a.flag) (R.signal a.flag (bit a.value)) = judged_passed g cy s c.sound-sound.result c.sound-sound.ensures _ (R.signal a.flag (bit a.value)) (signal_table g cy s a.flag (bit a.value)) c.in_ok-of_signal.ensures in
    let w : Work = record { st = s; queue = c.push.new.self } in
    let work = signal_work g cy s a.flag a.value c.empty-queue.result c.push.new.self c.from.result c.empty-queue.ensures.0 c.from.ensures c.push.ensures in
    settles g cy s h.sound (R.signal a.flag (bit a.value)) (bit_le a.value) h.none w work h.sound.links

pub returns : goal.returns
unfolding R.ended
returns c =
    let a = c.args in
    let g = a.rig.now in
    let cy = a.cycles.now in
    let s = a.st.now in
    let h : Passed g cy s (signal_rows s.running g.flags cy g.activation a.flag) (R.signal a.flag (bit a.value)) = judged_passed g cy s c.sound-sound.result c.sound-sound.ensures _ (R.signal a.flag (bit a.value)) (signal_table g cy s a.flag (bit a.value)) c.in_ok-of_signal.ensures in
    let w : Work = record { st = s; queue = c.push.new.self } in
    let work = signal_work g cy s a.flag a.value c.empty-queue.result c.push.new.self c.from.result c.empty-queue.ensures.0 c.from.ensures c.push.ensures in
    settled_tells g cy s h.sound (R.signal a.flag (bit a.value)) (bit_le a.value) h.none w work (accepted_with c.settle.new.st c.settle.result) c.settle.ensures tt
