use mathlib.Core.Path.{◌≡◌, refl, sym, ◌∙◌}
use mathlib.Core.List.{[]}
use native.Mathlib.Omega.{arith}
use Rattle.rules.specs.Rig.{not_plain}
use Rattle.rules.specs.Calls as R
use Rattle.laws.specs.Bits.{bit}
use Rattle.laws.specs.Laws.Bits.{bit_le}
use Rattle.exec_state.specs.View.{rig_of, view_of}
use Rattle.exec_state.specs.Work.{Work}
use Rattle.exec_refusals.specs.Rows.{flag_rows, signal_rows}
use Rattle.exec_outcome.specs.Outcome.{accepted_with, kept_with}
use Rattle.exec_outcome.specs.Laws.Meeting.{Passed, judged_passed, refusal_tells, kept_tells, silent_lent}
use Rattle.exec_outcome.specs.Laws.Tables.{signal_table, read_table}
use Rattle.exec_outcome.specs.Laws.Settling.{settles, settled_tells}
use Rattle.rules_laws.specs.Acceptance.{flagged_is}
use Rattle.exec_flags.specs.Laws.Signal.{signal_work}
use Rattle.exec_flags.specs.Laws.Reading.{read_lent, read_quiet, read_output}
use Rattle.exec_flags.proofs.read_flag.Goals as goal

pub returns-in_err-of_flag : goal.returns-in_err-of_flag
returns-in_err-of_flag c =
    let a = c.args in
    let g = a.rig.now in
    let cy = a.cycles.now in
    let s = a.st.now in
    refusal_tells g cy s c.sound-sound.result c.sound-sound.ensures _ (R.read_flag a.flag) (read_table g cy s a.flag) c.from_residual.result _ c.from_residual.ensures.1 c.in_err-of_flag.ensures []
    (read_lent (rig_of g cy) (view_of s) a.flag)

pub returns : goal.returns
unfolding R.ended
returns c =
    let a = c.args in
    let g = a.rig.now in
    let cy = a.cycles.now in
    let s = a.st.now in
    let h : Passed g cy s (flag_rows s.running g.flags cy a.flag) (R.read_flag a.flag) = judged_passed g cy s c.sound-sound.result c.sound-sound.ensures _ (R.read_flag a.flag) (read_table g cy s a.flag) c.in_ok-of_flag.ensures in
    rw c.of_value.ensures
    (kept_tells g cy s (R.read_flag a.flag) h.sound (read_quiet (rig_of g cy) (view_of s) a.flag) refl tt h.none c.look-value.result (kept_with s c.look-value.result) refl []
    (read_output (rig_of g cy) (view_of s) a.flag c.look-value.result c.look-value.ensures))
