use mathlib.Core.Path.{◌≡◌, refl, sym, ◌∙◌, ap, subst}
use mathlib.Core.Bool.{◌&&◌}
use mathlib.Core.List.{[]}
use Prim.Native.Nat.{ℕ, ◌+◌}
use native.Mathlib.Omega.{arith}
use lib.Dec.{eqb, ltb}
use lib.ListN.{get_or}
use Rattle.rules.specs.Calls as R
use Rattle.rules.specs.Waiting.{wait_on}
use Rattle.laws.specs.Bits.{bit}
use Rattle.exec_state.specs.View.{rig_of, view_of, work_of}
use Rattle.exec_state.specs.Work.{Work}
use Rattle.exec_refusals.specs.Rows.{count_rows, flag_rows}
use Rattle.exec_outcome.specs.Outcome.{accepted_with, kept_with}
use Rattle.exec_outcome.specs.Laws.Meeting.{Passed, judged_passed, refusal_tells, kept_tells, silent_lent, silent_output}
use Rattle.exec_outcome.specs.Laws.Tables.{until_table, for_table}
use Rattle.exec_outcome.specs.Laws.Settling.{empty_cycle, Settled, settles, settled_tells}
use Rattle.rules_laws.specs.Acceptance.{somebody_runs}
use Rattle.exec_waits.specs.Laws.Waits.{flag_wait, wait_silent, wait_nobody, wait_proper, wait_table, may_wait, flag_ok, wait_work, wait_stays, until_work, until_stays, for_work, for_stays, count_there}
use Rattle.exec_waits.proofs.wait_on.Goals as goal

pub returns-in_err-of_flag : goal.returns-in_err-of_flag
returns-in_err-of_flag c =
    let a = c.args in
    let g = a.rig.now in
    let cy = a.cycles.now in
    let s = a.st.now in
    refusal_tells g cy s c.sound-sound.result c.sound-sound.ensures _ (flag_wait a.latched a.flag (bit a.value)) (wait_table g cy s a.latched a.flag (bit a.value)) c.from_residual.result _ c.from_residual.ensures.1 c.in_err-of_flag.ensures [] (silent_lent (flag_wait a.latched a.flag (bit a.value)) (wait_silent a.latched a.flag (bit a.value)))

pub returns-then-satisfied : goal.returns-then-satisfied
unfolding R.ended
returns-then-satisfied c =
    let a = c.args in
    let g = a.rig.now in
    let cy = a.cycles.now in
    let s = a.st.now in
    let h : Passed g cy s (flag_rows s.running g.flags cy a.flag) (flag_wait a.latched a.flag (bit a.value)) = judged_passed g cy s c.sound-sound.result c.sound-sound.ensures _ (flag_wait a.latched a.flag (bit a.value)) (wait_table g cy s a.latched a.flag (bit a.value)) c.in_ok-of_flag.ensures in
    let there : (a.latched && eqb (get_or s.value a.flag 0) (bit a.value)) ≡ c.satisfied.result = ap (λ (n : ℕ). a.latched && eqb n (bit a.value)) (sym c.look.ensures) ∙ ap (λ (n : ℕ). a.latched && eqb c.look.result n) (sym c.from-v.ensures) ∙ sym c.satisfied.ensures in
    rw c.of_value.ensures
    (kept_tells g cy s (flag_wait a.latched a.flag (bit a.value)) h.sound (wait_stays g cy s h.sound a.latched a.flag (bit a.value) (there ∙ c.if-satisfied.true)) (wait_nobody (view_of s) a.latched a.flag (bit a.value)) (wait_proper a.latched a.flag a.value) h.none 0 (kept_with s 0) refl [] (silent_output (rig_of g cy) (view_of s) (flag_wait a.latched a.flag (bit a.value)) (wait_silent a.latched a.flag (bit a.value))))

pub wait_on-requires : goal.wait_on-requires
wait_on-requires c =
    let a = c.args in
    let g = a.rig.now in
    let cy = a.cycles.now in
    let s = a.st.now in
    let h : Passed g cy s (flag_rows s.running g.flags cy a.flag) (flag_wait a.latched a.flag (bit a.value)) = judged_passed g cy s c.sound-sound.result c.sound-sound.ensures _ (flag_wait a.latched a.flag (bit a.value)) (wait_table g cy s a.latched a.flag (bit a.value)) c.in_ok-of_flag.ensures in
    record { may_wait = may_wait g cy s h.sound (somebody_runs (view_of s) _ (sym h.quiet)); flag_ok = rw c.from-v.ensures (flag_ok g cy s h.sound a.flag a.value h.quiet) }

pub settle-requires : goal.settle-requires
settle-requires c =
    let a = c.args in
    let g = a.rig.now in
    let cy = a.cycles.now in
    let s = a.st.now in
    let h : Passed g cy s (flag_rows s.running g.flags cy a.flag) (flag_wait a.latched a.flag (bit a.value)) = judged_passed g cy s c.sound-sound.result c.sound-sound.ensures _ (flag_wait a.latched a.flag (bit a.value)) (wait_table g cy s a.latched a.flag (bit a.value)) c.in_ok-of_flag.ensures in
    let there : (a.latched && eqb (get_or s.value a.flag 0) (bit a.value)) ≡ c.satisfied.result = ap (λ (n : ℕ). a.latched && eqb n (bit a.value)) (sym c.look.ensures) ∙ ap (λ (n : ℕ). a.latched && eqb c.look.result n) (sym c.from-v.ensures) ∙ sym c.satisfied.ensures in
    let w : Work = record { st = c.wait_on.new.st; queue = c.empty.result } in
    let work = wait_work g cy s h.sound w.st w.queue c.empty.ensures.0 a.latched a.flag (bit a.value) (there ∙ c.if-satisfied.false) (c.wait_on.ensures.is ∙ ap (wait_on (view_of s) a.flag) c.from-v.ensures) in
    settles g cy s h.sound (flag_wait a.latched a.flag (bit a.value)) (wait_proper a.latched a.flag a.value) h.none w work c.wait_on.ensures.sound

pub returns : goal.returns
returns c =
    let a = c.args in
    let g = a.rig.now in
    let cy = a.cycles.now in
    let s = a.st.now in
    let h : Passed g cy s (flag_rows s.running g.flags cy a.flag) (flag_wait a.latched a.flag (bit a.value)) = judged_passed g cy s c.sound-sound.result c.sound-sound.ensures _ (flag_wait a.latched a.flag (bit a.value)) (wait_table g cy s a.latched a.flag (bit a.value)) c.in_ok-of_flag.ensures in
    let there : (a.latched && eqb (get_or s.value a.flag 0) (bit a.value)) ≡ c.satisfied.result = ap (λ (n : ℕ). a.latched && eqb n (bit a.value)) (sym c.look.ensures) ∙ ap (λ (n : ℕ). a.latched && eqb c.look.result n) (sym c.from-v.ensures) ∙ sym c.satisfied.ensures in
    let w : Work = record { st = c.wait_on.new.st; queue = c.empty.result } in
    let work = wait_work g cy s h.sound w.st w.queue c.empty.ensures.0 a.latched a.flag (bit a.value) (there ∙ c.if-satisfied.false) (c.wait_on.ensures.is ∙ ap (wait_on (view_of s) a.flag) c.from-v.ensures) in
    settled_tells g cy s h.sound (flag_wait a.latched a.flag (bit a.value)) (wait_proper a.latched a.flag a.value) h.none w work (accepted_with c.settle.new.st c.settle.result) (subst (λ (n : ℕ). Settled g empty_cycle w n (accepted_with c.settle.new.st c.settle.result)) (sym (wait_nobody (view_of s) a.latched a.flag (bit a.value))) c.settle.ensures) (wait_silent a.latched a.flag (bit a.value))
