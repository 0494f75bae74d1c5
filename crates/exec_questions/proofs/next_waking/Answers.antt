use mathlib.Core.Path.{refl, sym, ap, ◌∙◌}
use mathlib.Core.Bool.{not, not-not, false≢true}
use native.Mathlib.Omega.{arith}
use Rattle.exec_sound.specs.Sound.{SoundParts}
use Rattle.exec_outcome.specs.Outcome.{refused_by, kept_with}
use Rattle.exec_refusals.specs.Numbers.{not_sound_no}
use Rattle.exec_questions.specs.Laws.NextWaking.{asked_unsound, told_none, told_head, ends_low}
use Rattle.exec_questions.proofs.next_waking.Goals as goal

pub returns-then-not-sound : goal.returns-then-not-sound
returns-then-not-sound c =
    let a = c.args in
    let g = a.rig.now in
    let cy = a.cycles.now in
    let s = a.st.now in
    asked_unsound g cy s (λ h. false≢true (sym (sym (not-not _) ∙ ap not c.if-not-sound.true-raw) ∙ c.sound.ensures.1 h)) (refused_by s not_sound_no) refl

pub returns-then-head-eq-TIME_CHAIN : goal.returns-then-head-eq-TIME_CHAIN
returns-then-head-eq-TIME_CHAIN c =
    let a = c.args in
    let g = a.rig.now in
    let cy = a.cycles.now in
    let s = a.st.now in
    let h : SoundParts g cy s = c.sound.ensures.0 (sym (not-not _) ∙ ap not c.if-not-sound.false-raw) in
    rw c.of_value.ensures (told_none g cy s h c.if-head-eq-TIME_CHAIN.true (kept_with s 0) refl)

pub offset_bounds-st-head : goal.offset_bounds-st-head
offset_bounds-st-head c =
    let a = c.args in
    let g = a.rig.now in
    let cy = a.cycles.now in
    let s = a.st.now in
    let h : SoundParts g cy s = c.sound.ensures.0 (sym (not-not _) ∙ ap not c.if-not-sound.false-raw) in
    let e = ends_low g cy s h in
    omega (arith, e.0, e.1, c.if-head-eq-TIME_CHAIN.false)

pub bounds-st-head : goal.bounds-st-head
bounds-st-head c =
    let a = c.args in
    let g = a.rig.now in
    let cy = a.cycles.now in
    let s = a.st.now in
    let h : SoundParts g cy s = c.sound.ensures.0 (sym (not-not _) ∙ ap not c.if-not-sound.false-raw) in
    let e = ends_low g cy s h in
    omega (arith, e.0, e.1, c.if-head-eq-TIME_CHAIN.false)

pub returns : goal.returns
returns c =
    let a = c.args in
    let g = a.rig.now in
    let cy = a.cycles.now in
    let s = a.st.now in
    let h : SoundParts g cy s = c.sound.ensures.0 (sym (not-not _) ∙ ap not c.if-not-sound.false-raw) in
    rw c.of_value-2.ensures (told_head g cy s h c.if-head-eq-TIME_CHAIN.false (kept_with s _) refl)
