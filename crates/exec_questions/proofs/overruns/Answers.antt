use mathlib.Core.Path.{refl}
use native.Mathlib.Omega.{arith}
use Rattle.refusals.specs.Numbers.{refusal_number, some_number, handed_on}
use Rattle.exec_outcome.specs.Outcome.{refused_by, kept_with}
use Rattle.exec_questions.specs.Laws.Overruns.{refused_asked, asked_low, told_overruns}
use Rattle.exec_questions.proofs.overruns.Goals as goal

pub returns-in_err-of_asked : goal.returns-in_err-of_asked
returns-in_err-of_asked c =
    let a = c.args in
    let g = a.rig.now in
    let cy = a.cycles.now in
    let s = a.st.now in
    let n = refusal_number c.in_err-of_asked.field-0.0 in
    rw (handed_on c.from_residual.result _ c.from_residual.ensures.1)
    (refused_asked g cy s a.task c.sound-sound.result c.sound-sound.ensures n c.in_err-of_asked.ensures (some_number _) (refused_by s n) refl)

pub bounds-st-t : goal.bounds-st-t
bounds-st-t c =
    let a = c.args in
    let g = a.rig.now in
    let cy = a.cycles.now in
    let s = a.st.now in
    let low = asked_low g cy s a.task c.sound-sound.result c.sound-sound.ensures 0 c.in_ok-of_asked.ensures refl in
    omega (arith, low.0, low.1)

pub returns : goal.returns
returns c =
    let a = c.args in
    let g = a.rig.now in
    let cy = a.cycles.now in
    let s = a.st.now in
    rw c.of_value.ensures
    (told_overruns g cy s a.task c.sound-sound.result c.sound-sound.ensures 0 c.in_ok-of_asked.ensures refl _ refl (kept_with s _) refl)
