use native.Mathlib.Omega.{arith}
use mathlib.Core.Path.{refl}
use Rattle.refusals.specs.Numbers.{refusal_number, some_number, handed_on}
use Rattle.exec_outcome.specs.Outcome.{refused_by, kept_with}
use Rattle.exec_why.specs.Laws.WhyNot.{refused_why, why_sized, why_low, told_why}
use Rattle.exec_why.proofs.why_not.Goals as goal

pub returns-in_err-of_why : goal.returns-in_err-of_why
returns-in_err-of_why c =
    let a = c.args in
    let g = a.rig.now in
    let cy = a.cycles.now in
    let s = a.st.now in
    let n = refusal_number c.in_err-of_why.field-0.0 in
    rw (handed_on c.from_residual.result _ c.from_residual.ensures.1)
    (refused_why g cy s a.task a.links c.sound-sound.result c.sound-sound.ensures n c.in_err-of_why.ensures (some_number _) (refused_by s n) refl)

pub lowest_blocking-position-requires : goal.lowest_blocking-position-requires
lowest_blocking-position-requires c =
    let a = c.args in
    let g = a.rig.now in
    let cy = a.cycles.now in
    let s = a.st.now in
    let e = c.sound-sound in (
      why_sized g cy s a.task a.links e.result e.ensures 0 c.in_ok-of_why.ensures refl,
      omega (arith, why_low g cy s a.task a.links e.result e.ensures 0 c.in_ok-of_why.ensures refl),
    )

pub returns : goal.returns
returns c =
    let a = c.args in
    let g = a.rig.now in
    let cy = a.cycles.now in
    let s = a.st.now in
    let p = c.lowest_blocking-position in
    rw c.of_value.ensures
    (told_why g cy s a.task a.links c.sound-sound.result c.sound-sound.ensures 0 c.in_ok-of_why.ensures refl p.result p.ensures (kept_with s p.result) refl)
