use mathlib.Core.Path.{refl}
use mathlib.Core.Bool.{true, false}
use borrow.Author.Rules.{rules}
use Rattle.rules.specs.Calls as R
use Rattle.refusals.specs.Numbers.{refusal_number, some_number, handed_on}
use Rattle.exec_outcome.specs.Outcome.{refused_by, kept_with}
use Rattle.exec_bus.specs.Laws.Blocks.{Judged, block_refused, fit, block_tells}
use Rattle.exec_bus.proofs.read_block.Goals as goal

pub returns-in_err-of_block : goal.returns-in_err-of_block
unfolding R.lent
returns-in_err-of_block c =
    let a = c.args in
    let g = a.rig.now in
    let cy = a.cycles.now in
    let s = a.st.now in
    let n = refusal_number c.in_err-of_block.field-0.0 in
    let j : Judged g cy s a.k a.area.now a.buffer.now n = record { sound = c.sound-sound.result; is = c.sound-sound.ensures; number = c.in_err-of_block.ensures } in
    rw (handed_on c.from_residual.result _ c.from_residual.ensures.1) (block_refused j false (some_number _) (refused_by s n) refl _ refl)

pub read_block-requires : goal.read_block-requires
read_block-requires c =
    let a = c.args in
    let g = a.rig.now in
    let cy = a.cycles.now in
    let s = a.st.now in
    let j : Judged g cy s a.k a.area.now a.buffer.now 0 = record { sound = c.sound-sound.result; is = c.sound-sound.ensures; number = c.in_ok-of_block.ensures } in
    let f = fit j refl in search rules

pub returns : goal.returns
unfolding R.output
returns c =
    let a = c.args in
    let g = a.rig.now in
    let cy = a.cycles.now in
    let s = a.st.now in
    let j : Judged g cy s a.k a.area.now a.buffer.now 0 = record { sound = c.sound-sound.result; is = c.sound-sound.ensures; number = c.in_ok-of_block.ensures } in
    rw c.of_value.ensures (block_tells j refl false (kept_with s 0) refl _ c.read_block.ensures)
