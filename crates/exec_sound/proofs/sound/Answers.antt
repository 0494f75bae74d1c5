use Rattle.std.proofs.Common.{sym, ◌∙◌}
use mathlib.Core.Bool.{false≢true}
use Rattle.rig_whole.specs.Laws.Which.{ok_right}
use Rattle.exec_sound.specs.Laws.Check.{tests_sound, sound_tests, sound_order, placed, count_low}
use Rattle.exec_sound.proofs.sound.Goals as goal
use Rattle.exec_sound.proofs.sound.Goals.{then-is_ok, else-is_ok}

pub tables_ok-requires : goal.tables_ok-requires
tables_ok-requires c =
    let right = (ok_right _ _ c.first_broken.result c.first_broken.ensures).0 (sym c.is_ok.ensures.value ∙ c.if-is_ok.true) in
    placed c.args.rig.now c.args.cycles.now right

pub chains_ok-requires : goal.chains_ok-requires
chains_ok-requires c =
    elim c.if-is_ok.branch [
      | then-is_ok w ↦ count_low c.args.rig.now c.args.st.now (sym w.tables_ok.ensures.tests ∙ sym w.value-is ∙ c.if-tables_ok.true)
      | else-is_ok w ↦ absurd (false≢true (sym w.if-is_ok.false ∙ sym w.value-is ∙ c.if-tables_ok.true))
    ]

pub returns-then-tables_ok : goal.returns-then-tables_ok
returns-then-tables_ok c =
    let g = c.args.rig.now in
    let cycles = c.args.cycles.now in
    let s = c.args.st.now in
    elim c.if-is_ok.branch [
      | then-is_ok w ↦
          let right = (ok_right g cycles c.first_broken.result c.first_broken.ensures).0 (sym c.is_ok.ensures.value ∙ w.if-is_ok.true) in
          let holds = sym w.value-is ∙ c.if-tables_ok.true in (
            (λ q. tests_sound g cycles s (w.tables_ok.ensures.sizes holds) right (sym w.tables_ok.ensures.tests ∙ holds) (c.chains_ok.ensures.0 q)),
            (λ h. c.chains_ok.ensures.1 (sound_order g cycles s h)),
          )
      | else-is_ok w ↦ absurd (false≢true (sym w.if-is_ok.false ∙ sym w.value-is ∙ c.if-tables_ok.true))
    ]

pub returns-else-tables_ok : goal.returns-else-tables_ok
returns-else-tables_ok c =
    let g = c.args.rig.now in
    let cycles = c.args.cycles.now in
    let s = c.args.st.now in (
      (λ e. absurd (false≢true (sym c.if-tables_ok.false ∙ e))),
      (λ h. elim c.if-is_ok.branch [
        | then-is_ok w ↦ w.value-is ∙ w.tables_ok.ensures.tests ∙ sound_tests g cycles s h
        | else-is_ok w ↦ w.value-is ∙ c.is_ok.ensures.value ∙ (ok_right g cycles c.first_broken.result c.first_broken.ensures).1 h.rig
      ]),
    )
