use mathlib.Core.Path.{sym, ◌∙◌}
use Rattle.exec_refusals.specs.Numbers.{none_such, not_sound_no}
use Rattle.exec_refusals.specs.Rows.{none, here, past}
use Rattle.exec_asking.proofs.of_asked.Goals as goal

pub returns-then-not-sound : goal.returns-then-not-sound
returns-then-not-sound c = here not_sound_no _ _ c.if-not-sound.true-raw

pub returns-then-no_such : goal.returns-then-no_such
returns-then-no_such c =
    past _ not_sound_no _ _ c.if-not-sound.false-raw
    (here none_such _ _ (sym c.no_such.ensures ∙ c.if-no_such.true))

pub returns : goal.returns
returns c =
    past _ not_sound_no _ _ c.if-not-sound.false-raw
    (past _ none_such _ _ (sym c.no_such.ensures ∙ c.if-no_such.false) none)
