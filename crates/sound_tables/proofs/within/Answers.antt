use mathlib.Core.Path.{refl, sym, ◌∙◌}
use mathlib.Core.Bool.{false≢true}
use Rattle.laws.specs.Cases.{and_go, and_stop}
use Rattle.sound_tables.specs.Passes.{within_slices}
use Rattle.sound_tables.proofs.within.Goals as goal
use Rattle.sound_tables.proofs.within.Goals.{then-at_most, else-at_most}

pub returns-then-at_most-2 : goal.returns-then-at_most-2
returns-then-at_most-2 c =
    let a = c.args in
    let parts = within_slices a.table.now a.many a.top c.after-first.result c.after-end.result c.after-first.ensures c.after-end.ensures in
    elim c.if-at_most.branch [
      | then-at_most w ↦ c.at_most-then-at_most-2.ensures ∙ sym (parts ∙ and_go (sym c.at_most.ensures ∙ w.if-at_most.true) (and_go (sym w.at_most-then-at_most.ensures ∙ sym w.value-is ∙ c.if-at_most-2.true) refl))
      | else-at_most w ↦ absurd (false≢true (sym w.if-at_most.false ∙ sym w.value-is ∙ c.if-at_most-2.true))
    ]

pub returns-else-at_most-2 : goal.returns-else-at_most-2
returns-else-at_most-2 c =
    let a = c.args in
    let parts = within_slices a.table.now a.many a.top c.after-first.result c.after-end.result c.after-first.ensures c.after-end.ensures in
    elim c.if-at_most.branch [
      | then-at_most w ↦ c.if-at_most-2.false ∙ sym (parts ∙ and_go (sym c.at_most.ensures ∙ w.if-at_most.true) (and_stop _ (sym w.at_most-then-at_most.ensures ∙ sym w.value-is ∙ c.if-at_most-2.false)))
      | else-at_most w ↦ c.if-at_most-2.false ∙ sym (parts ∙ and_stop _ (sym c.at_most.ensures ∙ w.if-at_most.false))
    ]
