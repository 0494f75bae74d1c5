use mathlib.Core.Path.{sym, ◌∙◌, ap}
use borrow.Author.Tests.{not-true, not-false}
use Rattle.laws.specs.Laws.First.{first_none, first_skip, first_here}
use Rattle.rig_activation.specs.Laws.Served.{served_b, served_law}
use Rattle.rig_whole.proofs.task_rules.Goals as goal

pub returns-then-not-controllers : goal.returns-then-not-controllers
returns-then-not-controllers c = sym (first_here 16 _ _ (sym c.controllers.ensures ∙ not-true _ c.if-not-controllers.true-raw))

pub returns-then-not-served : goal.returns-then-not-served
returns-then-not-served c = sym (first_skip 16 _ _ (sym c.controllers.ensures ∙ not-false _ c.if-not-controllers.false-raw) ∙ first_here 17 _ _ (sym (served_law c.args.rig.now.activation c.requires.1.1) ∙ ap (served_b c.args.rig.now.activation) (sym c.flag_owners-table.ensures) ∙ sym c.served.ensures ∙ not-true _ c.if-not-served.true-raw))

pub returns-then-not-unmarked : goal.returns-then-not-unmarked
returns-then-not-unmarked c = sym (first_skip 16 _ _ (sym c.controllers.ensures ∙ not-false _ c.if-not-controllers.false-raw) ∙ first_skip 17 _ _ (sym (served_law c.args.rig.now.activation c.requires.1.1) ∙ ap (served_b c.args.rig.now.activation) (sym c.flag_owners-table.ensures) ∙ sym c.served.ensures ∙ not-false _ c.if-not-served.false-raw) ∙ first_here 18 _ _ (sym c.unmarked.ensures ∙ not-true _ c.if-not-unmarked.true-raw))

pub returns : goal.returns
returns c = sym (first_skip 16 _ _ (sym c.controllers.ensures ∙ not-false _ c.if-not-controllers.false-raw) ∙ first_skip 17 _ _ (sym (served_law c.args.rig.now.activation c.requires.1.1) ∙ ap (served_b c.args.rig.now.activation) (sym c.flag_owners-table.ensures) ∙ sym c.served.ensures ∙ not-false _ c.if-not-served.false-raw) ∙ first_skip 18 _ _ (sym c.unmarked.ensures ∙ not-false _ c.if-not-unmarked.false-raw) ∙ first_none 19)
