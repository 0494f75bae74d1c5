use Rattle.std.proofs.Common.{sym, ◌∙◌}
use Rattle.exec_starting.proofs.Levels.{at_none, at_more, at_rest}
use Rattle.exec_starting.proofs.+conditions_within_tasks_within.Goals as goal

pub conditions_within-returns-then-d-eq0 : goal.conditions_within-returns-then-d-eq0
conditions_within-returns-then-d-eq0 t c = at_none _ _ _ _ _ _ c.if-d-eq0.true

pub conditions_within-returns-then-nobody : goal.conditions_within-returns-then-nobody
conditions_within-returns-then-nobody t c =
    at_rest _ _ _ _ _ _ _ c.if-d-eq0.false c.tasks_within-can.ensures c.requires (sym c.nobody.ensures ∙ c.if-nobody.true)

pub conditions_within-returns : goal.conditions_within-returns
conditions_within-returns t c = at_more _ _ _ _ _ _ _ _ c.if-d-eq0.false c.tasks_within-can.ensures c.open_links.ensures
