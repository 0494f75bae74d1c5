use mathlib.Core.Path.{sym}
use Rattle.rig_held.specs.Laws.Lines.{begins_some}
use Rattle.rig_held.specs.Laws.Rules.{held_tasks, held_flags, held_master}
use Rattle.rig_fill.specs.Laws.Tables.{rig_is}
use Rattle.rig_filled.proofs.rig_from.Goals as goal

pub bounds-lines-0 : goal.bounds-lines-0
bounds-lines-0 c = begins_some _ c.requires.begins

pub returns : goal.returns
returns c = rig_is _ _ _ _ _ _ _ _ _ _ _ _ _ _ _ _ _ (sym (held_tasks _ _ c.requires.begins)) (sym (held_flags _ _ c.requires.begins)) (sym (held_master _ _ c.requires.begins)) c.how_many.ensures.0 c.how_many-2.ensures.0 c.fill_tasks.ensures.controller c.fill_tasks.ensures.priority c.fill_tasks.ensures.privileged c.fill_tasks.ensures.activation c.fill_conditions.ensures.present c.fill_conditions.ensures.latched c.fill_conditions.ensures.desired c.fill_lines.ensures.task c.fill_lines.ensures.pos c.fill_lines.ensures.flag c.rows_from-row.ensures
