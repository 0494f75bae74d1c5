use mathlib.Core.Path.{◌∙◌}
use Rattle.rig_suspects.specs.Suspects.{rig_key, task_count_of}
use Rattle.rig_suspects.specs.Laws.{look_whole}
use Rattle.rig_suspects.proofs.task_count.Goals as goal

pub returns : goal.returns
unfolding task_count_of
returns c = c.look.ensures ∙ look_whole rig_key 1 c.args.s.now
