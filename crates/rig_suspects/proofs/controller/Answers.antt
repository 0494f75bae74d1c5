use mathlib.Core.Path.{ap, ◌∙◌}
use Rattle.rig_suspects.specs.Suspects.{Key, lines_from, look_in, task_key}
use Rattle.rig_suspects.specs.Laws.{look_whole}
use Rattle.rig_suspects.proofs.controller.Goals as goal

pub returns : goal.returns
returns c =
    let s = c.args.s.now in
    c.look.ensures ∙ (ap (λ (k : Key). look_in k 1 (lines_from s 0)) c.task_key.ensures ∙ look_whole (task_key c.args.t) 1 s)
