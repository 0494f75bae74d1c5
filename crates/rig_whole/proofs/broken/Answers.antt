use Rattle.std.proofs.Common.{◌∙◌}
use Rattle.rig_whole.specs.Laws.Which.{broken_is}
use Rattle.rig_whole.proofs.broken.Goals as goal

pub returns-in-Ok : goal.returns-in-Ok
returns-in-Ok c = broken_is c.args.rig c.args.cycles 0 (c.in-Ok.ensures)

pub returns-in-Err : goal.returns-in-Err
returns-in-Err c = broken_is c.args.rig c.args.cycles c.number.result (c.number.ensures ∙ c.in-Err.ensures)
