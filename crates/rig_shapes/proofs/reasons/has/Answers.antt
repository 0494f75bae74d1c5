use Rattle.rig_shapes.specs.Laws.{has_found}
use Rattle.rig_shapes.proofs.reasons.has.Goals as goal

pub returns : goal.returns
returns c = has_found c.args.c c.args.line.now c.find.result c.find.ensures
