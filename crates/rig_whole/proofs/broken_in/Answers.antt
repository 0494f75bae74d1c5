use Rattle.rig_whole.specs.Laws.Which.{broken_computed}
use Rattle.rig_whole.proofs.broken_in.Goals as goal

pub returns : goal.returns
returns c = broken_computed _ _ c.broken.result c.broken.ensures
