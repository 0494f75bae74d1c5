use Rattle.exec_state.specs.Laws.Effects.{blank_is}
use Rattle.exec_state.proofs.State.blank.Goals as goal

pub returns : goal.returns
returns c = blank_is _ c.fresh-links.ensures
