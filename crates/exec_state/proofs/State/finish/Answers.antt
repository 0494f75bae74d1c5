use Rattle.exec_state.specs.Laws.Effects.{pushed_one, finished_is}
use Rattle.exec_state.proofs.State.finish.Goals as goal

pub returns : goal.returns
returns c =
    let a = c.args in
    finished_is a.self.now a.rig.now c.push.new.self (pushed_one _ _ _ _ c.empty-queue.ensures.0 c.push.ensures)
