use Rattle.exec_state.specs.Laws.Effects.{pushed_one, terminated_is}
use Rattle.exec_state.proofs.State.terminate.Goals as goal

pub returns : goal.returns
returns c =
    let a = c.args in
    terminated_is a.self.now a.rig.now a.t c.push.new.self (pushed_one _ _ _ _ c.empty-queue.ensures.0 c.push.ensures) c.leave.new.l c.leave.ensures
