use Rattle.exec_state.specs.Laws.Effects.{cancelled_is}
use Rattle.exec_state.proofs.State.cancel.Goals as goal

pub returns : goal.returns
returns c =
    let a = c.args in
    cancelled_is a.self.now a.rig.now a.t c.family-marks.result c.family-marks.ensures c.of_offs-queue.result c.of_offs-queue.ensures c.desert.new.l c.desert.ensures c.uninvoke.new.state c.uninvoke.ensures
