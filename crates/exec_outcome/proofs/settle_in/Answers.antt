use Rattle.exec_serving.specs.Done.{done_with}
use Rattle.exec_outcome.specs.Laws.Settling.{settled_low, settled_is}
use Rattle.exec_outcome.proofs.settle_in.Goals as goal

pub dispatch-requires : goal.dispatch-requires
dispatch-requires c =
    let a = c.args in
    let d = c.serve-d in
    settled_low a.rig.now a.cycle.now (record { st = a.st.now; queue = a.queue }) (done_with d.new.st d.result) (d.ensures a.rig.now) c.requires

pub returns : goal.returns
returns c =
    let a = c.args in
    let d = c.serve-d in
    settled_is a.rig.now a.cycle.now (record { st = a.st.now; queue = a.queue }) (done_with d.new.st d.result) (d.ensures a.rig.now) c.dispatch.new.self c.dispatch.ensures
