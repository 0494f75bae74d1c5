use Rattle.exec_testing.specs.Laws.Testing.{scheduled_is}
use Rattle.exec_testing.proofs.scheduled.Goals as goal

pub returns : goal.returns
returns c =
    let a = c.args in
    let x = c.relax in
    scheduled_is a.st.now a.rig.now a.t x.new.cond x.ensures (record { st = c.tested.new.st; queue = c.tested.result }) c.tested.ensures
