use Rattle.exec_waiting.specs.Laws.Waiting.{waits_until}
use Rattle.exec_waiting.proofs.wait_until.Goals as goal

pub returns : goal.returns
returns c =
    let a = c.args in
    waits_until a.st.now c.requires a.count c.place.new.l c.place.ensures
