use Rattle.exec_waiting.specs.Laws.Waiting.{waits_on}
use Rattle.exec_waiting.proofs.wait_on.Goals as goal

pub returns : goal.returns
returns c =
    let a = c.args in
    waits_on a.st.now c.requires.may_wait a.f a.v c.requires.flag_ok c.append.new.l c.append.ensures
