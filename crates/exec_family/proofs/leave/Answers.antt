use Rattle.exec_family.specs.Laws.Leaving.{left_idle, left_unlinked}
use Rattle.exec_family.proofs.leave.Goals as goal

pub returns-then-l-t-ne0 : goal.returns-then-l-t-ne0
returns-then-l-t-ne0 c =
    let a = c.args in
    left_unlinked a.l.now c.requires.holds_chains a.t c.unlink.new.l c.unlink.ensures

pub returns-else-l-t-ne0 : goal.returns-else-l-t-ne0
returns-else-l-t-ne0 c =
    let a = c.args in
    left_idle a.l.now c.requires.holds_chains a.t c.if-l-t-ne0.false
