use borrow.Author.Tests.{eq-eqb, ne_eqb}
use Rattle.exec_queue.specs.Laws.Queued.{active_is}
use Rattle.exec_queue.proofs.struck.Goals as goal

pub returns-then-mark-eq1 : goal.returns-then-mark-eq1
returns-then-mark-eq1 c = simp (eq-eqb _ _ c.if-mark-eq1.true) (active_is c.args.state)

pub returns-else-mark-eq1 : goal.returns-else-mark-eq1
returns-else-mark-eq1 c = simp (ne_eqb _ _ c.if-mark-eq1.false)
