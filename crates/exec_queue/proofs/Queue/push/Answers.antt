use native.Mathlib.Omega.{arith}
use Rattle.exec_queue.specs.Laws.Queued.{entries_push}
use borrow.Author.Rules.{rules}
use Rattle.exec_queue.proofs.Queue.push.Goals as goal

pub returns-then-f-ne0 : goal.returns-then-f-ne0
returns-then-f-ne0 c =
    let q = c.args.self.now in
    record { is = entries_push q.entries q.n c.args.f c.args.v (search rules) c.if-f-ne0.true; more = omega arith }
