use mathlib.Core.Path.{◌≡◌, refl}
use Prim.Native.Nat.{◌-◌}
use native.Mathlib.Omega.{arith}
use Rattle.exec_queue.specs.Laws.Queued.{entries_none, entries_pop}
use Rattle.exec_queue.proofs.Queue.pop.Goals as goal

pub returns-then-self-eq0 : goal.returns-then-self-eq0
returns-then-self-eq0 c =
    let q = c.args.self.now in
    let e : q.n ≡ 0 = c.if-self-eq0.true in
    (rw e (entries_none q.entries), refl)

pub returns : goal.returns
returns c =
    let q = c.args.self.now in
    (entries_pop q.entries q.n (q.n - 1) (omega arith), omega arith)
