use mathlib.Core.Path.{◌≡◌, subst}
use Prim.Native.Nat.{ℕ, ◌+◌, ◌-◌}
use native.Mathlib.Omega.{arith}
use lib.ListN.{set}
use Rattle.exec_overruns.specs.Laws.Counting.{Counting, counting_start, counting_next, counting_done}
use Rattle.exec_overruns.proofs.count.Goals as goal

pub loop-t-init : goal.loop-t-init
loop-t-init c = counting_start _ _ _

pub loop-t-preserved : goal.loop-t-preserved
loop-t-preserved c =
    let l = c.loop-t in
    let a = c.args in
    let e : l.t - 1 + 1 ≡ l.t = omega arith in
    let f : l.t + 1 - 1 ≡ l.t = omega arith in
    rw f
    (subst (λ (k : ℕ). Counting a.named.now a.state.now a.overruns.now (set l.overruns k c.more.result) k) e
    (counting_next a.named.now a.state.now a.overruns.now l.overruns (l.t - 1) (omega arith) l.invariant
    c.struck.result (rw e c.struck.ensures) c.more.result (rw e c.more.ensures)))

pub returns : goal.returns
returns c =
    let a = c.args in
    counting_done a.named.now a.state.now a.overruns.now c.loop-t.overruns (c.loop-t.t - 1) c.loop-t.invariant (omega arith)
