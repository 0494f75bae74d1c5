use mathlib.Core.Path.{◌≡◌}
use native.Mathlib.Omega.{arith}
use Rattle.chains.specs.Laws.Held.{selves_start, selves_empty}
use Rattle.chains.proofs.fresh.Goals as goal

pub loop-i-init : goal.loop-i-init
loop-i-init c = (omega arith, selves_start, selves_start)

pub returns : goal.returns
returns c =
    let l = c.loop-i in
    let e : l.i ≡ 322 = omega arith in
    selves_empty l.next l.prev (rw e at l.invariant.1) (rw e at l.invariant.2)
