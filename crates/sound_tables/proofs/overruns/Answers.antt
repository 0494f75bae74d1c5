use borrow.Author.Rules.{rules}
use mathlib.Core.Path.{◌≡◌}
use native.Mathlib.Omega.{arith}
use Rattle.sound_tables.specs.Passes.{joined_none, joined_next, joined_all}
use Rattle.sound_tables.proofs.overruns.Goals as goal

pub loop-i-init : goal.loop-i-init
loop-i-init c = (joined_none c.args.numbers.now c.after-i.result, (omega arith, c.after-i.ensures.inside))

pub loop-i-preserved : goal.loop-i-preserved
loop-i-preserved c =
    let d = c.loop-i in
    (joined_next c.args.numbers.now c.after-i.result d.faults d.i d.invariant.1.0 d.invariant.0, search rules)

pub returns-clause-test : goal.returns-clause-test
returns-clause-test c =
    let d = c.loop-i in
    let e : d.i ≡ 65 = omega arith in
    joined_all c.args.numbers.now c.args.many c.after-i.result d.faults c.after-i.ensures (rw e at d.invariant.0)
