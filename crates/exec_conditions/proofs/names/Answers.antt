use mathlib.Core.Path.{◌≡◌, sym, ◌∙◌}
use native.Mathlib.Omega.{arith}
use Rattle.laws.specs.Laws.Any.{any_zero, any_next, any_at}
use Rattle.rules.specs.Conditions.{names}
use Rattle.exec_conditions.proofs.names.Goals as goal

pub loop-k-init : goal.loop-k-init
loop-k-init c = any_zero _

pub returns-then-both : goal.returns-then-both
unfolding names
returns-then-both c =
    let d = c in
    sym (any_at _ _ d.loop-k.k c.loop-k-test.true (sym c.both.ensures ∙ c.if-both.true))

pub loop-k-preserved : goal.loop-k-preserved
loop-k-preserved c =
    let d = c in
    any_next _ _ d.loop-k.invariant (sym c.both.ensures ∙ c.if-both.false)

pub returns : goal.returns
unfolding names
returns c =
    let e : c.loop-k.k ≡ c.args.rig.now.lines = omega arith in
    sym (rw e at c.loop-k.invariant)
