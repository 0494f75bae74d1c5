use borrow.Author.Rules.{rules}
use mathlib.Core.Path.{◌≡◌, sym, ◌∙◌}
use borrow.Author.Tests.{not-true, not-false}
use Prim.Native.Nat.{◌+◌}
use native.Mathlib.Omega.{arith}
use Rattle.laws.specs.Laws.All.{all_zero, all_next, all_not}
use Rattle.sound_tables.specs.Exact.{flags_many}
use Rattle.sound_tasks.proofs.flags.Goals as goal

pub loop-t-init : goal.loop-t-init
loop-t-init c = (all_zero _, search rules)

pub bounds-values-activation : goal.bounds-values-activation
bounds-values-activation c = omega (arith, c.requires.0 c.loop-t.t (omega (arith, c.loop-t-test.true)))

pub returns-then-not-flag_ok : goal.returns-then-not-flag_ok
returns-then-not-flag_ok c = sym (all_not _ _ c.loop-t.t (omega (arith, c.loop-t-test.true)) (sym c.flag_ok.ensures ∙ not-true _ c.if-not-flag_ok.true-raw))

pub loop-t-preserved : goal.loop-t-preserved
loop-t-preserved c = (all_next _ _ c.loop-t.invariant.0 (sym c.flag_ok.ensures ∙ not-false _ c.if-not-flag_ok.false-raw), search rules)

pub returns : goal.returns
returns c =
    let a = c.args in
    let w = c.requires.1 in
    let e : c.loop-t.t ≡ a.many + 1 = omega arith in
    sym (rw e at c.loop-t.invariant.0) ∙ flags_many a.activation.now a.states.now a.values.now a.many w.0 w.1
