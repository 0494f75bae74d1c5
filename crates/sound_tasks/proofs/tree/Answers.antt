use borrow.Author.Rules.{rules}
use mathlib.Core.Path.{◌≡◌, sym, ◌∙◌}
use borrow.Author.Tests.{not-true, not-false}
use Prim.Native.Nat.{◌+◌}
use native.Mathlib.Omega.{arith}
use Rattle.laws.specs.Laws.All.{all_zero, all_next, all_not}
use Rattle.sound_tables.specs.Exact.{tree_many}
use Rattle.sound_tasks.proofs.tree.Goals as goal

pub loop-t-init : goal.loop-t-init
loop-t-init c = (all_zero _, search rules)

pub bounds-states-controller : goal.bounds-states-controller
bounds-states-controller c = omega (arith, c.requires.0 c.loop-t.t (omega (arith, c.loop-t-test.true)))

pub returns-then-not-tree_ok : goal.returns-then-not-tree_ok
returns-then-not-tree_ok c = sym (all_not _ _ c.loop-t.t (omega (arith, c.loop-t-test.true)) (sym c.tree_ok.ensures ∙ not-true _ c.if-not-tree_ok.true-raw))

pub loop-t-preserved : goal.loop-t-preserved
loop-t-preserved c = (all_next _ _ c.loop-t.invariant.0 (sym c.tree_ok.ensures ∙ not-false _ c.if-not-tree_ok.false-raw), search rules)

pub returns : goal.returns
returns c =
    let a = c.args in
    let w = c.requires.1 in
    let e : c.loop-t.t ≡ a.many + 1 = omega arith in
    sym (rw e at c.loop-t.invariant.0) ∙ tree_many a.controller.now a.states.now a.many w.0 w.1
