use borrow.Author.Rules.{rules}
use mathlib.Core.Path.{sym}
use borrow.Author.Tests.{eq-eqb, ne_eqb}
use Rattle.laws.specs.Laws.All.{all_zero, all_next, all_not}
use Rattle.rig_marks.proofs.each_task.Goals as goal

pub loop-i-init : goal.loop-i-init
loop-i-init c = all_zero _

pub returns-then-has-i-ne1 : goal.returns-then-has-i-ne1
returns-then-has-i-ne1 c = (sym (all_not _ _ _ c.loop-i-test.true (ne_eqb _ _ c.if-has-i-ne1.true)), search rules)

pub loop-i-preserved : goal.loop-i-preserved
loop-i-preserved c = all_next _ _ c.loop-i.invariant (eq-eqb _ _ c.if-has-i-ne1.false)
