use mathlib.Core.Path.{sym}
use borrow.Author.Tests.{le-leb, lt-leb}
use Rattle.laws.specs.Laws.All.{all_zero, all_next, all_not}
use Rattle.rig_marks.proofs.few_flags.Goals as goal

pub loop-c-init : goal.loop-c-init
loop-c-init c = all_zero _

pub returns-then-many-c-gt15 : goal.returns-then-many-c-gt15
returns-then-many-c-gt15 c = sym (all_not _ _ _ c.loop-c-test.true (lt-leb _ _ c.if-many-c-gt15.true))

pub loop-c-preserved : goal.loop-c-preserved
loop-c-preserved c = all_next _ _ c.loop-c.invariant (le-leb _ _ c.if-many-c-gt15.false)
