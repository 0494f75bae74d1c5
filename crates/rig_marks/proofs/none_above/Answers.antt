use mathlib.Core.Path.{sym, ◌∙◌}
use borrow.Author.Tests.{not-true, not-false}
use Rattle.rig_held.specs.Laws.Rules.{every_none, every_on, every_not, every_all}
use Rattle.rig_marks.proofs.none_above.Goals as goal

pub loop-line-init : goal.loop-line-init
loop-line-init c = every_none _

pub returns-then-not-line_under : goal.returns-then-not-line_under
returns-then-not-line_under c = sym (every_not _ _ _ _ c.loop-line-test.true (sym c.line_under.ensures ∙ not-true _ c.if-not-line_under.true-raw))

pub loop-line-preserved : goal.loop-line-preserved
loop-line-preserved c = every_on _ _ _ _ c.loop-line-test.true c.loop-line.invariant (sym c.line_under.ensures ∙ not-false _ c.if-not-line_under.false-raw)

pub returns : goal.returns
returns c = sym (every_all _ _ _ c.loop-line-test.false c.loop-line.invariant)
