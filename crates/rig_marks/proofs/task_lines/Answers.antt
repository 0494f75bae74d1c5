use mathlib.Core.Path.{refl}
use Rattle.laws.specs.Laws.Tables.{zeros_at}
use Rattle.rig_lines.specs.declared.Kind.TheVariants.{Task}
use Rattle.rig_lines.specs.Laws.Kind.{same_yes, same_no}
use Rattle.rig_marks.specs.Laws.Marks.{marked_none, marked_on, marked_skip, marked_all}
use Rattle.rig_marks.proofs.task_lines.Goals as goal
use Rattle.rig_marks.proofs.task_lines.Goals.{else-eq, then-eq}

pub loop-line-init : goal.loop-line-init
loop-line-init c = marked_none _ _ refl (zeros_at 256)

pub loop-line-preserved : goal.loop-line-preserved
loop-line-preserved c =
    elim c.if-eq.branch [
      | then-eq v ↦ marked_on _ _ _ c.loop-line.invariant _ c.loop-line-test.true (same_yes _ Task _ c.eq.ensures v.if-eq.true) _ refl _ v.has-is
      | else-eq v ↦ rw v.has-is (marked_skip _ _ _ c.loop-line.invariant _ c.loop-line-test.true (same_no _ Task _ c.eq.ensures v.if-eq.false))
    ]

pub returns : goal.returns
returns c = marked_all _ _ _ c.loop-line.invariant c.loop-line-test.false
