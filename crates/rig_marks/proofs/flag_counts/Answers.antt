use borrow.Author.Rules.{rules}
use mathlib.Core.Path.{refl}
use Rattle.std.specs.Prelude.{◌<◌, [], get_or}
use Rattle.laws.specs.Laws.Tables.{zeros_at}
use Rattle.rig_lines.specs.declared.Kind.TheVariants.{Rig, Flag}
use Rattle.rig_lines.specs.Laws.Kind.{same_yes, same_no}
use Rattle.rig_marks.specs.Laws.Marks.{counted_none, counted_on, counted_skip, counted_room, counted_all}
use Rattle.rig_marks.proofs.flag_counts.Goals as goal
use Rattle.rig_marks.proofs.flag_counts.Goals.{else-eq, then-eq}

pub loop-line-init : goal.loop-line-init
loop-line-init c = counted_none _ _ refl (zeros_at 256)

pub overflow_add-many : goal.overflow_add-many
overflow_add-many c =
    let z : get_or (get_or c.args.lines.now c.loop-line.line-index record { kind = Rig; numbers = [] }).numbers 0 0 < 256 = search rules in
    let r = counted_room _ _ _ c.loop-line.invariant _ z in
    let t = c.loop-line-test.true in
    search rules

pub loop-line-preserved : goal.loop-line-preserved
loop-line-preserved c =
    elim c.if-eq.branch [
      | then-eq v ↦ counted_on _ _ _ c.loop-line.invariant _ c.loop-line-test.true (same_yes _ Flag _ c.eq.ensures v.if-eq.true) _ refl _ v.many-is
      | else-eq v ↦ rw v.many-is (counted_skip _ _ _ c.loop-line.invariant _ c.loop-line-test.true (same_no _ Flag _ c.eq.ensures v.if-eq.false))
    ]

pub returns : goal.returns
returns c = counted_all _ _ _ c.loop-line.invariant c.loop-line-test.false
