use Rattle.rig_marks.specs.Laws.Marks.{Counted}
use Rattle.rig_marks.proofs.flag_counts.Given as goal

abbrev pub invariant-loop-line : goal.invariant-loop-line
invariant-loop-line l = Counted l.lines l.many l.line-index
