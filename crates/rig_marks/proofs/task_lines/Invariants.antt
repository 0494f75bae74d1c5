use Rattle.rig_marks.specs.Laws.Marks.{Marked}
use Rattle.rig_marks.proofs.task_lines.Given as goal

abbrev pub invariant-loop-line : goal.invariant-loop-line
invariant-loop-line l = Marked l.lines l.has l.line-index
