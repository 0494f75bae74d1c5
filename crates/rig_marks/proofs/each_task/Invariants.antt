use Rattle.std.specs.Prelude.{◌≡◌, true}
use Rattle.laws.specs.All.{all}
use Rattle.rig_marks.specs.Marks.{marked_one}
use Rattle.rig_marks.proofs.each_task.Given as goal

abbrev pub invariant-loop-i : goal.invariant-loop-i
invariant-loop-i l = all l.i (marked_one l.has) ≡ true
