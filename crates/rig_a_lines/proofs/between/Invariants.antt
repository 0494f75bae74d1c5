use Rattle.laws.specs.All.{Passed}
use Rattle.rig_a_lines.specs.Laws.Passes.{between_one}
use Rattle.rig_a_lines.proofs.between.Given as goal

abbrev pub invariant-loop-x : goal.invariant-loop-x
invariant-loop-x l = Passed l.bad l.x-index (between_one l.low l.high l.table)
