use Rattle.laws.specs.All.{Passed}
use Rattle.start_tests.specs.Tables.{clear_at}
use Rattle.start_tests.proofs.clear.Given as goal

abbrev pub invariant-loop-x : goal.invariant-loop-x
invariant-loop-x l = Passed l.bad l.x-index (clear_at l.table l.t)
