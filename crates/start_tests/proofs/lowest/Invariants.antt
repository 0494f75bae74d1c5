use mathlib.Core.Path.{◌≡◌}
use mathlib.Core.Bool.{true}
use Rattle.laws.specs.All.{all}
use Rattle.start_tests.specs.Tables.{clear_at}
use Rattle.start_tests.proofs.lowest.Given as goal

abbrev pub invariant-loop-p : goal.invariant-loop-p
invariant-loop-p l = all l.p (clear_at l.table l.t) ≡ true
