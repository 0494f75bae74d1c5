use Rattle.std.proofs.Common.{◌≤◌}
use Rattle.rig_times.proofs.read_times.Given as goal

abbrev pub invariant-loop : goal.invariant-loop
invariant-loop l = l.n ≤ l.counter
