-- Each link lowers d; a task asks the conditions of its own level.
use Rattle.std.proofs.Common.{◌+◌}
use Rattle.exec_starting.proofs.+conditions_within_tasks_within.Given as goal

abbrev pub decreases-conditions_within : goal.decreases-conditions_within
decreases-conditions_within l = l.d + l.d

abbrev pub decreases-tasks_within : goal.decreases-tasks_within
decreases-tasks_within l = l.d + l.d + 1
