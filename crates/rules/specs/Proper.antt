-- PROPER CALLS: "values are 0 or 1". A value comes from a script line or as a truth value, and is no other number.
use Rattle.std.specs.Prelude.{List, [], ◌∷◌, ◌≤◌}
use Rattle.rules.specs.Calls.{Call, schedule, cancel, terminate, finish, tick, wait_until, wait_for, latched, unlatched, signal, read_flag, read_block, write_block, next_waking, read_overruns, why_not}

abbrev pub Proper : Call → Type 0
Proper (schedule t) = Unit {0}
Proper (cancel t) = Unit {0}
Proper (terminate t) = Unit {0}
Proper finish = Unit {0}
Proper (tick buffer) = Unit {0}
Proper (wait_until t) = Unit {0}
Proper (wait_for n) = Unit {0}
Proper (latched f v) = v ≤ 1
Proper (unlatched f v) = v ≤ 1
Proper (signal f v) = v ≤ 1
Proper (read_flag f) = Unit {0}
Proper (read_block k area buffer) = Unit {0}
Proper (write_block k area buffer) = Unit {0}
Proper next_waking = Unit {0}
Proper (read_overruns t) = Unit {0}
Proper (why_not t d) = Unit {0}

-- of every call of a run
abbrev pub ProperRun : List Call → Type 0
ProperRun [] = Unit {0}
ProperRun (k ∷ ks) = Proper k × ProperRun ks
