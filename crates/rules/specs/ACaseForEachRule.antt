-- A CASE FOR EACH RULE that a wrong version could drop: a script, with what is seen after each call. One table, one
-- statement. (The name puts this file first: a wrong rule is refused here, before the text of some proof no longer fits.)
use Rattle.std.specs.Prelude.{◌≡◌, refl, List, [], ◌∷◌, ◌++◌, ℕ, zero, suc, replicate, take}
use Rattle.laws.specs.Iter.{iter}
use Rattle.laws.specs.All.{all}
use Rattle.laws.specs.Any.{any}
use Rattle.laws.specs.Tables.{total, over}
use Rattle.laws.specs.Put.{put}
use Rattle.word_parts.specs.Packed.{command_word}
use Rattle.rules.specs.Rig.{Rig, in_cycle, is_minor, is_activation}
use Rattle.rules.specs.State.{with_overruns, blank}
use Rattle.rules.specs.Conditions.{relax, met, drive, names}
use Rattle.rules.specs.Serving.{activate, too_soon, most_overruns, more_by_one, overrun, takes, rouse, wake, ready, offer, offers, serve_flag, made, serving, serve}
use Rattle.rules.specs.Waiting.{wait_on, wait_until_count, leave, wake_due}
use Rattle.rules.specs.Family.{family, cleared, deserted, offs}
use Rattle.rules.specs.Running.{best, chosen, dispatch}
use Rattle.rules.specs.Bus.{written, copied, row_words, bus_words}
use Rattle.rules.specs.NextWaking.{lowest_waking}
use Rattle.rules.specs.Calls.{schedule, cancel, terminate, finish, tick, wait_until, wait_for, latched, unlatched, signal, read_flag, read_block, write_block, next_waking, read_overruns}
use Rattle.rules.specs.Calls.{scheduled, finished, terminated, cancelled, cycle_queue, ticked, effect, decide, no_such_one, last_count, wrong_block, refusals, refusal, words_at, lent, output, tested, ended, again, settled, accepted, after, step, run, started, start}
use Rattle.rules.specs.Overruns.{serving_events, serve_events, again_events, scheduling_of, accepted_events, events_if, events_from, start_events, events_of, overruns_counted}
use Rattle.rules.specs.Scripts.{TaskLine, MinorLine, T, C, A, M, B, of_task, of_condition, numbers, of_line, of_cycle, rig, tick₀, start_at, seen, Case, shown, Holds, case, case_at, bench, morning_calls}
use Rattle.rules.specs.Scripts.{runs, answers, serves, hears, writes, reads, lends, sends, state_is, condition_is, value_is, overruns_is, wait_flag, wait_time, ◌and◌}

-- ---- rigs that several cases use

-- one task, two flags, one row of 2 words
lone : Rig
lone = rig 1 2 1 (T 1 0 10 0 0 ∷ []) [] [] [] (B 1 5 7 2 2 1 0 ∷ [])

-- two tasks with no conditions, the second of higher priority
pair : Rig
pair = rig 2 4 1 (T 1 0 10 0 0 ∷ T 2 1 20 0 0 ∷ []) [] [] [] []

-- task 1 and three tasks of equal, higher priority
quad : Rig
quad = rig 4 4 1 (T 1 0 10 0 0 ∷ T 2 1 20 0 0 ∷ T 3 1 20 0 0 ∷ T 4 1 20 0 0 ∷ []) [] [] [] []

-- each task controls the next
line : Rig
line = rig 3 4 1 (T 1 0 10 0 0 ∷ T 2 1 20 0 0 ∷ T 3 2 30 0 0 ∷ []) [] [] [] []

-- task 2 has a latched condition on flag 1
remembering : Rig
remembering = rig 2 4 1 (T 1 0 10 0 0 ∷ T 2 1 20 0 0 ∷ []) (C 2 0 1 1 ∷ []) (A 2 0 1 ∷ []) [] []

-- task 2 has an unlatched condition on flag 1
forgetting : Rig
forgetting = rig 2 4 1 (T 1 0 10 0 0 ∷ T 2 1 20 0 0 ∷ []) (C 2 0 0 1 ∷ []) (A 2 0 1 ∷ []) [] []

-- task 2, of a given priority, has unlatched conditions on flags 1 and 2
asking : ℕ → Rig
asking priority =
    rig 2 4 1 (T 1 0 10 0 0 ∷ T 2 1 priority 0 0 ∷ []) (C 2 0 0 1 ∷ C 2 1 0 1 ∷ []) (A 2 0 1 ∷ A 2 1 2 ∷ []) [] []

-- two rows, of 2 and of 3 words
rows : Rig
rows = rig 1 1 1 (T 1 0 10 0 0 ∷ []) [] [] [] (B 1 5 7 2 2 1 0 ∷ B 1 5 7 2 3 1 0 ∷ [])

-- ---- THE FAULT that started the project

-- A task that is stopped and started again within one call. Task 2's condition asks that its own activation flag 3 be off:
-- terminated, it is activated again by its own off. Task 3 waits for the off, task 4 for the next on. At the end flag 3 is
-- on, and both are awake.
pub stopped_and_started : Case
stopped_and_started =
    case (rig 4 4 1 (T 1 0 10 0 0 ∷ T 2 1 5 0 3 ∷ T 3 1 30 0 0 ∷ T 4 1 20 0 0 ∷ []) (C 2 0 1 0 ∷ []) (A 2 0 3 ∷ []) [] [])
    (schedule 2 ∷ schedule 3 ∷ unlatched 3 0 ∷ schedule 4 ∷ unlatched 3 1 ∷ terminate 2 ∷ [])
    (serves and value_is 3 and state_is 2 and state_is 3 and state_is 4 and runs)
    (
    1 ∷ 1 ∷ 3 ∷ 0 ∷ 0 ∷ 1 ∷
    0 ∷ 1 ∷ 3 ∷ 3 ∷ 0 ∷ 3 ∷
    0 ∷ 1 ∷ 3 ∷ 2 ∷ 0 ∷ 1 ∷
    0 ∷ 1 ∷ 3 ∷ 2 ∷ 3 ∷ 4 ∷
    0 ∷ 1 ∷ 3 ∷ 2 ∷ 2 ∷ 1 ∷
    2 ∷ 1 ∷ 3 ∷ 3 ∷ 3 ∷ 3 ∷ []
    )

-- L3: the same of a task with no conditions, which is tested again once its off is served. Its off wakes task 3, its on task 4; seen also: woken,
-- activated. That it is activated by the test, not by a service, is not counted
pub stopped_and_started_by_the_test : Case
stopped_and_started_by_the_test =
    case (rig 4 4 1 (T 1 0 10 0 0 ∷ T 2 1 5 0 3 ∷ T 3 1 30 0 0 ∷ T 4 1 20 0 0 ∷ []) [] [] [] [])
    (schedule 2 ∷ schedule 3 ∷ unlatched 3 0 ∷ schedule 4 ∷ unlatched 3 1 ∷ terminate 2 ∷ [])
    (serves and hears and value_is 3 and state_is 2 and state_is 3 and state_is 4 and runs)
    (
    1 ∷ 0 ∷ 0 ∷ 1 ∷ 3 ∷ 0 ∷ 0 ∷ 1 ∷
    0 ∷ 0 ∷ 0 ∷ 1 ∷ 3 ∷ 3 ∷ 0 ∷ 3 ∷
    0 ∷ 0 ∷ 0 ∷ 1 ∷ 3 ∷ 2 ∷ 0 ∷ 1 ∷
    0 ∷ 0 ∷ 0 ∷ 1 ∷ 3 ∷ 2 ∷ 3 ∷ 4 ∷
    0 ∷ 0 ∷ 0 ∷ 1 ∷ 3 ∷ 2 ∷ 2 ∷ 1 ∷
    2 ∷ 2 ∷ 0 ∷ 1 ∷ 3 ∷ 3 ∷ 3 ∷ 3 ∷ []
    )

-- ---- "Slips seen on benches"

-- "32 put unreduced into the count field spills: 14432 for 14400."; and "words past those written stay"
pub thirty_two_is_written_as_zero : Case
thirty_two_is_written_as_zero =
    case bench
    (tick (replicate 130 9) ∷ tick (replicate 130 9) ∷ [])
    lends
    (replicate 130 9 ++ 14400 ∷ replicate 129 9)

-- "An equal-priority task that wakes takes the processor.": task 2 wakes, and task 3 goes on
pub equal_rank_takes_nothing : Case
equal_rank_takes_nothing =
    case quad
    (schedule 2 ∷ wait_for 1 ∷ schedule 3 ∷ tick₀ ∷ [])
    runs
    (2 ∷ 1 ∷ 3 ∷ 3 ∷ [])

-- "The phase is compared with the count before the tick.": period 2, phase 0
pub phase_against_the_count_after_the_tick : Case
phase_against_the_count_after_the_tick =
    case bench
    (tick₀ ∷ tick₀ ∷ tick₀ ∷ tick₀ ∷ [])
    writes
    (0 ∷ 1 ∷ 0 ∷ 1 ∷ [])

-- "Cancel clears the named task and leaves a descendant linked.": task 2 waits for a count, its task 3 on flag 1 behind task
-- 4, who is none of theirs; seen: flag 1's chain, the time chain, states of 2 and 3, who runs
pub cancel_strikes_every_descendant : Case
cancel_strikes_every_descendant =
    case (rig 4 4 1 (T 1 0 10 0 0 ∷ T 2 1 20 0 0 ∷ T 3 2 30 0 0 ∷ T 4 1 40 0 0 ∷ []) [] [] [] [])
    (schedule 4 ∷ unlatched 1 1 ∷ schedule 2 ∷ schedule 3 ∷ unlatched 1 1 ∷ wait_until 5 ∷ cancel 2 ∷ signal 1 1 ∷ [])
    (wait_flag 1 1 and wait_time and state_is 2 and state_is 3 and runs)
    (
    0 ∷ 0 ∷ 0 ∷ 0 ∷ 4 ∷
    4 ∷ 0 ∷ 0 ∷ 0 ∷ 0 ∷ 1 ∷
    4 ∷ 0 ∷ 0 ∷ 3 ∷ 0 ∷ 2 ∷
    4 ∷ 0 ∷ 0 ∷ 3 ∷ 3 ∷ 3 ∷
    4 ∷ 3 ∷ 0 ∷ 0 ∷ 3 ∷ 2 ∷ 2 ∷
    4 ∷ 3 ∷ 0 ∷ 2 ∷ 0 ∷ 2 ∷ 2 ∷ 1 ∷
    4 ∷ 0 ∷ 0 ∷ 0 ∷ 0 ∷ 1 ∷
    0 ∷ 0 ∷ 0 ∷ 0 ∷ 4 ∷ []
    )

-- all of them, not the children alone: each controls the next
pub cancel_strikes_grandchildren : Case
cancel_strikes_grandchildren =
    case (rig 4 4 1 (T 1 0 10 0 0 ∷ T 2 1 20 0 0 ∷ T 3 2 30 0 0 ∷ T 4 3 40 0 0 ∷ []) [] [] [] [])
    (schedule 2 ∷ schedule 3 ∷ schedule 4 ∷ unlatched 1 1 ∷ unlatched 1 1 ∷ unlatched 1 1 ∷ cancel 2 ∷ [])
    (wait_flag 1 1 and state_is 2 and state_is 3 and state_is 4)
    (
    0 ∷ 3 ∷ 0 ∷ 0 ∷
    0 ∷ 3 ∷ 3 ∷ 0 ∷
    0 ∷ 3 ∷ 3 ∷ 3 ∷
    4 ∷ 0 ∷ 3 ∷ 3 ∷ 2 ∷
    4 ∷ 3 ∷ 0 ∷ 3 ∷ 2 ∷ 2 ∷
    4 ∷ 3 ∷ 2 ∷ 0 ∷ 2 ∷ 2 ∷ 2 ∷
    0 ∷ 0 ∷ 0 ∷ 0 ∷ []
    )

-- "An unlatched wait is satisfied by the value already there."; and a service that changes nothing still wakes
pub unlatched_waits_for_the_next_service : Case
unlatched_waits_for_the_next_service =
    case pair
    (schedule 2 ∷ signal 1 1 ∷ unlatched 1 1 ∷ signal 1 1 ∷ [])
    runs
    (2 ∷ 2 ∷ 1 ∷ 2 ∷ [])

-- ---- Tasks and flags

-- "every condition with that flag takes it, whatever its task's state": here its task is uninvoked
pub latched_conditions_remember : Case
latched_conditions_remember =
    case remembering
    (signal 1 1 ∷ schedule 2 ∷ [])
    runs
    (1 ∷ 2 ∷ [])

-- the same while its task is dispatchable: task 2 signals its own condition off, and is not activated when scheduled anew
pub conditions_are_driven_while_the_task_runs : Case
conditions_are_driven_while_the_task_runs =
    case remembering
    (signal 1 1 ∷ schedule 2 ∷ signal 1 0 ∷ finish ∷ cancel 2 ∷ schedule 2 ∷ [])
    runs
    (1 ∷ 2 ∷ 2 ∷ 1 ∷ 1 ∷ 1 ∷ [])

-- and while it waits
pub conditions_are_driven_while_the_task_waits : Case
conditions_are_driven_while_the_task_waits =
    case remembering
    (signal 1 1 ∷ schedule 2 ∷ wait_for 5 ∷ signal 1 0 ∷ terminate 2 ∷ cancel 2 ∷ schedule 2 ∷ [])
    (state_is 2 and condition_is 2 0)
    (0 ∷ 1 ∷ 3 ∷ 1 ∷ 2 ∷ 1 ∷ 2 ∷ 0 ∷ 1 ∷ 0 ∷ 0 ∷ 0 ∷ 1 ∷ 0 ∷ [])

-- "Schedule: unlatched conditions take the undesired value"
pub schedule_relaxes : Case
schedule_relaxes =
    case forgetting
    (signal 1 1 ∷ schedule 2 ∷ signal 1 1 ∷ [])
    runs
    (1 ∷ 1 ∷ 2 ∷ [])

-- undesired is 1 minus desired: a condition that desires off takes on
pub undesired_of_off_is_on : Case
undesired_of_off_is_on =
    case (rig 2 4 1 (T 1 0 10 0 0 ∷ T 2 1 20 0 0 ∷ []) (C 2 0 0 0 ∷ []) (A 2 0 1 ∷ []) [] [])
    (schedule 2 ∷ signal 1 0 ∷ [])
    runs
    (1 ∷ 2 ∷ [])

-- "at positions 0 to 15": the last position is relaxed and tested like the others
pub position_fifteen_counts : Case
position_fifteen_counts =
    case (rig 2 4 1 (T 1 0 10 0 0 ∷ T 2 1 20 0 0 ∷ []) (C 2 15 0 1 ∷ []) (A 2 15 1 ∷ []) [] [])
    (signal 1 1 ∷ schedule 2 ∷ signal 1 1 ∷ [])
    runs
    (1 ∷ 1 ∷ 2 ∷ [])

-- where there is no C line there is no condition, and nothing is stored; seen: conditions 0 and 1 of task 2
pub no_line_no_condition : Case
no_line_no_condition =
    case forgetting
    (schedule 2 ∷ signal 1 1 ∷ [])
    (condition_is 2 0 and condition_is 2 1)
    (0 ∷ 0 ∷ 0 ∷ 0 ∷ [])

-- "Activate: .. unlatched conditions undesired again": the second time flag 2 alone is not enough
pub activation_relaxes : Case
activation_relaxes =
    case (rig 2 4 1 (T 1 0 10 0 0 ∷ T 2 1 20 0 0 ∷ []) (C 2 0 0 1 ∷ C 2 1 1 1 ∷ []) (A 2 0 1 ∷ A 2 1 2 ∷ []) [] [])
    (schedule 2 ∷ signal 2 1 ∷ signal 1 1 ∷ finish ∷ signal 2 1 ∷ signal 1 1 ∷ [])
    runs
    (1 ∷ 1 ∷ 2 ∷ 1 ∷ 1 ∷ 2 ∷ [])

-- L3: "After finish and terminate .. that task is tested again": it is not left inactive with its condition as desired; seen: its state, its
-- condition, who runs
pub tested_again_after_finish_and_terminate : Case
tested_again_after_finish_and_terminate =
    case remembering
    (signal 1 1 ∷ schedule 2 ∷ finish ∷ wait_for 1 ∷ terminate 2 ∷ [])
    (state_is 2 and condition_is 2 0 and runs)
    (0 ∷ 1 ∷ 1 ∷ 3 ∷ 1 ∷ 2 ∷ 3 ∷ 1 ∷ 2 ∷ 2 ∷ 1 ∷ 1 ∷ 3 ∷ 1 ∷ 2 ∷ [])

-- "once the queue is empty": task 2 asks that flag 4 be off, task 3 that flag 3 be. Task 2's off activates task 3, whose on comes before the test,
-- so that task 2 stays inactive; task 3's off then activates task 2, whose on comes before the test of task 3; seen: served, flag 3, both
-- states, who runs
pub tested_once_the_queue_is_empty : Case
tested_once_the_queue_is_empty =
    case (rig 3 4 1 (T 1 0 10 0 0 ∷ T 2 1 5 0 3 ∷ T 3 1 30 0 4 ∷ []) (C 2 0 1 0 ∷ C 3 0 1 0 ∷ []) (A 2 0 4 ∷ A 3 0 3 ∷ []) [] [])
    (schedule 2 ∷ schedule 3 ∷ terminate 2 ∷ finish ∷ [])
    (serves and value_is 3 and state_is 2 and state_is 3 and runs)
    (
    1 ∷ 1 ∷ 3 ∷ 0 ∷ 1 ∷
    0 ∷ 1 ∷ 3 ∷ 1 ∷ 1 ∷
    2 ∷ 0 ∷ 1 ∷ 3 ∷ 3 ∷
    2 ∷ 1 ∷ 3 ∷ 1 ∷ 1 ∷ []
    )

-- "if it is still inactive": task 2 asks that flag 4 be on, task 3 that flag 3 be off. Task 2's off activates task 3, whose on activates task 2; its
-- condition is as desired at the test, but it is active, and its on is served once; seen: served, woken, activated, both states
pub active_already_at_the_test : Case
active_already_at_the_test =
    case (rig 3 4 1 (T 1 0 10 0 0 ∷ T 2 1 5 0 3 ∷ T 3 1 5 0 4 ∷ []) (C 2 0 1 1 ∷ C 3 0 1 0 ∷ []) (A 2 0 4 ∷ A 3 0 3 ∷ []) [] [])
    (schedule 3 ∷ schedule 2 ∷ terminate 3 ∷ terminate 2 ∷ [])
    (serves and hears and state_is 2 and state_is 3)
    (
    1 ∷ 0 ∷ 0 ∷ 0 ∷ 3 ∷
    1 ∷ 0 ∷ 0 ∷ 3 ∷ 3 ∷
    1 ∷ 0 ∷ 0 ∷ 3 ∷ 1 ∷
    3 ∷ 0 ∷ 2 ∷ 3 ∷ 3 ∷ []
    )

-- "its flag is then served on": that on activates task 3, and is counted
pub the_test_is_served_on : Case
the_test_is_served_on =
    case (rig 3 4 1 (T 1 0 10 0 0 ∷ T 2 1 5 0 3 ∷ T 3 1 5 0 0 ∷ []) (C 3 0 0 1 ∷ []) (A 3 0 3 ∷ []) [] [])
    (schedule 2 ∷ schedule 3 ∷ terminate 2 ∷ [])
    (serves and hears and state_is 2 and state_is 3)
    (
    1 ∷ 0 ∷ 0 ∷ 3 ∷ 0 ∷
    0 ∷ 0 ∷ 0 ∷ 3 ∷ 1 ∷
    2 ∷ 0 ∷ 1 ∷ 3 ∷ 3 ∷ []
    )

-- a finish serves one flag more than there are tasks, and no more: task 1's off activates tasks 2 and 3, and it is active again
pub the_most_that_a_finish_serves : Case
the_most_that_a_finish_serves =
    case (rig 3 4 1 (T 1 0 10 0 1 ∷ T 2 1 20 0 2 ∷ T 3 1 20 0 3 ∷ []) (C 2 0 1 0 ∷ C 3 0 1 0 ∷ []) (A 2 0 1 ∷ A 3 0 1 ∷ []) [] [])
    (schedule 2 ∷ schedule 3 ∷ finish ∷ [])
    (serves and state_is 1 and runs)
    (0 ∷ 3 ∷ 1 ∷ 0 ∷ 3 ∷ 1 ∷ 4 ∷ 3 ∷ 2 ∷ [])

-- a terminate as many as there are tasks, since its caller is one of them
pub the_most_that_a_terminate_serves : Case
the_most_that_a_terminate_serves =
    case (rig 3 4 1 (T 1 0 50 0 0 ∷ T 2 1 20 0 2 ∷ T 3 1 20 0 3 ∷ []) (C 3 0 1 0 ∷ []) (A 3 0 2 ∷ []) [] [])
    (schedule 2 ∷ schedule 3 ∷ terminate 2 ∷ [])
    (serves and state_is 2 and state_is 3)
    (1 ∷ 3 ∷ 0 ∷ 0 ∷ 3 ∷ 1 ∷ 3 ∷ 3 ∷ 3 ∷ [])

-- "each inactive task": not one that is active, though its condition stays as desired; its activation flag 3 is not queued
-- again (task 3 is inactive all the while); seen: served, the state of 2
pub who_is_active_is_not_activated : Case
who_is_active_is_not_activated =
    case (rig 3 4 1 (T 1 0 10 0 0 ∷ T 2 1 5 0 3 ∷ T 3 1 5 0 0 ∷ []) (C 2 0 1 1 ∷ C 3 0 1 1 ∷ []) (A 2 0 1 ∷ A 3 0 2 ∷ []) [] [])
    (schedule 3 ∷ schedule 2 ∷ signal 1 1 ∷ signal 1 1 ∷ [])
    (serves and state_is 2)
    (0 ∷ 0 ∷ 0 ∷ 1 ∷ 2 ∷ 3 ∷ 1 ∷ 3 ∷ [])

-- "each inactive task with that flag in a condition": not one whose conditions are as desired, when another flag is served. Task 2 has no
-- conditions; the service of its off does not activate it, the test does, and that is not counted; seen: served, woken, activated, its state
pub only_its_own_flags_activate_a_task : Case
only_its_own_flags_activate_a_task =
    case (rig 2 4 1 (T 1 0 10 0 0 ∷ T 2 1 20 0 3 ∷ []) [] [] [] [])
    (schedule 2 ∷ finish ∷ [])
    (serves and hears and state_is 2)
    (1 ∷ 0 ∷ 0 ∷ 3 ∷ 2 ∷ 0 ∷ 0 ∷ 3 ∷ [])

-- "if all conditions are as desired": one of the two is not enough
pub all_conditions_as_desired : Case
all_conditions_as_desired =
    case (rig 2 4 1 (T 1 0 10 0 0 ∷ T 2 1 20 0 0 ∷ []) (C 2 0 1 1 ∷ C 2 1 1 1 ∷ []) (A 2 0 1 ∷ A 2 1 2 ∷ []) [] [])
    (signal 1 1 ∷ schedule 2 ∷ signal 2 1 ∷ [])
    runs
    (1 ∷ 1 ∷ 2 ∷ [])

-- a condition has the value last served to any of its flags
pub one_condition_of_two_flags : Case
one_condition_of_two_flags =
    case (rig 2 4 1 (T 1 0 10 0 0 ∷ T 2 1 20 0 0 ∷ []) (C 2 0 1 1 ∷ []) (A 2 0 1 ∷ A 2 0 2 ∷ []) [] [])
    (signal 1 1 ∷ signal 2 0 ∷ schedule 2 ∷ signal 2 1 ∷ [])
    runs
    (1 ∷ 1 ∷ 1 ∷ 2 ∷ [])

-- "Finish (the running task): inactive, activation flag queued off."
pub finish_wakes_who_waits_for_the_off : Case
finish_wakes_who_waits_for_the_off =
    case (rig 2 4 1 (T 1 0 10 0 0 ∷ T 2 1 20 0 2 ∷ []) (C 2 0 0 1 ∷ []) (A 2 0 1 ∷ []) [] [])
    (schedule 2 ∷ signal 1 1 ∷ wait_for 1 ∷ unlatched 2 0 ∷ tick₀ ∷ finish ∷ [])
    (runs and state_is 2 and value_is 2)
    (
    1 ∷ 1 ∷ 0 ∷
    2 ∷ 3 ∷ 1 ∷
    1 ∷ 2 ∷ 1 ∷
    0 ∷ 2 ∷ 1 ∷
    2 ∷ 3 ∷ 1 ∷
    1 ∷ 1 ∷ 0 ∷ []
    )

-- .. and nothing else: its conditions stay. Task 2 asks for flags 1 and 2, unlatched. Flag 1 is served while it runs, so that
-- after its finish flag 2 alone activates it; seen: who runs, its conditions
pub finish_leaves_the_conditions : Case
finish_leaves_the_conditions =
    case (asking 20)
    (schedule 2 ∷ signal 1 1 ∷ signal 2 1 ∷ signal 1 1 ∷ finish ∷ signal 2 1 ∷ [])
    (runs and condition_is 2 0 and condition_is 2 1)
    (
    1 ∷ 0 ∷ 0 ∷
    1 ∷ 1 ∷ 0 ∷
    2 ∷ 0 ∷ 0 ∷
    2 ∷ 1 ∷ 0 ∷
    1 ∷ 1 ∷ 0 ∷
    2 ∷ 0 ∷ 0 ∷ []
    )

-- "Terminate: the same for the named active task, taken out of any chain.": task 2; its task 3 waits on
pub terminate_takes_out_of_a_flag_chain : Case
terminate_takes_out_of_a_flag_chain =
    case line
    (schedule 2 ∷ schedule 3 ∷ unlatched 1 1 ∷ unlatched 1 1 ∷ terminate 2 ∷ signal 1 1 ∷ [])
    (wait_flag 1 1 and state_is 2 and state_is 3 and runs)
    (
    0 ∷ 3 ∷ 0 ∷ 2 ∷
    0 ∷ 3 ∷ 3 ∷ 3 ∷
    3 ∷ 0 ∷ 3 ∷ 2 ∷ 2 ∷
    3 ∷ 2 ∷ 0 ∷ 2 ∷ 2 ∷ 1 ∷
    3 ∷ 0 ∷ 3 ∷ 2 ∷ 2 ∷
    0 ∷ 3 ∷ 3 ∷ 3 ∷ []
    )

-- the same of the time chain
pub terminate_takes_out_of_the_time_chain : Case
terminate_takes_out_of_the_time_chain =
    case pair
    (schedule 2 ∷ wait_until 2 ∷ terminate 2 ∷ tick₀ ∷ tick₀ ∷ [])
    (wait_time and state_is 2 and runs)
    (
    0 ∷ 3 ∷ 2 ∷
    2 ∷ 0 ∷ 2 ∷ 1 ∷
    0 ∷ 3 ∷ 2 ∷
    0 ∷ 3 ∷ 2 ∷
    0 ∷ 3 ∷ 2 ∷ []
    )

-- .. and nothing else: its conditions stay, as at a finish; seen: its state, its conditions
pub terminate_leaves_the_conditions : Case
terminate_leaves_the_conditions =
    case (asking 5)
    (schedule 2 ∷ signal 1 1 ∷ signal 2 1 ∷ signal 1 1 ∷ terminate 2 ∷ signal 2 1 ∷ [])
    (state_is 2 and condition_is 2 0 and condition_is 2 1)
    (
    1 ∷ 0 ∷ 0 ∷
    1 ∷ 1 ∷ 0 ∷
    3 ∷ 0 ∷ 0 ∷
    3 ∷ 1 ∷ 0 ∷
    1 ∷ 1 ∷ 0 ∷
    3 ∷ 0 ∷ 0 ∷ []
    )

-- cancel touches no condition: scheduled anew, task 2 is activated by what was served before
pub cancel_touches_no_condition : Case
cancel_touches_no_condition =
    case remembering
    (signal 1 1 ∷ schedule 2 ∷ wait_for 5 ∷ cancel 2 ∷ schedule 2 ∷ [])
    runs
    (1 ∷ 2 ∷ 1 ∷ 1 ∷ 2 ∷ [])

-- nor an unlatched one, also while its task is uninvoked; seen: the state of task 2, its conditions
pub cancel_leaves_unlatched_conditions : Case
cancel_leaves_unlatched_conditions =
    case (asking 5)
    (schedule 2 ∷ signal 1 1 ∷ cancel 2 ∷ signal 2 1 ∷ schedule 2 ∷ [])
    (state_is 2 and condition_is 2 0 and condition_is 2 1)
    (
    1 ∷ 0 ∷ 0 ∷
    1 ∷ 1 ∷ 0 ∷
    0 ∷ 1 ∷ 0 ∷
    0 ∷ 1 ∷ 1 ∷
    1 ∷ 0 ∷ 0 ∷ []
    )

-- "then activation flags of those that were active are queued off": task 3 is inactive; seen: served, flag 2
pub cancel_queues_off_for_the_active_only : Case
cancel_queues_off_for_the_active_only =
    case (rig 3 4 1 (T 1 0 10 0 0 ∷ T 2 1 20 0 2 ∷ T 3 2 5 0 3 ∷ []) (C 3 0 0 1 ∷ []) (A 3 0 1 ∷ []) [] [])
    (schedule 2 ∷ schedule 3 ∷ wait_for 5 ∷ cancel 2 ∷ [])
    (serves and value_is 2)
    (1 ∷ 1 ∷ 0 ∷ 1 ∷ 0 ∷ 1 ∷ 1 ∷ 0 ∷ [])

-- ".. by rising task number", so task 3's off is served before task 2's, and task 4, who asks for 2 off while 3 is on,
-- stays inactive; seen: served, state of 4
pub cancel_serves_the_highest_off_first : Case
cancel_serves_the_highest_off_first =
    case (rig 4 4 1 (T 1 0 10 0 0 ∷ T 2 1 20 0 2 ∷ T 3 2 5 0 3 ∷ T 4 1 1 0 0 ∷ []) (C 4 0 1 0 ∷ C 4 1 1 1 ∷ []) (A 4 0 2 ∷ A 4 1 3 ∷ []) [] [])
    (schedule 2 ∷ schedule 3 ∷ wait_for 5 ∷ schedule 4 ∷ cancel 2 ∷ [])
    (serves and state_is 4)
    (1 ∷ 0 ∷ 1 ∷ 0 ∷ 0 ∷ 0 ∷ 0 ∷ 1 ∷ 2 ∷ 1 ∷ [])

-- ---- Serving

-- "the last queued is taken off first": of a tick's flags 1 and 2 the second; then the activation flag 3 of task 3, whom it
-- activates, so that task 2's condition on 3 is no longer as desired when flag 1 is served
pub last_queued_first : Case
last_queued_first =
    case (rig 3 4 1 (T 1 0 10 0 0 ∷ T 2 1 30 0 0 ∷ T 3 1 20 0 3 ∷ []) (C 2 0 0 1 ∷ C 2 1 1 0 ∷ C 3 0 0 1 ∷ []) (A 2 0 1 ∷ A 2 1 3 ∷ A 3 0 2 ∷ []) (M 1 1 ∷ M 1 2 ∷ []) [])
    (schedule 2 ∷ schedule 3 ∷ tick₀ ∷ [])
    (serves and runs)
    (0 ∷ 1 ∷ 0 ∷ 1 ∷ 3 ∷ 3 ∷ [])

-- "then, by rising number, each inactive task ..": 3 after 2, so 3's activation flag is served before 2's, and task 4, who
-- asks for 2 on while 3 is off, stays inactive; seen: served, states of 2, 3, 4
pub activation_by_rising_number : Case
activation_by_rising_number =
    case (rig 4 4 1 (T 1 0 50 0 0 ∷ T 2 1 10 0 2 ∷ T 3 1 10 0 3 ∷ T 4 1 10 0 0 ∷ []) (C 2 0 0 1 ∷ C 3 0 0 1 ∷ C 4 0 1 1 ∷ C 4 1 1 0 ∷ []) (A 2 0 1 ∷ A 3 0 1 ∷ A 4 0 2 ∷ A 4 1 3 ∷ []) [] [])
    (schedule 2 ∷ schedule 3 ∷ schedule 4 ∷ signal 1 1 ∷ [])
    (serves and state_is 2 and state_is 3 and state_is 4)
    (
    0 ∷ 1 ∷ 0 ∷ 0 ∷
    0 ∷ 1 ∷ 1 ∷ 0 ∷
    0 ∷ 1 ∷ 1 ∷ 1 ∷
    3 ∷ 3 ∷ 3 ∷ 1 ∷ []
    )

-- "tasks waiting on that flag and value become dispatchable"
pub only_the_value_waited_for_wakes : Case
only_the_value_waited_for_wakes =
    case pair
    (schedule 2 ∷ unlatched 1 1 ∷ signal 1 0 ∷ signal 1 1 ∷ unlatched 1 0 ∷ signal 1 1 ∷ signal 1 0 ∷ [])
    runs
    (2 ∷ 1 ∷ 1 ∷ 2 ∷ 1 ∷ 1 ∷ 2 ∷ [])

-- all of them, in one service; seen: the states of 2, 3 and 4
pub all_who_wait_wake : Case
all_who_wait_wake =
    case quad
    (schedule 2 ∷ unlatched 1 1 ∷ schedule 3 ∷ unlatched 1 1 ∷ schedule 4 ∷ unlatched 1 1 ∷ signal 1 1 ∷ [])
    (state_is 2 and state_is 3 and state_is 4)
    (
    3 ∷ 0 ∷ 0 ∷
    2 ∷ 0 ∷ 0 ∷
    2 ∷ 3 ∷ 0 ∷
    2 ∷ 2 ∷ 0 ∷
    2 ∷ 2 ∷ 3 ∷
    2 ∷ 2 ∷ 2 ∷
    3 ∷ 3 ∷ 3 ∷ []
    )

-- "Each call answers with the number of flags it served": the calls of the bench morning
pub served_numbers : Case
served_numbers =
    case bench
    morning_calls
    serves
    (0 ∷ 0 ∷ 0 ∷ 0 ∷ 0 ∷ 2 ∷ 1 ∷ 0 ∷ 0 ∷ 0 ∷ [])

-- ---- L2: "A signal should say whom it woke." Seen: woken, activated

-- "how many waiting tasks it made dispatchable": those who wait for the value that is served, and nobody else. Tasks 2 and 3 wait for the
-- on, task 4 for the off; who wakes is not counted again
pub a_signal_says_whom_it_woke : Case
a_signal_says_whom_it_woke =
    case quad
    (schedule 2 ∷ unlatched 1 1 ∷ schedule 3 ∷ unlatched 1 1 ∷ schedule 4 ∷ unlatched 1 0 ∷ signal 1 1 ∷ signal 1 1 ∷ signal 1 0 ∷ [])
    hears
    (0 ∷ 0 ∷ 0 ∷ 0 ∷ 0 ∷ 0 ∷ 0 ∷ 0 ∷ 0 ∷ 0 ∷ 0 ∷ 0 ∷ 2 ∷ 0 ∷ 0 ∷ 0 ∷ 1 ∷ 0 ∷ [])

-- "and how many it activated": task 2 by the first signal, nobody by the second
pub a_signal_says_whom_it_activated : Case
a_signal_says_whom_it_activated =
    case forgetting
    (schedule 2 ∷ signal 1 1 ∷ signal 1 1 ∷ [])
    hears
    (0 ∷ 0 ∷ 0 ∷ 1 ∷ 0 ∷ 0 ∷ [])

-- "added over all services of a call": flag 1 activates task 2, its flag 2 wakes task 5 and activates task 3, its flag 3 wakes task 4.
-- "a refusal shows 0 and 0": there is no flag 9
pub added_over_all_services : Case
added_over_all_services =
    case
    (rig 5 4 1 (T 1 0 10 0 0 ∷ T 2 1 5 0 2 ∷ T 3 1 5 0 3 ∷ T 4 1 20 0 0 ∷ T 5 1 20 0 0 ∷ []) (C 2 0 0 1 ∷ C 3 0 0 1 ∷ []) (A 2 0 1 ∷ A 3 0 2 ∷ []) [] [])
    (schedule 2 ∷ schedule 3 ∷ schedule 4 ∷ unlatched 3 1 ∷ schedule 5 ∷ unlatched 2 1 ∷ signal 1 1 ∷ signal 9 1 ∷ [])
    (serves and hears)
    (
    0 ∷ 0 ∷ 0 ∷
    0 ∷ 0 ∷ 0 ∷
    0 ∷ 0 ∷ 0 ∷
    0 ∷ 0 ∷ 0 ∷
    0 ∷ 0 ∷ 0 ∷
    0 ∷ 0 ∷ 0 ∷
    3 ∷ 2 ∷ 2 ∷
    0 ∷ 0 ∷ 0 ∷ []
    )

-- services alone count: not the activation of the task that is scheduled, but that of task 3 by its flag; and not who is due at a tick's count
pub services_alone_count : Case
services_alone_count =
    case (rig 3 4 1 (T 1 0 10 0 0 ∷ T 2 1 20 0 3 ∷ T 3 1 5 0 0 ∷ []) (C 3 0 0 1 ∷ []) (A 3 0 3 ∷ []) [] [])
    (schedule 3 ∷ schedule 2 ∷ wait_for 1 ∷ tick₀ ∷ [])
    (hears and state_is 2 and state_is 3)
    (
    0 ∷ 0 ∷ 0 ∷ 1 ∷
    0 ∷ 1 ∷ 3 ∷ 3 ∷
    0 ∷ 0 ∷ 2 ∷ 3 ∷
    0 ∷ 0 ∷ 3 ∷ 3 ∷ []
    )

-- the calls of the bench morning: the tick that makes count 4 activates tasks 2 and 3
pub heard_in_the_morning : Case
heard_in_the_morning =
    case bench
    morning_calls
    hears
    (0 ∷ 0 ∷ 0 ∷ 0 ∷ 0 ∷ 0 ∷ 0 ∷ 0 ∷ 0 ∷ 0 ∷ 0 ∷ 2 ∷ 0 ∷ 0 ∷ 0 ∷ 0 ∷ 0 ∷ 0 ∷ 0 ∷ 0 ∷ [])

-- ---- waits

-- "Wait until a count ..": waiting, and dispatchable after the tick that makes it
pub wait_until_a_count : Case
wait_until_a_count =
    case pair
    (schedule 2 ∷ wait_until 2 ∷ tick₀ ∷ tick₀ ∷ [])
    (runs and state_is 2)
    (2 ∷ 3 ∷ 1 ∷ 2 ∷ 1 ∷ 2 ∷ 2 ∷ 3 ∷ [])

-- ".. or for a number of cycles": 2 from count 1 on; and it wakes again at the next wait
pub wait_for_cycles : Case
wait_for_cycles =
    case pair
    (tick₀ ∷ schedule 2 ∷ wait_for 2 ∷ tick₀ ∷ tick₀ ∷ wait_for 1 ∷ tick₀ ∷ [])
    runs
    (1 ∷ 2 ∷ 1 ∷ 1 ∷ 2 ∷ 1 ∷ 2 ∷ [])

-- "if the waking count is at or below the count, no wait" (the paper's case: the present count)
pub no_wait_at_or_below_the_count : Case
no_wait_at_or_below_the_count =
    case lone
    (tick₀ ∷ wait_until 1 ∷ wait_until 0 ∷ wait_for 0 ∷ [])
    (answers and runs)
    (0 ∷ 1 ∷ 0 ∷ 1 ∷ 0 ∷ 1 ∷ 0 ∷ 1 ∷ [])

-- "Latched wait for a flag's value: no wait if it has it."
pub latched_wait_takes_the_value_there : Case
latched_wait_takes_the_value_there =
    case pair
    (schedule 2 ∷ signal 1 1 ∷ latched 1 1 ∷ latched 1 0 ∷ signal 1 0 ∷ [])
    runs
    (2 ∷ 2 ∷ 2 ∷ 1 ∷ 2 ∷ [])

-- "Time chain order: waking count, then who began to wait earlier."
pub time_chain_in_order : Case
time_chain_in_order =
    case quad
    (schedule 4 ∷ wait_until 5 ∷ schedule 3 ∷ wait_until 3 ∷ schedule 2 ∷ wait_for 5 ∷ tick₀ ∷ tick₀ ∷ tick₀ ∷ [])
    wait_time
    (
    0 ∷
    4 ∷ 0 ∷
    4 ∷ 0 ∷
    3 ∷ 4 ∷ 0 ∷
    3 ∷ 4 ∷ 0 ∷
    3 ∷ 4 ∷ 2 ∷ 0 ∷
    3 ∷ 4 ∷ 2 ∷ 0 ∷
    3 ∷ 4 ∷ 2 ∷ 0 ∷
    4 ∷ 2 ∷ 0 ∷ []
    )

-- "Each flag has a chain for on and one for off, in order of beginning."
pub flag_chains_in_order : Case
flag_chains_in_order =
    case quad
    (schedule 4 ∷ unlatched 1 1 ∷ schedule 2 ∷ unlatched 1 1 ∷ schedule 3 ∷ latched 1 1 ∷ signal 1 1 ∷ [])
    (wait_flag 1 1 and wait_flag 1 0)
    (
    0 ∷ 0 ∷
    4 ∷ 0 ∷ 0 ∷
    4 ∷ 0 ∷ 0 ∷
    4 ∷ 2 ∷ 0 ∷ 0 ∷
    4 ∷ 2 ∷ 0 ∷ 0 ∷
    4 ∷ 2 ∷ 3 ∷ 0 ∷ 0 ∷
    0 ∷ 0 ∷ []
    )

-- ---- Tick, and who runs

-- "the M list of cycle (count modulo 64) is queued": that of cycle 0 first at count 64; seen: served
pub cycle_of_the_count : Case
cycle_of_the_count =
    case (rig 1 2 1 (T 1 0 10 0 0 ∷ []) [] [] (M 0 2 ∷ M 1 1 ∷ M 1 2 ∷ []) [])
    (replicate 65 tick₀)
    serves
    (2 ∷ replicate 62 0 ++ 1 ∷ 2 ∷ [])

-- "then task 1 is scheduled": its unlatched condition waits for the flag of cycle 1, so that nobody runs till then
pub start_schedules_task_1 : Case
start_schedules_task_1 =
    case (rig 1 2 1 (T 1 0 10 0 2 ∷ []) (C 1 0 0 1 ∷ []) (A 1 0 1 ∷ []) (M 1 1 ∷ []) [])
    (finish ∷ tick₀ ∷ read_flag 2 ∷ [])
    (answers and serves and reads and runs)
    (
    5 ∷ 0 ∷ 0 ∷ 0 ∷
    0 ∷ 2 ∷ 0 ∷ 1 ∷
    0 ∷ 0 ∷ 1 ∷ 1 ∷ []
    )

-- "the running task goes on if .. none has higher rank": task 2 wakes, and takes the processor from task 3
pub higher_rank_takes_the_processor : Case
higher_rank_takes_the_processor =
    case (rig 3 4 1 (T 1 0 10 0 0 ∷ T 2 1 30 0 0 ∷ T 3 1 20 0 0 ∷ []) [] [] [] [])
    (schedule 2 ∷ wait_for 1 ∷ schedule 3 ∷ tick₀ ∷ [])
    runs
    (2 ∷ 1 ∷ 3 ∷ 2 ∷ [])

-- "else the highest rank, lowest number first; else none"
pub lowest_number_first : Case
lowest_number_first =
    case (rig 3 4 1 (T 1 0 10 0 0 ∷ T 2 1 20 0 0 ∷ T 3 1 20 0 0 ∷ []) (C 2 0 0 1 ∷ C 3 0 0 1 ∷ []) (A 2 0 1 ∷ A 3 0 1 ∷ []) (M 1 1 ∷ []) [])
    (schedule 3 ∷ schedule 2 ∷ wait_for 5 ∷ tick₀ ∷ [])
    runs
    (1 ∷ 1 ∷ 0 ∷ 2 ∷ [])

-- "if it stayed dispatchable throughout": task 3 finishes and is activated again by its own off, so task 2 of equal rank runs
pub stayed_throughout : Case
stayed_throughout =
    case (rig 3 4 1 (T 1 0 10 0 0 ∷ T 2 1 20 0 0 ∷ T 3 1 20 0 4 ∷ []) (C 2 0 1 1 ∷ C 3 0 1 0 ∷ []) (A 2 0 1 ∷ A 3 0 4 ∷ []) [] [])
    (schedule 2 ∷ schedule 3 ∷ signal 1 1 ∷ finish ∷ [])
    (runs and state_is 3)
    (1 ∷ 0 ∷ 3 ∷ 3 ∷ 3 ∷ 3 ∷ 2 ∷ 3 ∷ [])

-- L3: "A task that finishes has not stayed dispatchable, even if it is active again": of equal rank task 2 runs, the lowest number
pub active_again_is_chosen_anew : Case
active_again_is_chosen_anew =
    case quad
    (schedule 2 ∷ wait_for 1 ∷ schedule 3 ∷ tick₀ ∷ finish ∷ [])
    (runs and state_is 3)
    (2 ∷ 0 ∷ 1 ∷ 0 ∷ 3 ∷ 3 ∷ 3 ∷ 3 ∷ 2 ∷ 3 ∷ [])

-- and of higher rank task 3, whom its off woke
pub active_again_is_outranked : Case
active_again_is_outranked =
    case (rig 3 4 1 (T 1 0 10 0 0 ∷ T 2 1 20 0 3 ∷ T 3 1 30 0 0 ∷ []) [] [] [] [])
    (schedule 3 ∷ unlatched 3 0 ∷ schedule 2 ∷ finish ∷ [])
    (runs and state_is 2 and state_is 3)
    (3 ∷ 0 ∷ 3 ∷ 1 ∷ 0 ∷ 2 ∷ 2 ∷ 3 ∷ 2 ∷ 3 ∷ 3 ∷ 3 ∷ [])

-- "Privileged tasks rank above all others, by priority among themselves."
pub privileged_above_all_others : Case
privileged_above_all_others =
    case (rig 3 4 1 (T 1 0 10 0 0 ∷ T 2 1 5 1 0 ∷ T 3 1 6 1 0 ∷ []) [] [] [] [])
    (schedule 2 ∷ wait_for 1 ∷ schedule 3 ∷ tick₀ ∷ wait_for 1 ∷ [])
    runs
    (2 ∷ 1 ∷ 3 ∷ 3 ∷ 2 ∷ [])

-- the least of them above the greatest of the others
pub privileged_above_the_highest_priority : Case
privileged_above_the_highest_priority =
    case (rig 2 4 1 (T 1 0 255 0 0 ∷ T 2 1 0 1 0 ∷ []) [] [] [] [])
    (schedule 2 ∷ [])
    runs
    (2 ∷ [])

-- ---- Compool and bus words

-- "from the master, a receive command to the receiver; to the master, a transmit command to the sender; else receive, then
-- transmit"; the last row is not due
pub rows_in_order : Case
rows_in_order =
    case (rig 1 1 1 (T 1 0 10 0 0 ∷ []) [] [] [] (B 1 5 7 2 32 1 0 ∷ B 7 2 1 5 1 1 0 ∷ B 3 1 4 2 2 1 0 ∷ B 1 5 7 2 1 2 0 ∷ []))
    (tick₀ ∷ [])
    (writes and lends)
    (4 ∷ 14400 ∷ 15425 ∷ 8258 ∷ 7202 ∷ replicate 124 0)

-- "A row is due when count modulo period equals phase.": periods 4, 4, 2 and 1, phases 3, 1, 1 and 0; the bus words of each
-- tick
pub due_at_its_phase : Case
due_at_its_phase =
    case (rig 1 1 1 (T 1 0 10 0 0 ∷ []) [] [] [] (B 1 5 7 2 32 4 3 ∷ B 1 5 7 3 32 4 1 ∷ B 1 5 7 4 32 2 1 ∷ B 1 5 7 5 32 1 0 ∷ []))
    (replicate 5 tick₀)
    sends
    (
    14432 ∷ 14464 ∷ 14496 ∷
    14496 ∷
    14400 ∷ 14464 ∷ 14496 ∷
    14496 ∷
    14432 ∷ 14464 ∷ 14496 ∷ []
    )

-- the same of the longest period and the last phase: at counts 63 and 127
pub due_at_the_last_phase : Case
due_at_the_last_phase =
    case_at 62 (rig 1 1 1 (T 1 0 10 0 0 ∷ []) [] [] [] (B 1 5 7 2 32 64 63 ∷ []))
    (replicate 66 tick₀)
    writes
    (1 ∷ replicate 63 0 ++ 1 ∷ 0 ∷ [])

-- "Write stores the data and the count modulo 65,536 as tag and touches no other word": row 2, at count 65,537
pub write_touches_no_other_word : Case
write_touches_no_other_word =
    case_at 65537 rows
    (write_block 2 (replicate 66 5) (7 ∷ 8 ∷ 9 ∷ []) ∷ [])
    (answers and lends)
    (0 ∷ replicate 33 5 ++ 1 ∷ 7 ∷ 8 ∷ 9 ∷ replicate 29 5)

-- "read copies the data out"
pub read_copies_the_data : Case
read_copies_the_data =
    case rows
    (read_block 2 (replicate 33 5 ++ 1 ∷ 7 ∷ 8 ∷ 9 ∷ replicate 29 5) (0 ∷ 0 ∷ 0 ∷ []) ∷ [])
    (answers and lends)
    (0 ∷ 7 ∷ 8 ∷ 9 ∷ [])

-- ---- the last of each kind

-- T lines of n tasks from k on, that task 1 controls; M lines of cycle 63 with n flags from k on
tasks_from : ℕ → ℕ → List TaskLine
tasks_from k zero = []
tasks_from k (suc n) = T k 1 5 0 0 ∷ tasks_from (suc k) n

flags_from : ℕ → ℕ → List MinorLine
flags_from k zero = []
flags_from k (suc n) = M 63 k ∷ flags_from (suc k) n

-- 64 tasks, 128 flags, fifteen flags in the last cycle, 64 rows of two words each
largest : Rig
largest =
    rig 64 128 1 (T 1 0 10 0 0 ∷ tasks_from 2 62 ++ T 64 1 20 0 128 ∷ []) [] [] (flags_from 1 15) (replicate 64 (B 3 1 4 2 2 1 0))

-- task 64 runs, has flag 128, waits and is cancelled; seen: the answer, served, flag 128, state of 64, who waits, who runs
pub the_last_task : Case
the_last_task =
    case largest
    (schedule 64 ∷ signal 128 0 ∷ unlatched 127 1 ∷ cancel 64 ∷ schedule 65 ∷ [])
    (answers and serves and value_is 128 and state_is 64 and wait_flag 127 1 and runs)
    (
    0 ∷ 1 ∷ 1 ∷ 3 ∷ 0 ∷ 64 ∷
    7 ∷ 0 ∷ 1 ∷ 3 ∷ 0 ∷ 64 ∷
    0 ∷ 0 ∷ 1 ∷ 2 ∷ 64 ∷ 0 ∷ 1 ∷
    0 ∷ 1 ∷ 0 ∷ 0 ∷ 0 ∷ 1 ∷
    6 ∷ 0 ∷ 0 ∷ 0 ∷ 0 ∷ 1 ∷ []
    )

-- L2: task 64 is counted like any other
pub the_last_task_hears : Case
the_last_task_hears =
    case largest
    (schedule 64 ∷ unlatched 127 1 ∷ signal 127 1 ∷ [])
    hears
    (0 ∷ 0 ∷ 0 ∷ 0 ∷ 1 ∷ 0 ∷ [])

-- task 64 is activated by a service too
pub the_last_task_is_activated : Case
the_last_task_is_activated =
    case (rig 64 128 1 (T 1 0 10 0 0 ∷ tasks_from 2 62 ++ T 64 1 20 0 128 ∷ []) (C 64 15 0 1 ∷ []) (A 64 15 127 ∷ []) [] [])
    (schedule 64 ∷ signal 127 1 ∷ [])
    (serves and state_is 64 and value_is 128 and runs)
    (0 ∷ 1 ∷ 0 ∷ 1 ∷ 2 ∷ 3 ∷ 1 ∷ 64 ∷ [])

-- the fifteenth flag of cycle 63 is a minor-cycle flag, the flag behind it is not; flag 128 is there, 129 is not
pub the_last_flag : Case
the_last_flag =
    case largest
    (read_flag 15 ∷ read_flag 16 ∷ read_flag 128 ∷ read_flag 129 ∷ [])
    answers
    (7 ∷ 0 ∷ 0 ∷ 6 ∷ [])

-- 64 rows write 128 words; row 64's block ends the area
pub the_last_row : Case
the_last_row =
    case largest
    (tick₀ ∷ [])
    writes
    (128 ∷ [])

pub the_last_block : Case
the_last_block =
    case largest
    (write_block 64 (replicate 2112 5) (7 ∷ 8 ∷ []) ∷ [])
    lends
    (replicate 2079 5 ++ 0 ∷ 7 ∷ 8 ∷ replicate 30 5)

-- ---- "When does the bench next wake someone?"

-- nobody waits; then task 3 wakes first, who began neither first nor last; it is cancelled, then task 4 terminated, which is active again and waits
-- on a flag, then task 2 cancelled. Seen: the answer, the count that is told, who runs
pub the_lowest_waking_count : Case
the_lowest_waking_count =
    case quad
    (next_waking ∷ schedule 2 ∷ wait_until 9 ∷ schedule 3 ∷ wait_until 5 ∷ schedule 4 ∷ wait_until 7 ∷ next_waking ∷ cancel 3 ∷ next_waking ∷ terminate 4 ∷ next_waking ∷ unlatched 1 1 ∷ cancel 2 ∷ next_waking ∷ [])
    (answers and reads and runs)
    (
    0 ∷ 0 ∷ 1 ∷
    0 ∷ 0 ∷ 2 ∷
    0 ∷ 0 ∷ 1 ∷
    0 ∷ 0 ∷ 3 ∷
    0 ∷ 0 ∷ 1 ∷
    0 ∷ 0 ∷ 4 ∷
    0 ∷ 0 ∷ 1 ∷
    0 ∷ 5 ∷ 1 ∷
    0 ∷ 0 ∷ 1 ∷
    0 ∷ 7 ∷ 1 ∷
    0 ∷ 0 ∷ 4 ∷
    0 ∷ 9 ∷ 4 ∷
    0 ∷ 0 ∷ 1 ∷
    0 ∷ 0 ∷ 1 ∷
    0 ∷ 0 ∷ 1 ∷ []
    )

-- "No running task is needed": task 1 waits for the count 2 and nobody runs; at the tick that makes it, it wakes, and nobody waits
pub asked_while_nobody_runs : Case
asked_while_nobody_runs =
    case lone
    (wait_until 2 ∷ next_waking ∷ tick₀ ∷ next_waking ∷ tick₀ ∷ next_waking ∷ [])
    (answers and reads and runs and state_is 1)
    (
    0 ∷ 0 ∷ 0 ∷ 2 ∷
    0 ∷ 2 ∷ 0 ∷ 2 ∷
    0 ∷ 0 ∷ 0 ∷ 2 ∷
    0 ∷ 2 ∷ 0 ∷ 2 ∷
    0 ∷ 0 ∷ 1 ∷ 3 ∷
    0 ∷ 0 ∷ 1 ∷ 3 ∷ []
    )

-- "tasks waiting on time": who waits on a flag is none of them, though it waited for a count before
pub waiting_on_a_flag_is_not_on_time : Case
waiting_on_a_flag_is_not_on_time =
    case lone
    (wait_for 1 ∷ tick₀ ∷ latched 1 1 ∷ next_waking ∷ [])
    (answers and reads and runs and state_is 1)
    (
    0 ∷ 0 ∷ 0 ∷ 2 ∷
    0 ∷ 0 ∷ 1 ∷ 3 ∷
    0 ∷ 0 ∷ 0 ∷ 2 ∷
    0 ∷ 0 ∷ 0 ∷ 2 ∷ []
    )

-- task 64 is asked too
pub the_last_task_wakes : Case
the_last_task_wakes =
    case largest
    (schedule 64 ∷ wait_until 3 ∷ next_waking ∷ [])
    (reads and runs)
    (0 ∷ 64 ∷ 0 ∷ 1 ∷ 3 ∷ 1 ∷ [])

-- ---- L6: "Count the starts that came too soon."

-- task 2, of a given priority, has a condition on flag 1, a minor-cycle flag of cycles 1, 2 and 3
pulsed : ℕ → Rig
pulsed priority =
    rig 2 4 1 (T 1 0 10 0 0 ∷ T 2 1 priority 0 0 ∷ []) (C 2 0 0 1 ∷ []) (A 2 0 1 ∷ []) (M 1 1 ∷ M 2 1 ∷ M 3 1 ∷ []) []

-- The first service activates task 2, and does not count; each that follows counts, also of a task that runs for the second time because its
-- condition stood when it was terminated. "cancel, terminate .. keep it", "Schedule sets it to 0". Seen: the state of 2, its number, that of task 1
pub starts_that_came_too_soon : Case
starts_that_came_too_soon =
    case (pulsed 5)
    (schedule 2 ∷ tick₀ ∷ tick₀ ∷ terminate 2 ∷ tick₀ ∷ terminate 2 ∷ terminate 2 ∷ cancel 2 ∷ schedule 2 ∷ [])
    (state_is 2 and overruns_is 2 and overruns_is 1)
    (
    1 ∷ 0 ∷ 0 ∷
    3 ∷ 0 ∷ 0 ∷
    3 ∷ 1 ∷ 0 ∷
    3 ∷ 1 ∷ 0 ∷
    3 ∷ 2 ∷ 0 ∷
    3 ∷ 2 ∷ 0 ∷
    1 ∷ 2 ∷ 0 ∷
    0 ∷ 2 ∷ 0 ∷
    1 ∷ 0 ∷ 0 ∷ []
    )

-- "finish" keeps it too. Task 2 runs, its condition stands when it finishes, so that it runs again and finishes again
pub finish_keeps_its_overruns : Case
finish_keeps_its_overruns =
    case (pulsed 20)
    (schedule 2 ∷ tick₀ ∷ tick₀ ∷ finish ∷ finish ∷ [])
    (state_is 2 and overruns_is 2 and runs)
    (
    1 ∷ 0 ∷ 1 ∷
    3 ∷ 0 ∷ 2 ∷
    3 ∷ 1 ∷ 2 ∷
    3 ∷ 1 ∷ 2 ∷
    1 ∷ 1 ∷ 1 ∷ []
    )

-- "already active before": who waits is active
pub overrun_while_it_waits : Case
overrun_while_it_waits =
    case (pulsed 20)
    (schedule 2 ∷ tick₀ ∷ wait_until 9 ∷ tick₀ ∷ [])
    (state_is 2 and overruns_is 2)
    (1 ∷ 0 ∷ 3 ∷ 0 ∷ 2 ∷ 0 ∷ 2 ∷ 1 ∷ [])

-- a service counts once, though two conditions of the task have the flag
pub once_a_service : Case
once_a_service =
    case
    (rig 2 4 1 (T 1 0 10 0 0 ∷ T 2 1 5 0 0 ∷ []) (C 2 0 0 1 ∷ C 2 1 0 1 ∷ []) (A 2 0 1 ∷ A 2 1 1 ∷ []) (M 1 1 ∷ M 2 1 ∷ []) [])
    (schedule 2 ∷ tick₀ ∷ tick₀ ∷ [])
    (state_is 2 and overruns_is 2)
    (1 ∷ 0 ∷ 3 ∷ 0 ∷ 3 ∷ 1 ∷ [])

-- "before" is before that very service: in the second tick flag 2 is served first and activates task 2, and flag 1 then comes too soon
pub activated_by_an_earlier_service : Case
activated_by_an_earlier_service =
    case
    (rig 2 4 1 (T 1 0 10 0 0 ∷ T 2 1 5 0 0 ∷ []) (C 2 0 0 1 ∷ C 2 1 0 1 ∷ []) (A 2 0 1 ∷ A 2 1 2 ∷ []) (M 1 1 ∷ M 2 1 ∷ M 2 2 ∷ []) [])
    (schedule 2 ∷ tick₀ ∷ tick₀ ∷ [])
    (state_is 2 and overruns_is 2)
    (1 ∷ 0 ∷ 1 ∷ 0 ∷ 3 ∷ 1 ∷ [])

-- "of a minor-cycle flag": neither plain flag 1 nor the activation flag 3 of task 3, which are in a condition of task 2, is counted, nor flag 2, which is
-- a minor-cycle flag in none
pub no_other_flags_count : Case
no_other_flags_count =
    case
    (rig 3 4 1 (T 1 0 10 0 0 ∷ T 2 1 5 0 0 ∷ T 3 1 4 0 3 ∷ []) (C 2 0 0 1 ∷ []) (A 2 0 1 ∷ A 2 0 3 ∷ []) (M 1 2 ∷ []) [])
    (schedule 2 ∷ signal 1 1 ∷ signal 1 1 ∷ schedule 3 ∷ tick₀ ∷ [])
    (serves and state_is 2 and overruns_is 2)
    (
    0 ∷ 1 ∷ 0 ∷
    1 ∷ 3 ∷ 0 ∷
    1 ∷ 3 ∷ 0 ∷
    1 ∷ 3 ∷ 0 ∷
    1 ∷ 3 ∷ 0 ∷ []
    )

-- "It stops at 65,535."
pub overruns_stop : Case
overruns_stop =
    record {
      on = pulsed 5;
      first = with_overruns (run (pulsed 5) (start (pulsed 5)) (schedule 2 ∷ tick₀ ∷ [])) (0 ∷ 0 ∷ 65534 ∷ replicate 62 0);
      calls = tick₀ ∷ tick₀ ∷ [];
      look = overruns_is 2;
      shows = 65535 ∷ 65535 ∷ [];
    }

-- task 64 is counted like any other
pub the_last_task_overruns : Case
the_last_task_overruns =
    case (rig 64 128 1 (T 1 0 10 0 0 ∷ T 64 1 5 0 0 ∷ []) (C 64 15 0 1 ∷ []) (A 64 15 128 ∷ []) (M 1 128 ∷ M 2 128 ∷ []) [])
    (schedule 64 ∷ tick₀ ∷ tick₀ ∷ read_overruns 64 ∷ read_overruns 63 ∷ [])
    (reads and overruns_is 64)
    (0 ∷ 0 ∷ 0 ∷ 0 ∷ 0 ∷ 1 ∷ 1 ∷ 1 ∷ 0 ∷ 1 ∷ [])

-- "A call reads it for any task, with no running task needed. Refusals: 12, then 6." In the end both wait and nobody runs. Seen: the answer, what is
-- told, who runs
pub overruns_are_read : Case
overruns_are_read =
    case (pulsed 20)
    (read_overruns 2 ∷ schedule 2 ∷ tick₀ ∷ tick₀ ∷ read_overruns 2 ∷ read_overruns 1 ∷ wait_until 9 ∷ wait_until 9 ∷ read_overruns 2 ∷ read_overruns 3 ∷ read_overruns 0 ∷ [])
    (answers and reads and runs)
    (
    0 ∷ 0 ∷ 1 ∷
    0 ∷ 0 ∷ 1 ∷
    0 ∷ 0 ∷ 2 ∷
    0 ∷ 0 ∷ 2 ∷
    0 ∷ 1 ∷ 2 ∷
    0 ∷ 0 ∷ 2 ∷
    0 ∷ 0 ∷ 1 ∷
    0 ∷ 0 ∷ 0 ∷
    0 ∷ 1 ∷ 0 ∷
    6 ∷ 0 ∷ 0 ∷
    6 ∷ 0 ∷ 0 ∷ []
    )

-- ---- refusals: the smallest number, and nothing is written

-- nobody runs: every call but the tick, whatever else is wrong with it
pub refused_5_first : Case
refused_5_first =
    case lone
    (wait_until 9 ∷ finish ∷ schedule 9 ∷ cancel 9 ∷ terminate 9 ∷ wait_until 4294967295 ∷ wait_for 4294967295 ∷ latched 9 1 ∷ unlatched 9 1 ∷ signal 9 1 ∷ read_flag 9 ∷ read_block 9 [] [] ∷ write_block 9 [] [] ∷ tick [] ∷ tick₀ ∷ [])
    answers
    (0 ∷ 5 ∷ 5 ∷ 5 ∷ 5 ∷ 5 ∷ 5 ∷ 5 ∷ 5 ∷ 5 ∷ 5 ∷ 5 ∷ 5 ∷ 10 ∷ 0 ∷ [])

-- no such task, flag or row: 0, or one above the last
pub refused_6_no_such : Case
refused_6_no_such =
    case lone
    (schedule 0 ∷ schedule 2 ∷ cancel 2 ∷ terminate 0 ∷ latched 0 1 ∷ latched 3 1 ∷ unlatched 3 1 ∷ signal 0 1 ∷ signal 3 1 ∷ read_flag 3 ∷ read_block 0 [] [] ∷ read_block 2 [] [] ∷ write_block 2 [] [] ∷ [])
    answers
    (6 ∷ 6 ∷ 6 ∷ 6 ∷ 6 ∷ 6 ∷ 6 ∷ 6 ∷ 6 ∷ 6 ∷ 6 ∷ 6 ∷ 6 ∷ [])

-- task 1 names itself (the paper's case: to cancel), and its grandchild
pub refused_7_not_the_controller : Case
refused_7_not_the_controller =
    case line
    (cancel 1 ∷ schedule 1 ∷ terminate 1 ∷ schedule 3 ∷ cancel 3 ∷ terminate 3 ∷ [])
    answers
    (7 ∷ 7 ∷ 7 ∷ 7 ∷ 7 ∷ 7 ∷ [])

-- flag 1 is a minor-cycle flag, flag 3 an activation flag, flag 2 plain; seen: the answer, the value read
pub refused_7_flags : Case
refused_7_flags =
    case bench
    (signal 1 1 ∷ signal 3 1 ∷ signal 2 1 ∷ latched 1 1 ∷ unlatched 1 1 ∷ read_flag 1 ∷ read_flag 3 ∷ read_flag 2 ∷ latched 3 0 ∷ unlatched 3 1 ∷ [])
    (answers and reads)
    (
    7 ∷ 0 ∷
    7 ∷ 0 ∷
    0 ∷ 0 ∷
    7 ∷ 0 ∷
    7 ∷ 0 ∷
    7 ∷ 0 ∷
    0 ∷ 0 ∷
    0 ∷ 1 ∷
    0 ∷ 0 ∷
    0 ∷ 0 ∷ []
    )

-- schedule of an invoked task, terminate of one not active, cancel of an uninvoked one
pub refused_8_states : Case
refused_8_states =
    case forgetting
    (schedule 2 ∷ schedule 2 ∷ terminate 2 ∷ cancel 2 ∷ cancel 2 ∷ terminate 2 ∷ [])
    answers
    (0 ∷ 8 ∷ 8 ∷ 0 ∷ 8 ∷ 8 ∷ [])

-- the same of a task that is dispatchable, and of one that waits
pub refused_8_active : Case
refused_8_active =
    case (rig 2 4 1 (T 1 0 10 0 0 ∷ T 2 1 5 0 0 ∷ []) [] [] [] [])
    (schedule 2 ∷ schedule 2 ∷ wait_for 1 ∷ wait_for 2 ∷ tick₀ ∷ schedule 2 ∷ cancel 2 ∷ [])
    (answers and state_is 2)
    (0 ∷ 3 ∷ 8 ∷ 3 ∷ 0 ∷ 3 ∷ 0 ∷ 2 ∷ 0 ∷ 2 ∷ 8 ∷ 2 ∷ 0 ∷ 0 ∷ [])

-- the paper's cases: waking count 2,147,483,647 is accepted, one more is not
pub refused_9_waking_count : Case
refused_9_waking_count =
    case lone
    (wait_until 2147483648 ∷ wait_until 2147483647 ∷ [])
    (answers and runs)
    (9 ∷ 1 ∷ 0 ∷ 0 ∷ [])

-- the same of a number of cycles, at count 1; the sum does not wrap
pub refused_9_waking_sum : Case
refused_9_waking_sum =
    case_at 1 lone
    (wait_for 4294967295 ∷ wait_for 2147483647 ∷ wait_for 2147483646 ∷ [])
    (answers and runs)
    (9 ∷ 1 ∷ 9 ∷ 1 ∷ 0 ∷ 0 ∷ [])

-- tick at the last count, before its buffer is looked at
pub refused_9_last_tick : Case
refused_9_last_tick =
    case_at 2147483646 lone
    (tick₀ ∷ tick [] ∷ tick₀ ∷ [])
    answers
    (0 ∷ 9 ∷ 9 ∷ [])

-- a tick's buffer of 127 words, which stays as it is
pub refused_10_tick : Case
refused_10_tick =
    case lone
    (tick (replicate 127 9) ∷ [])
    (answers and lends)
    (10 ∷ replicate 127 9)

-- the paper's case: an area one word short; one too long; a buffer too short, too long; what is lent stays
pub refused_10_area : Case
refused_10_area =
    case lone
    (write_block 1 (replicate 32 5) (7 ∷ 8 ∷ []) ∷ write_block 1 (replicate 34 5) (7 ∷ 8 ∷ []) ∷ write_block 1 (replicate 33 5) (7 ∷ []) ∷ read_block 1 (replicate 33 5) (7 ∷ 8 ∷ 9 ∷ []) ∷ read_block 1 (replicate 32 5) (7 ∷ 8 ∷ []) ∷ [])
    (answers and lends)
    (10 ∷ replicate 32 5 ++ 10 ∷ replicate 34 5 ++ 10 ∷ replicate 33 5 ++ 10 ∷ 7 ∷ 8 ∷ 9 ∷ 10 ∷ 7 ∷ 8 ∷ [])

-- ---- L6: what the history counts of task 2, "since the last schedule": in starts_that_came_too_soon, up to each call

pub counted_after : ℕ → ℕ
counted_after n = overruns_counted (pulsed 5) 2 (events_of (pulsed 5) (take n starts_that_came_too_soon.calls))

-- ---- the statement

-- each case shows what it is to show
pub cases_hold :
    Holds stopped_and_started
    × Holds stopped_and_started_by_the_test
    × Holds thirty_two_is_written_as_zero
    × Holds equal_rank_takes_nothing
    × Holds phase_against_the_count_after_the_tick
    × Holds cancel_strikes_every_descendant
    × Holds cancel_strikes_grandchildren
    × Holds unlatched_waits_for_the_next_service
    × Holds latched_conditions_remember
    × Holds conditions_are_driven_while_the_task_runs
    × Holds conditions_are_driven_while_the_task_waits
    × Holds schedule_relaxes
    × Holds undesired_of_off_is_on
    × Holds position_fifteen_counts
    × Holds no_line_no_condition
    × Holds activation_relaxes
    × Holds tested_again_after_finish_and_terminate
    × Holds tested_once_the_queue_is_empty
    × Holds active_already_at_the_test
    × Holds the_test_is_served_on
    × Holds the_most_that_a_finish_serves
    × Holds the_most_that_a_terminate_serves
    × Holds who_is_active_is_not_activated
    × Holds only_its_own_flags_activate_a_task
    × Holds all_conditions_as_desired
    × Holds one_condition_of_two_flags
    × Holds finish_wakes_who_waits_for_the_off
    × Holds finish_leaves_the_conditions
    × Holds terminate_takes_out_of_a_flag_chain
    × Holds terminate_takes_out_of_the_time_chain
    × Holds terminate_leaves_the_conditions
    × Holds cancel_touches_no_condition
    × Holds cancel_leaves_unlatched_conditions
    × Holds cancel_queues_off_for_the_active_only
    × Holds cancel_serves_the_highest_off_first
    × Holds last_queued_first
    × Holds activation_by_rising_number
    × Holds only_the_value_waited_for_wakes
    × Holds all_who_wait_wake
    × Holds served_numbers
    × Holds a_signal_says_whom_it_woke
    × Holds a_signal_says_whom_it_activated
    × Holds added_over_all_services
    × Holds services_alone_count
    × Holds heard_in_the_morning
    × Holds the_last_task_hears
    × Holds wait_until_a_count
    × Holds wait_for_cycles
    × Holds no_wait_at_or_below_the_count
    × Holds latched_wait_takes_the_value_there
    × Holds time_chain_in_order
    × Holds flag_chains_in_order
    × Holds cycle_of_the_count
    × Holds start_schedules_task_1
    × Holds higher_rank_takes_the_processor
    × Holds lowest_number_first
    × Holds stayed_throughout
    × Holds active_again_is_chosen_anew
    × Holds active_again_is_outranked
    × Holds privileged_above_all_others
    × Holds privileged_above_the_highest_priority
    × Holds rows_in_order
    × Holds due_at_its_phase
    × Holds due_at_the_last_phase
    × Holds write_touches_no_other_word
    × Holds read_copies_the_data
    × Holds the_last_task
    × Holds the_last_task_is_activated
    × Holds the_last_flag
    × Holds the_last_row
    × Holds the_last_block
    × Holds the_lowest_waking_count
    × Holds asked_while_nobody_runs
    × Holds waiting_on_a_flag_is_not_on_time
    × Holds the_last_task_wakes
    × Holds starts_that_came_too_soon
    × Holds finish_keeps_its_overruns
    × Holds overrun_while_it_waits
    × Holds once_a_service
    × Holds activated_by_an_earlier_service
    × Holds no_other_flags_count
    × Holds overruns_stop
    × Holds the_last_task_overruns
    × Holds overruns_are_read
    × Holds refused_5_first
    × Holds refused_6_no_such
    × Holds refused_7_not_the_controller
    × Holds refused_7_flags
    × Holds refused_8_states
    × Holds refused_8_active
    × Holds refused_9_waking_count
    × Holds refused_9_waking_sum
    × Holds refused_9_last_tick
    × Holds refused_10_tick
    × Holds refused_10_area
unfolding tasks_from flags_from largest pulsed lone pair quad line remembering forgetting asking bench morning_calls rows stopped_and_started stopped_and_started_by_the_test thirty_two_is_written_as_zero equal_rank_takes_nothing phase_against_the_count_after_the_tick cancel_strikes_every_descendant cancel_strikes_grandchildren unlatched_waits_for_the_next_service latched_conditions_remember conditions_are_driven_while_the_task_runs conditions_are_driven_while_the_task_waits schedule_relaxes undesired_of_off_is_on position_fifteen_counts no_line_no_condition activation_relaxes tested_again_after_finish_and_terminate tested_once_the_queue_is_empty active_already_at_the_test the_test_is_served_on the_most_that_a_finish_serves the_most_that_a_terminate_serves who_is_active_is_not_activated only_its_own_flags_activate_a_task all_conditions_as_desired one_condition_of_two_flags finish_wakes_who_waits_for_the_off finish_leaves_the_conditions terminate_takes_out_of_a_flag_chain terminate_takes_out_of_the_time_chain terminate_leaves_the_conditions cancel_touches_no_condition cancel_leaves_unlatched_conditions cancel_queues_off_for_the_active_only cancel_serves_the_highest_off_first last_queued_first activation_by_rising_number only_the_value_waited_for_wakes all_who_wait_wake served_numbers a_signal_says_whom_it_woke a_signal_says_whom_it_activated added_over_all_services services_alone_count heard_in_the_morning the_last_task_hears wait_until_a_count wait_for_cycles no_wait_at_or_below_the_count latched_wait_takes_the_value_there time_chain_in_order flag_chains_in_order cycle_of_the_count start_schedules_task_1 higher_rank_takes_the_processor lowest_number_first stayed_throughout active_again_is_chosen_anew active_again_is_outranked privileged_above_all_others privileged_above_the_highest_priority rows_in_order due_at_its_phase due_at_the_last_phase write_touches_no_other_word read_copies_the_data the_last_task the_last_task_is_activated the_last_flag the_last_row the_last_block the_lowest_waking_count asked_while_nobody_runs waiting_on_a_flag_is_not_on_time the_last_task_wakes lowest_waking starts_that_came_too_soon finish_keeps_its_overruns overrun_while_it_waits once_a_service activated_by_an_earlier_service no_other_flags_count overruns_stop the_last_task_overruns overruns_are_read refused_5_first refused_6_no_such refused_7_not_the_controller refused_7_flags refused_8_states refused_8_active refused_9_waking_count refused_9_waking_sum refused_9_last_tick refused_10_tick refused_10_area of_task of_condition numbers of_line of_cycle rig tick₀ start_at seen shown runs answers serves hears writes reads lends sends state_is condition_is value_is overruns_is wait_flag wait_time ◌and◌ iter all any total over put command_word blank relax met drive names activate too_soon most_overruns more_by_one overrun takes rouse wake ready offer offers serve_flag made serving serve wait_on wait_until_count leave wake_due family cleared deserted offs best chosen dispatch written copied row_words bus_words tested scheduled finished terminated cancelled cycle_queue ticked effect ended again settled decide no_such_one in_cycle is_minor is_activation last_count wrong_block refusals refusal words_at lent output accepted after step run started start
cases_hold = (refl, refl, refl, refl, refl, refl, refl, refl, refl, refl, refl, refl, refl, refl, refl, refl, refl, refl, refl, refl, refl, refl, refl, refl, refl, refl, refl, refl, refl, refl, refl, refl, refl, refl, refl, refl, refl, refl, refl, refl, refl, refl, refl, refl, refl, refl, refl, refl, refl, refl, refl, refl, refl, refl, refl, refl, refl, refl, refl, refl, refl, refl, refl, refl, refl, refl, refl, refl, refl, refl, refl, refl, refl, refl, refl, refl, refl, refl, refl, refl, refl, refl, refl, refl, refl, refl, refl, refl, refl, refl, refl, refl, refl, refl, refl)

-- and the history counts what the record has
pub history_counts :
    (counted_after 2 ≡ 0)
    × (counted_after 3 ≡ 1)
    × (counted_after 5 ≡ 2)
    × (counted_after 8 ≡ 2)
    × (counted_after 9 ≡ 0)
unfolding counted_after pulsed starts_that_came_too_soon serving_events serve_events again_events scheduling_of accepted_events events_if events_from start_events events_of overruns_counted of_task of_condition numbers of_line of_cycle rig tick₀ start_at seen shown runs answers serves hears writes reads lends sends state_is condition_is value_is overruns_is wait_flag wait_time ◌and◌ iter all any total over put command_word blank relax met drive names activate too_soon most_overruns more_by_one overrun takes rouse wake ready offer offers serve_flag made serving serve wait_on wait_until_count leave wake_due family cleared deserted offs best chosen dispatch written copied row_words bus_words tested scheduled finished terminated cancelled cycle_queue ticked effect ended again settled decide no_such_one in_cycle is_minor is_activation last_count wrong_block refusals refusal words_at lent output accepted after step run started start
history_counts = (refl, refl, refl, refl, refl)
