-- WHY WON'T IT START? computed (L13): an answer for each way in which a condition can be brought there, and for each in which it cannot. (The name puts
-- this file before the proofs: a wrong definition is refused here.) Looks see the answer's number and what was told, 16 for yes.
use Rattle.std.specs.Prelude.{refl, [], ◌∷◌}
use Rattle.laws.specs.Iter.{iter}
use Rattle.laws.specs.All.{all}
use Rattle.laws.specs.Any.{any}
use Rattle.laws.specs.Lowest.{lowest}
use Rattle.laws.specs.Tables.{total, over}
use Rattle.rules.specs.Rig.{Rig, in_cycle, is_minor, is_activation}
use Rattle.rules.specs.State.{blank}
use Rattle.rules.specs.Conditions.{relax, met, drive, names}
use Rattle.rules.specs.Serving.{activate, too_soon, most_overruns, more_by_one, overrun, takes, rouse, wake, ready, offer, offers, serve_flag, made, serving, serve}
use Rattle.rules.specs.Waiting.{wait_until_count, leave}
use Rattle.rules.specs.Running.{best, chosen, dispatch}
use Rattle.rules.specs.Starting.{most_links, flag_of, comes_on, goes_off, comes_to, brought, starts, starts_below, lowest_blocking}
use Rattle.rules.specs.Calls.{schedule, wait_until, signal, why_not}
use Rattle.rules.specs.Calls.{scheduled, effect, decide, no_such_one, last_count, refusals, refusal, lent, output, tested, ended, again, settled, accepted, after, step, run, started, start}
use Rattle.rules.specs.Scripts.{T, C, A, M, of_task, of_condition, numbers, of_line, of_cycle, rig, seen, Case, shown, Holds, case, runs, answers, reads, ◌and◌}

-- Task 2 waits for the activation flag of task 3, that for the one of task 4, that for the one of task 5, which waits for plain flag 1. "each link lowers d"
pub four_in_a_row : Case
four_in_a_row =
    case
    (rig 5 9 1 (T 1 0 9 0 0 ∷ T 2 1 5 0 2 ∷ T 3 1 5 0 3 ∷ T 4 1 5 0 4 ∷ T 5 1 5 0 5 ∷ []) (C 2 0 0 1 ∷ C 3 0 0 1 ∷ C 4 0 0 1 ∷ C 5 0 0 1 ∷ [])
    (A 2 0 3 ∷ A 3 0 4 ∷ A 4 0 5 ∷ A 5 0 1 ∷ []) [] [])
    (schedule 2 ∷ schedule 3 ∷ schedule 4 ∷ schedule 5 ∷ why_not 2 3 ∷ why_not 2 2 ∷ why_not 4 1 ∷ why_not 4 0 ∷ [])
    reads
    (0 ∷ 0 ∷ 0 ∷ 0 ∷ 16 ∷ 0 ∷ 16 ∷ 0 ∷ [])

-- "each condition": task 3 has one that plain flag 1 brings there, and one that nothing brings there, since task 4 is uninvoked; so it cannot start, and
-- nobody can by its flag
pub every_condition : Case
every_condition =
    case
    (rig 4 9 1 (T 1 0 9 0 0 ∷ T 2 1 5 0 2 ∷ T 3 1 5 0 3 ∷ T 4 1 5 0 4 ∷ []) (C 2 0 0 1 ∷ C 3 0 0 1 ∷ C 3 1 0 1 ∷ []) (A 2 0 3 ∷ A 3 0 1 ∷ A 3 1 4 ∷ []) [] [])
    (schedule 2 ∷ schedule 3 ∷ why_not 3 1 ∷ why_not 2 1 ∷ [])
    reads
    (0 ∷ 0 ∷ 1 ∷ 0 ∷ [])

-- "the lowest condition that blocks": the condition at position 2 stands, since it is latched and flag 1 came; plain flag 1 brings the one at 5 there; those at 7 and 15 block. "one of its
-- flags": the condition at 8 has a plain flag behind one that does not help
pub the_lowest_of_two : Case
the_lowest_of_two =
    case
    (rig 3 9 1 (T 1 0 9 0 0 ∷ T 2 1 5 0 2 ∷ T 3 1 5 0 3 ∷ []) (C 2 2 1 1 ∷ C 2 5 0 1 ∷ C 2 7 0 1 ∷ C 2 8 0 1 ∷ C 2 15 0 1 ∷ [])
    (A 2 2 1 ∷ A 2 5 1 ∷ A 2 7 3 ∷ A 2 8 3 ∷ A 2 8 4 ∷ A 2 15 3 ∷ []) [] [])
    (signal 1 1 ∷ schedule 2 ∷ why_not 2 1 ∷ [])
    reads
    (0 ∷ 0 ∷ 7 ∷ [])

-- a condition that stands blocks nobody, whatever its flags: flag 3 came when task 3 was activated, the condition is latched
pub standing_is_enough : Case
standing_is_enough =
    case
    (rig 3 9 1 (T 1 0 9 0 0 ∷ T 2 1 5 0 2 ∷ T 3 1 5 0 3 ∷ []) (C 2 0 1 1 ∷ C 2 1 0 1 ∷ []) (A 2 0 3 ∷ A 2 1 3 ∷ []) [] [])
    (schedule 3 ∷ schedule 2 ∷ why_not 2 1 ∷ [])
    reads
    (0 ∷ 0 ∷ 1 ∷ [])

-- "One that desires on": at position 0 by minor-cycle flag 1; at 1 by plain flag 4; at 2 by no active task's flag (task 3 was activated before task 2 was
-- scheduled); so 2 is named
pub brought_on : Case
brought_on =
    case
    (rig 3 9 1 (T 1 0 9 0 0 ∷ T 2 1 5 0 2 ∷ T 3 1 5 0 3 ∷ []) (C 2 0 0 1 ∷ C 2 1 0 1 ∷ C 2 2 0 1 ∷ []) (A 2 0 1 ∷ A 2 1 4 ∷ A 2 2 3 ∷ []) (M 5 1 ∷ []) [])
    (schedule 3 ∷ schedule 2 ∷ why_not 2 1 ∷ [])
    reads
    (0 ∷ 0 ∷ 2 ∷ [])

-- "One that desires off": at position 0 by plain flag 4; at 1 by the activation flag of task 3, which is active; at 2 by no inactive task's, here that of
-- task 4 (it waits for flag 5); so 2 is named
pub brought_off : Case
brought_off =
    case
    (rig 4 9 1 (T 1 0 9 0 0 ∷ T 2 1 5 0 2 ∷ T 3 1 5 0 3 ∷ T 4 1 5 0 6 ∷ []) (C 2 0 0 0 ∷ C 2 1 0 0 ∷ C 2 2 0 0 ∷ C 4 0 0 1 ∷ []) (A 2 0 4 ∷ A 2 1 3 ∷ A 2 2 6 ∷ A 4 0 5 ∷ []) [] [])
    (schedule 3 ∷ schedule 4 ∷ schedule 2 ∷ why_not 2 1 ∷ [])
    reads
    (0 ∷ 0 ∷ 0 ∷ 2 ∷ [])

-- No minor-cycle flag brings a condition off. (No file has such a condition: "a condition with a minor-cycle flag .. desires on".)
pub no_cycle_brings_off : Case
no_cycle_brings_off =
    case (rig 2 9 1 (T 1 0 9 0 0 ∷ T 2 1 5 0 2 ∷ []) (C 2 0 0 0 ∷ []) (A 2 0 1 ∷ []) (M 5 1 ∷ []) [])
    (schedule 2 ∷ why_not 2 1 ∷ [])
    reads
    (0 ∷ 0 ∷ [])

-- two tasks that wait for each other never start
pub a_circle : Case
a_circle =
    case (rig 3 9 1 (T 1 0 9 0 0 ∷ T 2 1 5 0 2 ∷ T 3 1 5 0 3 ∷ []) (C 2 0 0 1 ∷ C 3 0 0 1 ∷ []) (A 2 0 3 ∷ A 3 0 2 ∷ []) [] [])
    (schedule 2 ∷ schedule 3 ∷ why_not 2 3 ∷ [])
    reads
    (0 ∷ 0 ∷ 0 ∷ [])

-- tasks 63 and 64, flag 128, position 15
pub the_last_of_all : Case
the_last_of_all =
    case (rig 64 128 1 (T 1 0 9 0 0 ∷ T 63 1 5 0 0 ∷ T 64 1 5 0 128 ∷ []) (C 63 15 0 1 ∷ C 64 15 0 1 ∷ []) (A 63 15 128 ∷ A 64 15 127 ∷ []) [] [])
    (schedule 63 ∷ schedule 64 ∷ why_not 63 0 ∷ why_not 63 1 ∷ [])
    reads
    (0 ∷ 0 ∷ 15 ∷ 16 ∷ [])

-- "It needs no running task. Refusals: 12, then 6, then 8 if the task isn't inactive, then 11 for d above 3." Task 1 is dispatchable, task 3 uninvoked; in the end task 1
-- waits and nobody runs. Seen: the answer, what is told, who runs
unfoldable pub alone : Rig
alone = rig 3 9 1 (T 1 0 9 0 0 ∷ T 2 1 5 0 2 ∷ T 3 1 5 0 3 ∷ []) (C 2 0 0 1 ∷ []) (A 2 0 1 ∷ []) [] []

pub why_refused : Case
why_refused =
    case alone
    (schedule 2 ∷ why_not 0 9 ∷ why_not 4 0 ∷ why_not 1 9 ∷ why_not 3 0 ∷ why_not 2 4 ∷ why_not 2 3 ∷ wait_until 9 ∷ why_not 1 3 ∷ why_not 2 0 ∷ [])
    (answers and reads and runs)
    (
    0 ∷ 0 ∷ 1 ∷
    6 ∷ 0 ∷ 1 ∷
    6 ∷ 0 ∷ 1 ∷
    8 ∷ 0 ∷ 1 ∷
    8 ∷ 0 ∷ 1 ∷
    11 ∷ 0 ∷ 1 ∷
    0 ∷ 16 ∷ 1 ∷
    0 ∷ 0 ∷ 0 ∷
    8 ∷ 0 ∷ 0 ∷
    0 ∷ 16 ∷ 0 ∷ []
    )

pub answers_hold :
    Holds four_in_a_row
    × Holds every_condition
    × Holds the_lowest_of_two
    × Holds standing_is_enough
    × Holds brought_on
    × Holds brought_off
    × Holds no_cycle_brings_off
    × Holds a_circle
    × Holds the_last_of_all
    × Holds why_refused
unfolding four_in_a_row every_condition the_lowest_of_two standing_is_enough brought_on brought_off no_cycle_brings_off a_circle the_last_of_all alone why_refused of_task of_condition numbers of_line of_cycle rig seen shown runs answers reads ◌and◌ iter all any lowest total over blank relax met drive names activate too_soon most_overruns more_by_one overrun takes rouse wake ready offer offers serve_flag made serving serve wait_until_count leave best chosen dispatch most_links flag_of comes_on goes_off comes_to brought starts starts_below lowest_blocking tested scheduled effect ended again settled decide no_such_one in_cycle is_minor is_activation last_count refusals refusal lent output accepted after step run started start
answers_hold = (refl, refl, refl, refl, refl, refl, refl, refl, refl, refl)
