-- The bench morning's own wait: task 3 calls R 2 at count 4. The history has it, and the waking clause speaks of it, so that
-- what both ask for can be met.
use Rattle.std.specs.Prelude.{◌≡◌, refl, List, [], ◌∷◌, ◌++◌}
use Rattle.std.proofs.Common.{arith}
use Rattle.laws.specs.Iter.{iter}
use Rattle.laws.specs.All.{all}
use Rattle.laws.specs.Any.{any}
use Rattle.laws.specs.Tables.{total, over}
use Rattle.laws.specs.Put.{put}
use Rattle.word_parts.specs.Packed.{command_word}
use Rattle.rules.specs.State.{time_chain, blank}
use Rattle.rules.specs.Conditions.{relax, met, drive, names}
use Rattle.rules.specs.Serving.{activate, too_soon, most_overruns, more_by_one, overrun, takes, rouse, wake, ready, offer, offers, serve_flag, serving, serve}
use Rattle.rules.specs.Waiting.{wait_on, wait_until_count, leave, wake_due}
use Rattle.rules.specs.Family.{family, cleared, deserted, offs}
use Rattle.rules.specs.Running.{best, chosen, dispatch}
use Rattle.rules.specs.Bus.{written, copied, row_words, bus_words}
use Rattle.rules.specs.Rig.{in_cycle, is_minor, is_activation}
use Rattle.rules.specs.Calls.{Call, schedule, finish, wait_for}
use Rattle.rules.specs.Calls.{tested, scheduled, finished, terminated, cancelled, cycle_queue, ticked, effect, ended, again, settled, decide, no_such_one, last_count, wrong_block, refusals, refusal, words_at, lent, output, accepted, after, step, run, started, start}
use Rattle.rules.specs.Scripts.{of_task, of_condition, numbers, of_line, of_cycle, rig, tick₀, bench}
use Rattle.rules.specs.History.{begins, noted, noted_if, history, never, history_of}
use Rattle.rules_laws.specs.Waking.{WakesByRules, Spared}
use Rattle.rules_laws.specs.WakingLaws.{waking_for}
use Rattle.rules_laws.specs.BenchRig.{bench_ok}

-- the calls before it
before : List Call
before = schedule 2 ∷ schedule 3 ∷ tick₀ ∷ tick₀ ∷ tick₀ ∷ tick₀ ∷ finish ∷ []

-- it is the eighth call, a wait in the time chain for count 6
morning_history : history_of bench (before ++ wait_for 2 ∷ []) 3 ≡ record { call = 8; chain = time_chain; count = 6 }
unfolding before begins noted noted_if history never history_of bench of_task of_condition numbers of_line of_cycle rig tick₀ iter all any total over put command_word blank relax met drive names activate too_soon most_overruns more_by_one overrun takes rouse wake ready offer offers serve_flag serving serve wait_on wait_until_count leave wake_due family cleared deserted offs best chosen dispatch written copied row_words bus_words tested scheduled finished terminated cancelled cycle_queue ticked effect ended again settled decide no_such_one in_cycle is_minor is_activation last_count wrong_block refusals refusal words_at lent output accepted after step run started start
morning_history = refl

-- task 3 waits at count 5, and is dispatchable after the tick that makes 6
morning_wakes : WakesByRules bench 3 6 (step bench (run bench (start bench) before) (wait_for 2)).next (tick₀ ∷ [])
unfolding before Spared bench of_task of_condition numbers of_line of_cycle rig tick₀ iter all any total over put command_word blank relax met drive names activate too_soon most_overruns more_by_one overrun takes rouse wake ready offer offers serve_flag serving serve wait_on wait_until_count leave wake_due family cleared deserted offs best chosen dispatch written copied row_words bus_words tested scheduled finished terminated cancelled cycle_queue ticked effect ended again settled decide no_such_one in_cycle is_minor is_activation last_count wrong_block refusals refusal words_at lent output accepted after step run started start
morning_wakes =
    waking_for bench bench_ok before (tick₀ ∷ []) 2 (tt, (tt, (tt, (tt, (tt, (tt, (tt, tt))))))) (tt, tt) refl (omega arith) ((λ z. z), tt)
