-- A RIG OF FULL SIZE, computed: 64 tasks, each activated by the activation flag of the task before it, 128 flags, 15 flags
-- a minor cycle. Its tick serves 79 flags: the bound of "at most 79" is reached.
use Rattle.std.specs.Prelude.{◌≡◌, refl, cond, ◌&&◌, ◌||◌, List, [], ◌∷◌, ◌++◌, ℕ, zero, suc, ◌+◌, ◌%◌, leb, ltb, eqb}
use Rattle.laws.specs.Iter.{iter}
use Rattle.laws.specs.All.{all}
use Rattle.laws.specs.Any.{any}
use Rattle.laws.specs.Tables.{total, over}
use Rattle.laws.specs.Put.{put}
use Rattle.word_parts.specs.Packed.{command_word}
use Rattle.rules.specs.Rig.{Rig, in_cycle, is_minor, is_activation}
use Rattle.rules.specs.State.{State, blank}
use Rattle.rules.specs.Conditions.{relax, met, drive, names}
use Rattle.rules.specs.Serving.{activate, too_soon, most_overruns, more_by_one, overrun, takes, rouse, wake, ready, offer, offers, serve_flag, serving, serve}
use Rattle.rules.specs.Waiting.{wait_on, wait_until_count, leave, wake_due}
use Rattle.rules.specs.Family.{family, cleared, deserted, offs}
use Rattle.rules.specs.Running.{best, chosen, dispatch}
use Rattle.rules.specs.Bus.{written, copied, row_words, bus_words}
use Rattle.rules.specs.Calls.{Call, schedule, finish}
use Rattle.rules.specs.Calls.{tested, scheduled, finished, terminated, cancelled, cycle_queue, ticked, effect, ended, again, settled, decide, no_such_one, last_count, wrong_block, refusals, refusal, words_at, lent, output, accepted, after, step, run, started, start}
use Rattle.rules.specs.Scripts.{B, tick₀}

-- Task t has priority 10, activation flag t, controller 1 and one unlatched condition, at position 0, which desires on: for
-- task 1 its flag is 65, else the activation flag of the task before it. M lines: flags 65 to 79 in cycles 1 and 2.
unfoldable pub full : Rig
full =
    record {
      tasks = 64;
      flags = 128;
      master = 1;
      controller = λ t. cond (ltb 1 t && leb t 64) 1 0;
      priority = λ t. cond (ltb 0 t && leb t 64) 10 0;
      privileged = λ t. 0;
      activation = λ t. cond (leb t 64) t 0;
      present = λ at. cond (eqb (at % 16) 0 && (ltb 15 at && ltb at 1040)) 1 0;
      latched = λ at. 0;
      desired = λ at. cond (eqb (at % 16) 0 && (ltb 15 at && ltb at 1040)) 1 0;
      lines = 64;
      line_task = λ k. cond (ltb k 64) (k + 1) 0;
      line_pos = λ k. 0;
      line_flag = λ k. cond (eqb k 0) 65 (cond (ltb k 64) k 0);
      minor = λ c i. cond ((eqb c 1 || eqb c 2) && ltb i 15) (65 + i) 0;
      rows = 0;
      row = λ k. B 0 0 0 0 0 0 0;
    }

-- schedule k, then k + 1, .. , n of them
unfoldable pub schedules : ℕ → ℕ → List Call
schedules k zero = []
schedules k (suc n) = schedule k ∷ schedules (suc k) n

-- the first tick activates task 1, who schedules all others and finishes: all are inactive
unfoldable pub before : State
before = run full (start full) (tick₀ ∷ schedules 2 63 ++ finish ∷ [])

-- the second tick activates all 64, one after the other, and serves their flags and the 15 of its cycle
pub reached : ((step full before tick₀).answer.report.served ≡ 79) × ((step full before tick₀).next.running ≡ 1)
unfolding full schedules before tick₀ iter all any total over put command_word blank relax met drive names activate too_soon most_overruns more_by_one overrun takes rouse wake ready offer offers serve_flag serving serve wait_on wait_until_count leave wake_due family cleared deserted offs best chosen dispatch written copied row_words bus_words tested scheduled finished terminated cancelled cycle_queue ticked effect ended again settled decide no_such_one in_cycle is_minor is_activation last_count wrong_block refusals refusal words_at lent output accepted after step run started start
reached = (refl, refl)
