-- A BENCH MORNING: the whole output of the runner on the paper's rig and script, START included, computed by the rules.
use Rattle.std.specs.Prelude.{◌≡◌, refl, cond, List, [], ◌∷◌, ℕ, eqb, take}
use Rattle.laws.specs.Iter.{iter}
use Rattle.laws.specs.All.{all}
use Rattle.laws.specs.Any.{any}
use Rattle.laws.specs.Tables.{total, over}
use Rattle.laws.specs.Put.{put}
use Rattle.word_parts.specs.Packed.{command_word}
use Rattle.rules.specs.Sizes.{positions}
use Rattle.rules.specs.Rig.{Rig, in_cycle, is_minor, is_activation}
use Rattle.rules.specs.State.{State, blank}
use Rattle.rules.specs.Conditions.{relax, met, drive, names}
use Rattle.rules.specs.Serving.{activate, too_soon, most_overruns, more_by_one, overrun, takes, rouse, wake, ready, offer, offers, serve_flag, made, serving, serve}
use Rattle.rules.specs.Waiting.{wait_on, wait_until_count, leave, wake_due}
use Rattle.rules.specs.Family.{family, cleared, deserted, offs}
use Rattle.rules.specs.Running.{best, chosen, dispatch}
use Rattle.rules.specs.Bus.{written, copied, row_words, bus_words}
use Rattle.rules.specs.Calls.{Call, schedule, cancel, terminate, finish, tick, wait_until, wait_for, latched, unlatched, signal, read_flag, read_block, write_block, next_waking, read_overruns, why_not, Step}
use Rattle.rules.specs.Calls.{tested, scheduled, finished, terminated, cancelled, cycle_queue, ticked, effect, ended, again, settled, decide, no_such_one, last_count, wrong_block, refusals, refusal, words_at, lent, output, accepted, after, step, run, started, start}
use Rattle.rules.specs.Scripts.{of_task, of_condition, numbers, of_line, of_cycle, rig, tick₀, bench, morning_calls}

-- ---- "prints verb, answer (0 accepted), count, running task (0 none), then, if accepted, bus words or the flag's value"
-- L2: "The runner prints both", woken and activated, "after the running task wherever it prints that, also in document 01's outputs"

-- a printed line: the verb and the numbers behind it; the runner has no verb for a block
pub data Line : Type 0 where
  START S X Z F K U R L N G Q «V» O Y block : List ℕ → Line

verb : Call → List ℕ → Line
verb (schedule t) = S
verb (cancel t) = X
verb (terminate t) = Z
verb finish = F
verb (tick buffer) = K
verb (wait_until t) = U
verb (wait_for n) = R
verb (latched f v) = L
verb (unlatched f v) = N
verb (signal f v) = G
verb (read_flag f) = Q
verb (read_block k area buffer) = block
verb (write_block k area buffer) = block
verb next_waking = «V»
verb (read_overruns t) = O
verb (why_not t d) = Y

-- "bus words or the flag's value"
told : Call → Step → List ℕ
told (schedule t) p = []
told (cancel t) p = []
told (terminate t) p = []
told finish p = []
told (tick buffer) p = take p.answer.report.words p.lent
told (wait_until t) p = []
told (wait_for n) p = []
told (latched f v) p = []
told (unlatched f v) p = []
told (signal f v) p = []
told (read_flag f) p = p.answer.report.value ∷ []
told (read_block k area buffer) p = []
told (write_block k area buffer) p = []
told next_waking p = cond (eqb p.answer.report.value 0) [] (p.answer.report.value ∷ [])
told (read_overruns t) p = p.answer.report.value ∷ []
told (why_not t d) p = cond (eqb p.answer.report.value positions) [] (p.answer.report.value ∷ [])

line : Call → Step → Line
line k p =
    let report = p.answer.report in
    verb k (p.answer.code ∷ p.next.count ∷ p.next.running ∷ report.woken ∷ report.activated ∷ cond (eqb p.answer.code 0) (told k p) [])

lines : Rig → State → List Call → List Line
lines r s [] = []
lines r s (k ∷ ks) =
    let p = step r s k in
    line k p ∷ lines r p.next ks

-- the START line, and a line for each call
pub printed : Rig → List Call → List Line
printed r ks = START (0 ∷ (start r).count ∷ (start r).running ∷ (started r).woken ∷ (started r).activated ∷ []) ∷ lines r (start r) ks

-- "Whole output"
pub morning : printed bench morning_calls ≡
    START (0 ∷ 0 ∷ 1 ∷ 0 ∷ 0 ∷ [])
    ∷ S (0 ∷ 0 ∷ 1 ∷ 0 ∷ 0 ∷ [])
    ∷ S (0 ∷ 0 ∷ 1 ∷ 0 ∷ 0 ∷ [])
    ∷ K (0 ∷ 1 ∷ 1 ∷ 0 ∷ 0 ∷ [])
    ∷ K (0 ∷ 2 ∷ 1 ∷ 0 ∷ 0 ∷ 14400 ∷ [])
    ∷ K (0 ∷ 3 ∷ 1 ∷ 0 ∷ 0 ∷ [])
    ∷ K (0 ∷ 4 ∷ 2 ∷ 0 ∷ 2 ∷ 14400 ∷ [])
    ∷ F (0 ∷ 4 ∷ 3 ∷ 0 ∷ 0 ∷ [])
    ∷ R (0 ∷ 4 ∷ 1 ∷ 0 ∷ 0 ∷ [])
    ∷ K (0 ∷ 5 ∷ 1 ∷ 0 ∷ 0 ∷ [])
    ∷ K (0 ∷ 6 ∷ 3 ∷ 0 ∷ 0 ∷ 14400 ∷ [])
    ∷ []
unfolding bench morning_calls verb told line lines printed of_task of_condition numbers of_line of_cycle rig tick₀ iter all any total over put command_word blank relax met drive names activate too_soon most_overruns more_by_one overrun takes rouse wake ready offer offers serve_flag made serving serve wait_on wait_until_count leave wake_due family cleared deserted offs best chosen dispatch written copied row_words bus_words tested scheduled finished terminated cancelled cycle_queue ticked effect ended again settled decide no_such_one in_cycle is_minor is_activation last_count wrong_block refusals refusal words_at lent output accepted after step run started start
morning = refl
