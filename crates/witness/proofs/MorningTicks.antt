-- THE WIRING SHEET ON THE BENCH MORNING'S RIG (L11): a run of 130 accepted ticks, with refused calls, refused ticks and signals between them. It meets the
-- premises of what is promised over runs: in any 64 of its ticks in a row the rig's one row, of period 2, is due 32 times.
use Rattle.std.specs.Prelude.{◌≡◌, refl, Bool, true, false, cond, ◌&&◌, List, [], ◌∷◌, ◌++◌, ℕ, zero, suc, ◌+◌, ◌/◌, ◌≤◌, eqb, length, take, drop}
use Rattle.std.proofs.Common.{sym, ◌∙◌, ap, arith, take-append-drop, length-drop, length-take-le}
use Rattle.laws.specs.Iter.{iter}
use Rattle.laws.specs.All.{all}
use Rattle.laws.specs.Any.{any}
use Rattle.laws.specs.Tables.{total, how_many, sum, over}
use Rattle.laws.specs.Put.{put}
use Rattle.word_parts.specs.Packed.{command_word}
use Rattle.rig.specs.declared.Cycle.{Cycle}
use Rattle.rig.specs.declared.Rig.{Rig}
use Rattle.rules.specs.Rig as G
use Rattle.rules.specs.Rig.{in_cycle, is_minor, is_activation}
use Rattle.rules.specs.State as S
use Rattle.rules.specs.State.{blank}
use Rattle.rules.specs.Conditions.{relax, met, drive, names}
use Rattle.rules.specs.Serving.{activate, too_soon, most_overruns, more_by_one, overrun, takes, rouse, wake, ready, offer, offers, serve_flag, serving, serve}
use Rattle.rules.specs.Waiting.{wake_due}
use Rattle.rules.specs.Running.{best, chosen, dispatch}
use Rattle.rules.specs.Bus.{row_words, bus_words}
use Rattle.rules.specs.Frame.{commands_to, commands_a_frame}
use Rattle.rules.specs.Calls as R
use Rattle.rules.specs.Calls.{is_tick}
use Rattle.rules.specs.Proper.{ProperRun}
use Rattle.rules.specs.Scripts.{bench, rig, of_task, of_condition, numbers, of_line, of_cycle, tick₀}
use Rattle.rules_laws.specs.Steps.{start_sound}
use Rattle.rules_laws.specs.Refusals.{code_is}
use Rattle.exec_state.specs.View.{rig_of}
use Rattle.exec_sound.specs.Laws.RightRig.{rig_ok}
use Rattle.exec.specs.declared.Exec.{Exec}
use Rattle.runs.specs.Runs.{Made, Ran, code_of, ticks_in, handed_out}
use Rattle.runs.specs.Demands.{due_at, InARow, Wired}
use Rattle.runs.proofs.Laws.{wired, spoken_to}
use Rattle.witness.specs.CodeRig.{code_table, code_cycles}
use Rattle.witness.proofs.Records.{record_of, run_of, made_of, answer_is, ran}
use Rattle.witness.specs.RightRigs.{morning_rig, morning_right}
use Rattle.witness.proofs.Morning.{morning_rig_lem}
use Rattle.witness.proofs.MorningRun.{morning_start, morning_starts}

-- ---- the calls

ticking : ℕ → List R.Call
ticking zero = []
ticking (suc n) = tick₀ ∷ ticking n

-- a signal; a schedule of a task that there is not, refused by 6; a tick with no room for words, refused by 10; thirteen ticks
round : List R.Call
round = R.signal 2 1 ∷ R.schedule 9 ∷ R.tick [] ∷ ticking 13

rounds : ℕ → List R.Call
rounds zero = []
rounds (suc n) = round ++ rounds n

ticking_calls : List R.Call
ticking_calls = R.schedule 2 ∷ R.schedule 3 ∷ rounds 10

-- ---- how many ticks are accepted

-- by the rules
accepted_ticks : G.Rig → S.State → List R.Call → ℕ
accepted_ticks r s [] = 0
accepted_ticks r s (k ∷ ks) =
    let n = accepted_ticks r (R.step r s k).next ks in
    cond (is_tick k && eqb (R.refusal r s k) 0) (suc n) n

-- the same of the code's run
ticks_ruled : (g : Rig) (cycles : List Cycle) (s : S.State) (ks : List R.Call) → length (ticks_in (run_of g cycles s ks)) ≡ accepted_ticks (rig_of g cycles) s ks
unfolding ticks_in accepted_ticks
ticks_ruled g cycles s [] = refl
ticks_ruled g cycles s (k ∷ ks) =
    let r = rig_of g cycles in
    let m = made_of g cycles s k in
    let rest = ticks_in (run_of g cycles (R.step r s k).next ks) in
    let code : code_of m.step ≡ R.refusal r s k = ap (λ (a : R.Answer). a.code) (answer_is r s k) ∙ code_is r s k in
    ap (λ (n : ℕ). length (cond (is_tick k && eqb n 0) (m ∷ rest) rest)) code
    ∙ one_more (is_tick k && eqb (R.refusal r s k) 0) m rest
    ∙ ap (λ (n : ℕ). cond (is_tick k && eqb (R.refusal r s k) 0) (suc n) n) (ticks_ruled g cycles (R.step r s k).next ks)
  where
    one_more : (b : Bool) (m : Made) (ms : List Made) → length (cond b (m ∷ ms) ms) ≡ cond b (suc (length ms)) (length ms)
    one_more true m ms = refl
    one_more false m ms = refl

computed : accepted_ticks bench (R.start bench) ticking_calls ≡ 130
unfolding accepted_ticks ticking_calls rounds round ticking tick₀ is_tick bench rig of_task of_condition numbers of_line of_cycle iter all any total over put command_word blank relax met drive names activate too_soon most_overruns more_by_one overrun takes rouse wake ready offer offers serve_flag serving serve wake_due best chosen dispatch row_words bus_words R.tested R.scheduled R.cycle_queue R.ticked R.effect R.ended R.again R.settled R.decide R.no_such_one in_cycle is_minor is_activation R.last_count R.refusals R.refusal R.words_at R.lent R.output R.accepted R.after R.step R.started R.start
computed = refl

-- ---- the run

abbrev seen : G.Rig
seen = rig_of morning_rig (code_cycles bench)

pub ticked : List Made
ticked = run_of morning_rig (code_cycles bench) (R.start seen) ticking_calls

pub ticked_end : Exec
ticked_end = record_of morning_rig (code_cycles bench) (R.run seen (R.start seen) ticking_calls)

joined_proper : (ks ls : List R.Call) → ProperRun ks → ProperRun ls → ProperRun (ks ++ ls)
joined_proper [] ls p q = q
joined_proper (k ∷ ks) ls p q = (p.0, joined_proper ks ls p.1 q)

ticking_proper : (n : ℕ) → ProperRun (ticking n)
unfolding ticking tick₀
ticking_proper zero = tt
ticking_proper (suc n) = (tt, ticking_proper n)

rounds_proper : (n : ℕ) → ProperRun (rounds n)
unfolding rounds round
rounds_proper zero = tt
rounds_proper (suc n) = joined_proper round (rounds n) (omega arith, (tt, (tt, ticking_proper 13))) (rounds_proper n)

proper : ProperRun ticking_calls
unfolding ticking_calls
proper = (tt, (tt, rounds_proper 10))

pub ticked_ran : Ran morning_start ticked ticked_end
unfolding morning_start ticked ticked_end
ticked_ran =
    ran morning_rig (code_cycles bench) morning_right (R.start seen) (start_sound seen (rig_ok morning_rig (code_cycles bench) morning_right)) ticking_calls proper

-- its accepted ticks are 130
pub ticked_130 : length (ticks_in ticked) ≡ 130
unfolding ticked
ticked_130 =
    ticks_ruled morning_rig (code_cycles bench) (R.start seen) ticking_calls
    ∙ ap (λ (r : G.Rig). accepted_ticks r (R.start r) ticking_calls) morning_rig_lem
    ∙ computed

-- ---- WHAT IS PROMISED HOLDS OF IT

-- 64 of them in a row, behind the first n
abbrev pub window : ℕ → List Made
window n = take 64 (drop n (ticks_in ticked))

in_a_row : (n : ℕ) → InARow ticked (window n)
in_a_row n =
    let t = ticks_in ticked in
    (take n t, drop 64 (drop n t), sym (take-append-drop n t) ∙ ap (λ (l : List Made). take n t ++ l) (sym (take-append-drop 64 (drop n t))))

window_64 : (n : ℕ) → n + 64 ≤ 130 → length (window n) ≡ 64
window_64 n h = length-take-le 64 (drop n (ticks_in ticked)) (omega (arith, length-drop n (ticks_in ticked), ticked_130))

row_1 : Wired morning_start ticked 1
unfolding morning_start bench rig
row_1 =
    wired morning_rig (code_table bench) morning_start morning_starts ticked ticked_end ticked_ran 1 (omega arith)
    (omega (arith, ap (λ (r : G.Rig). r.rows) morning_rig_lem))

-- the row is due 32 times
pub thirty_two : (n : ℕ) → n + 64 ≤ 130 → how_many (due_at morning_start 1) (window n) ≡ 32
unfolding morning_start bench rig
thirty_two n h = row_1.times (window n) (in_a_row n) (window_64 n h) ∙ ap (λ (r : G.Rig). 64 / (r.row 0).period) morning_rig_lem

-- and 32 commands go to terminal 7
seven : commands_a_frame bench.rows bench.master bench.row 7 ≡ 32
unfolding commands_a_frame commands_to sum total bench rig iter bus_words row_words command_word
seven = refl

pub spoken_to_seven : (n : ℕ) → n + 64 ≤ 130 → total (λ (m : Made). commands_to 7 (handed_out m)) (window n) ≡ 32
unfolding morning_start
spoken_to_seven n h =
    (spoken_to morning_rig (code_table bench) morning_start morning_starts ticked ticked_end ticked_ran 7).times (window n) (in_a_row n) (window_64 n h)
    ∙ ap (λ (r : G.Rig). commands_a_frame r.rows r.master r.row 7) morning_rig_lem
    ∙ seven
