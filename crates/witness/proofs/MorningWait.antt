-- THE WAKING CLAUSE ON THE BENCH MORNING: task 3 begins to wait by `R 2` at count 4. The run meets the premises of the clause, so
-- what it says holds of it: at count 5 task 3 is waiting, and the tick that makes the count 6 leaves it dispatchable.
use Rattle.std.specs.Prelude.{◌≡◌, refl, List, [], ◌∷◌, ◌++◌, ℕ, ◌+◌, replicate}
use Rattle.std.proofs.Common.{◌∙◌, ap, subst, arith}
use Rattle.std.proofs.lemmas.List.{length-replicate}
use Rattle.laws.specs.Iter.{iter}
use Rattle.laws.specs.All.{all}
use Rattle.laws.specs.Any.{any}
use Rattle.laws.specs.Tables.{total, over}
use Rattle.laws.specs.Put.{put}
use Rattle.word_parts.specs.Packed.{command_word}
use Rattle.rules.specs.Rig as G
use Rattle.rules.specs.State as S
use Rattle.rules.specs.State.{blank, waiting, dispatchable}
use Rattle.rules.specs.Conditions.{relax, met, drive, names}
use Rattle.rules.specs.Serving.{activate, too_soon, most_overruns, more_by_one, overrun, takes, rouse, wake, ready, offer, offers, serve_flag, serving, serve}
use Rattle.rules.specs.Waiting.{wait_on, wait_until_count, leave, wake_due}
use Rattle.rules.specs.Family.{family, cleared, deserted, offs}
use Rattle.rules.specs.Running.{best, chosen, dispatch}
use Rattle.rules.specs.Bus.{written, copied, row_words, bus_words}
use Rattle.rules.specs.Rig.{in_cycle, is_minor, is_activation}
use Rattle.rules.specs.Calls as R
use Rattle.rules.specs.Soundness as Rules
use Rattle.rules_laws.specs.Steps.{start_sound, run_sound, step_sound}
use Rattle.rules.specs.Scripts.{bench, rig, of_task, of_condition, numbers, of_line, of_cycle, tick₀, morning_calls}
use Rattle.exec_state.specs.View.{rig_of}
use Rattle.exec_sound.specs.Laws.RightRig.{rig_ok}
use Rattle.exec.specs.declared.Exec.{Exec}
use Rattle.runs.specs.Runs.{Made, MadeOn, Ran, SparedIn, code_of}
use Rattle.runs.specs.Demands.{Wakes, state_in}
use Rattle.runs.proofs.Laws.{waking_for}
use Rattle.witness.specs.CodeRig.{code_table, code_cycles}
use Rattle.witness.proofs.Records.{record_of, run_of, made_of, answer_is, made, ran}
use Rattle.witness.specs.RightRigs.{morning_rig, morning_right}
use Rattle.witness.proofs.Morning.{morning_rig_lem}
use Rattle.witness.proofs.MorningRun.{morning_start, morning_run, morning_starts}

abbrev pub seen : G.Rig
seen = rig_of morning_rig (code_cycles bench)

abbrev recorded : S.State → Exec
recorded s = record_of morning_rig (code_cycles bench) s

-- "S 2, S 3, K, K, K, K, F", then "R 2", then "K", then "K"
calls_before : List R.Call
calls_before = R.schedule 2 ∷ R.schedule 3 ∷ tick₀ ∷ tick₀ ∷ tick₀ ∷ tick₀ ∷ R.finish ∷ []

-- the states before the wait, after it, and before the last tick
pub before : G.Rig → S.State
before r = R.run r (R.start r) calls_before

begun : G.Rig → S.State
begun r = (R.step r (before r) (R.wait_for 2)).next

pub due : G.Rig → S.State
due r = (R.step r (begun r) tick₀).next

-- what is computed: who runs and which count it is before the wait, that the wait is accepted, and the count before the last tick
pub computed : ((before bench).running ≡ 3) × ((before bench).count ≡ 4) × ((R.step bench (before bench) (R.wait_for 2)).answer.code ≡ 0) × ((due bench).count ≡ 5)
unfolding before begun due calls_before bench rig of_task of_condition numbers of_line of_cycle tick₀ iter all any total over put command_word blank relax met drive names activate too_soon most_overruns more_by_one overrun takes rouse wake ready offer offers serve_flag serving serve wait_on wait_until_count leave wake_due family cleared deserted offs best chosen dispatch written copied row_words bus_words R.tested R.scheduled R.finished R.terminated R.cancelled R.cycle_queue R.ticked R.effect R.ended R.again R.settled R.decide R.no_such_one in_cycle is_minor is_activation R.last_count R.wrong_block R.refusals R.refusal R.words_at R.lent R.output R.accepted R.after R.step R.run R.started R.start
computed = (refl, refl, refl, refl)

-- ---- the run of the morning in these parts

pub made_before : List Made
made_before = run_of morning_rig (code_cycles bench) (R.start seen) calls_before

pub the_wait : Made
the_wait = made_of morning_rig (code_cycles bench) (before seen) (R.wait_for 2)

pub the_tick : Made
the_tick = made_of morning_rig (code_cycles bench) (begun seen) tick₀

unfoldable pub the_last : Made
the_last = made_of morning_rig (code_cycles bench) (due seen) tick₀

pub run_is : morning_run ≡ made_before ++ the_wait ∷ the_tick ∷ the_last ∷ []
unfolding morning_run made_before the_wait the_tick the_last morning_calls calls_before before begun due R.run
run_is = refl

-- the record on which task 3 calls, and the record of count 5
pub at_wait : Exec
at_wait = recorded (before seen)

unfoldable pub at_five : Exec
at_five = recorded (due seen)

-- ---- what the clause asks for

before_sound : Rules.Sound seen (before seen)
unfolding before calls_before tick₀
before_sound =
    let ok = rig_ok morning_rig (code_cycles bench) morning_right in
    run_sound seen ok (R.start seen) (start_sound seen ok) calls_before (tt, (tt, (tt, (tt, (tt, (tt, (tt, tt)))))))

begun_sound : Rules.Sound seen (begun seen)
unfolding begun
begun_sound = step_sound seen (rig_ok morning_rig (code_cycles bench) morning_right) (before seen) before_sound (R.wait_for 2) tt

pub due_sound : Rules.Sound seen (due seen)
unfolding due tick₀
due_sound = step_sound seen (rig_ok morning_rig (code_cycles bench) morning_right) (begun seen) begun_sound tick₀ tt

-- the run leads to the record on which task 3 calls
pub before_ran : Ran morning_start made_before at_wait
unfolding morning_start made_before at_wait before calls_before tick₀
before_ran =
    ran morning_rig (code_cycles bench) morning_right (R.start seen)
    (start_sound seen (rig_ok morning_rig (code_cycles bench) morning_right)) calls_before (tt, (tt, (tt, (tt, (tt, (tt, (tt, tt)))))))

-- task 3 runs, the count is 4
pub three_runs : (at_wait.st.running ≡ 3) × (at_wait.st.count ≡ 4)
unfolding at_wait
three_runs = (
  ap (λ (r : G.Rig). (before r).running) morning_rig_lem ∙ computed.0,
  ap (λ (r : G.Rig). (before r).count) morning_rig_lem ∙ computed.1,
)

-- its call `R 2` is made on that record, and is accepted
pub wait_made : MadeOn at_wait the_wait
unfolding at_wait the_wait
wait_made = made morning_rig (code_cycles bench) morning_right (before seen) before_sound (R.wait_for 2) tt

pub wait_taken : code_of the_wait.step ≡ 0
unfolding the_wait
wait_taken =
    ap (λ (a : R.Answer). a.code) (answer_is seen (before seen) (R.wait_for 2))
    ∙ ap (λ (r : G.Rig). (R.step r (before r) (R.wait_for 2)).answer.code) morning_rig_lem
    ∙ computed.2

-- then one tick is made, which spares it
pub tick_ran : Ran the_wait.step.exec (the_tick ∷ []) at_five
unfolding the_wait the_tick at_five begun due tick₀
tick_ran = (made morning_rig (code_cycles bench) morning_right (begun seen) begun_sound tick₀ tt, refl)

pub tick_spares : SparedIn the_wait.step.exec (the_tick ∷ []) at_wait.st.running
unfolding the_tick tick₀
tick_spares = ((λ struck. struck), tt)

-- ---- THE CLAUSE HOLDS OF IT

pub three_wakes : Wakes 3 6 at_five
unfolding the_wait
three_wakes =
    subst (λ (t : ℕ). Wakes t 6 at_five) three_runs.0
    (subst (λ (c : ℕ). Wakes at_wait.st.running c at_five) (ap (λ (n : ℕ). n + 2) three_runs.1)
    (waking_for morning_rig (code_table bench) morning_start morning_starts made_before at_wait before_ran the_wait wait_made wait_taken (the_tick ∷ []) at_five
    tick_ran tick_spares 2 refl (omega arith)))
