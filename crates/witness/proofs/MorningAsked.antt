-- "WHEN DOES THE BENCH NEXT WAKE SOMEONE?" ON THE BENCH MORNING: asked behind `R 2`, at count 4, the answer is 6. The run meets the premises of
-- what is promised over runs: the tick that makes the count 5 wakes nobody by its count, and the tick that makes the count 6 wakes somebody.
use Rattle.std.specs.Prelude.{◌≡◌, refl, List, [], ◌∷◌, ℕ, replicate}
use Rattle.std.proofs.Common.{◌∙◌, ap, subst, arith}
use Rattle.laws.specs.Iter.{iter}
use Rattle.laws.specs.All.{all}
use Rattle.laws.specs.Any.{any}
use Rattle.laws.specs.Tables.{total, over}
use Rattle.laws.specs.Put.{put}
use Rattle.word_parts.specs.Packed.{command_word}
use Rattle.rules.specs.Rig as G
use Rattle.rules.specs.State as S
use Rattle.rules.specs.State.{blank, waiting}
use Rattle.rules.specs.Conditions.{relax, met, drive, names}
use Rattle.rules.specs.Serving.{activate, too_soon, most_overruns, more_by_one, overrun, takes, rouse, wake, ready, offer, offers, serve_flag, serving, serve}
use Rattle.rules.specs.Waiting.{wait_on, wait_until_count, leave, wake_due}
use Rattle.rules.specs.Family.{family, cleared, deserted, offs}
use Rattle.rules.specs.Running.{best, chosen, dispatch}
use Rattle.rules.specs.Bus.{written, copied, row_words, bus_words}
use Rattle.rules.specs.NextWaking.{lowest_waking}
use Rattle.rules.specs.Rig.{in_cycle, is_minor, is_activation}
use Rattle.rules.specs.Calls as R
use Rattle.rules.specs.Soundness as Rules
use Rattle.rules_laws.specs.Steps.{start_sound, run_sound}
use Rattle.rules.specs.Scripts.{bench, rig, of_task, of_condition, numbers, of_line, of_cycle, tick₀}
use Rattle.exec_state.specs.View.{rig_of}
use Rattle.exec_sound.specs.Laws.RightRig.{rig_ok}
use Rattle.exec.specs.declared.Exec.{Exec}
use Rattle.runs.specs.Runs.{Made, MadeOn, Ran, SparedIn, told_by}
use Rattle.runs.specs.Demands.{Wakes, OnTime, state_in}
use Rattle.runs.proofs.Laws.{next_wakes, nobody_before}
use Rattle.witness.specs.CodeRig.{code_table, code_cycles}
use Rattle.witness.proofs.Records.{record_of, run_of, made_of, answer_is, made, ran}
use Rattle.witness.specs.RightRigs.{morning_rig, morning_right}
use Rattle.witness.proofs.Morning.{morning_rig_lem}
use Rattle.witness.proofs.MorningRun.{morning_start, morning_starts}

abbrev seen : G.Rig
seen = rig_of morning_rig (code_cycles bench)

-- "S 2, S 3, K, K, K, K, F, R 2", then the question, then "K"
calls_before : List R.Call
calls_before = R.schedule 2 ∷ R.schedule 3 ∷ tick₀ ∷ tick₀ ∷ tick₀ ∷ tick₀ ∷ R.finish ∷ R.wait_for 2 ∷ []

before : G.Rig → S.State
before r = R.run r (R.start r) calls_before

asked : G.Rig → S.State
asked r = (R.step r (before r) R.next_waking).next

-- what is computed: the answer, and the count behind the tick
computed : ((R.step bench (before bench) R.next_waking).answer.report.value ≡ 6) × ((R.step bench (asked bench) tick₀).next.count ≡ 5)
unfolding before asked calls_before bench rig of_task of_condition numbers of_line of_cycle tick₀ iter all any total over put command_word blank relax met drive names activate too_soon most_overruns more_by_one overrun takes rouse wake ready offer offers serve_flag serving serve wait_on wait_until_count leave wake_due family cleared deserted offs best chosen dispatch written copied row_words bus_words lowest_waking R.tested R.scheduled R.finished R.terminated R.cancelled R.cycle_queue R.ticked R.effect R.ended R.again R.settled R.decide R.no_such_one in_cycle is_minor is_activation R.last_count R.wrong_block R.refusals R.refusal R.words_at R.lent R.output R.accepted R.after R.step R.run R.started R.start
computed = (refl, refl)

pub made_before : List Made
made_before = run_of morning_rig (code_cycles bench) (R.start seen) calls_before

pub the_question : Made
the_question = made_of morning_rig (code_cycles bench) (before seen) R.next_waking

pub the_tick : Made
the_tick = made_of morning_rig (code_cycles bench) (asked seen) tick₀

pub at_four : Exec
at_four = record_of morning_rig (code_cycles bench) (before seen)

pub at_five : Exec
at_five = record_of morning_rig (code_cycles bench) (R.step seen (asked seen) tick₀).next

-- ---- what is asked for

before_sound : Rules.Sound seen (before seen)
unfolding before calls_before tick₀
before_sound =
    let ok = rig_ok morning_rig (code_cycles bench) morning_right in
    run_sound seen ok (R.start seen) (start_sound seen ok) calls_before (tt, (tt, (tt, (tt, (tt, (tt, (tt, (tt, tt))))))))

asked_sound : Rules.Sound seen (asked seen)
unfolding asked R.run
asked_sound = run_sound seen (rig_ok morning_rig (code_cycles bench) morning_right) (before seen) before_sound (R.next_waking ∷ []) (tt, tt)

pub before_ran : Ran morning_start made_before at_four
unfolding morning_start made_before at_four before calls_before tick₀
before_ran =
    ran morning_rig (code_cycles bench) morning_right (R.start seen)
    (start_sound seen (rig_ok morning_rig (code_cycles bench) morning_right)) calls_before (tt, (tt, (tt, (tt, (tt, (tt, (tt, (tt, tt))))))))

pub question_made : MadeOn at_four the_question
unfolding at_four the_question
question_made = made morning_rig (code_cycles bench) morning_right (before seen) before_sound R.next_waking tt

pub told_six : told_by the_question.step ≡ 6
unfolding the_question
told_six =
    ap (λ (a : R.Answer). a.report.value) (answer_is seen (before seen) R.next_waking)
    ∙ ap (λ (r : G.Rig). (R.step r (before r) R.next_waking).answer.report.value) morning_rig_lem
    ∙ computed.0

-- then one tick is made
pub tick_ran : Ran the_question.step.exec (the_tick ∷ []) at_five
unfolding the_question the_tick at_five asked tick₀
tick_ran = (made morning_rig (code_cycles bench) morning_right (asked seen) asked_sound tick₀ tt, refl)

five : the_tick.step.exec.st.count ≡ 5
unfolding the_tick
five = ap (λ (r : G.Rig). (R.step r (asked r) tick₀).next.count) morning_rig_lem ∙ computed.1

asks : the_question.call ≡ R.next_waking
unfolding the_question
asks = refl

tick_spares : (t : ℕ) → SparedIn the_question.step.exec (the_tick ∷ []) t
unfolding the_tick tick₀
tick_spares t = ((λ struck. struck), tt)

-- ---- WHAT IS PROMISED HOLDS OF IT

-- the tick that makes the count 5 leaves everybody waiting who waits on time
pub nobody_at_five : (t : ℕ) → OnTime the_question.step.exec t → state_in the_tick.step.exec t ≡ waiting
unfolding the_tick tick₀
nobody_at_five =
    nobody_before morning_rig (code_table bench) morning_start morning_starts made_before at_four before_ran the_question question_made asks
    6 (λ n. omega (arith, told_six)) [] the_question.step.exec refl tt the_tick (replicate 128 0) tick_ran.0 refl (omega (arith, five))

-- somebody waits for the count 6, and is woken by the tick that makes it
pub somebody_at_six : (t : ℕ) × OnTime at_four t × Wakes t 6 at_five
somebody_at_six =
    let w = next_wakes morning_rig (code_table bench) morning_start morning_starts made_before at_four before_ran the_question question_made asks
    (λ e. omega (arith, e, told_six)) in
    (w.0, w.1, subst (λ (c : ℕ). Wakes w.0 c at_five) told_six (w.3 (the_tick ∷ []) at_five tick_ran (tick_spares w.0)))
