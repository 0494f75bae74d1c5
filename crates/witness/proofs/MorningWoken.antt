-- What follows from MorningWait.antt.
use Rattle.std.specs.Prelude.{◌≡◌, refl, List, [], ◌∷◌, ◌++◌, ℕ, ◌+◌, replicate}
use Rattle.std.proofs.Common.{◌∙◌, ap, subst, arith}
use Rattle.std.proofs.lemmas.List.{length-replicate}
use Rattle.laws.specs.Iter.{iter}
use Rattle.laws.specs.All.{all}
use Rattle.laws.specs.Any.{any}
use Rattle.laws.specs.Tables.{total, over}
use Rattle.laws.specs.Put.{put}
use Rattle.word_parts.specs.Packed.{command_word}
use Rattle.rules.specs.Rig as G
use Rattle.rules.specs.State as S
use Rattle.rules.specs.State.{blank, waiting, dispatchable}
use Rattle.rules.specs.Conditions.{relax, met, drive, names}
use Rattle.rules.specs.Serving.{activate, too_soon, most_overruns, more_by_one, overrun, takes, rouse, wake, ready, offer, offers, serve_flag, serving, serve}
use Rattle.rules.specs.Waiting.{wait_on, wait_until_count, leave, wake_due}
use Rattle.rules.specs.Family.{family, cleared, deserted, offs}
use Rattle.rules.specs.Running.{best, chosen, dispatch}
use Rattle.rules.specs.Bus.{written, copied, row_words, bus_words}
use Rattle.rules.specs.Rig.{in_cycle, is_minor, is_activation}
use Rattle.rules.specs.Calls as R
use Rattle.rules.specs.Soundness as Rules
use Rattle.rules_laws.specs.Steps.{start_sound, run_sound, step_sound}
use Rattle.rules.specs.Scripts.{bench, rig, of_task, of_condition, numbers, of_line, of_cycle, tick₀, morning_calls}
use Rattle.exec_state.specs.View.{rig_of}
use Rattle.exec_sound.specs.Laws.RightRig.{rig_ok}
use Rattle.exec.specs.declared.Exec.{Exec}
use Rattle.runs.specs.Runs.{Made, MadeOn, Ran, SparedIn, code_of}
use Rattle.runs.specs.Demands.{Wakes, state_in}
use Rattle.runs.proofs.Laws.{waking_for}
use Rattle.witness.specs.CodeRig.{code_table, code_cycles}
use Rattle.witness.proofs.Records.{record_of, run_of, made_of, answer_is, made, ran}
use Rattle.witness.specs.RightRigs.{morning_rig, morning_right}
use Rattle.witness.proofs.Morning.{morning_rig_lem}
use Rattle.witness.proofs.MorningRun.{morning_start, morning_run, morning_starts}
use Rattle.witness.proofs.MorningWait.{seen, due, computed, the_last, at_five, due_sound, three_wakes}

-- so at count 5 task 3 is waiting
five : at_five.st.count ≡ 5
unfolding at_five
five = ap (λ (r : G.Rig). (due r).count) morning_rig_lem ∙ computed.3

pub three_waits : (at_five.st.count ≡ 5) × (state_in at_five 3 ≡ waiting)
three_waits = (five, three_wakes.waits (omega (arith, five)))

-- and the last tick of the morning makes the count 6 and leaves it dispatchable
pub three_woken : (code_of the_last.step ≡ 0) × (the_last.step.exec.st.count ≡ 6) × (state_in the_last.step.exec 3 ≡ dispatchable)
unfolding the_last tick₀ at_five
three_woken =
    three_wakes.wakes the_last (replicate 128 0) (made morning_rig (code_cycles bench) morning_right (due seen) due_sound tick₀ tt) refl
    (omega (arith, length-replicate {A = ℕ} 128 0)) (omega (arith, five))
