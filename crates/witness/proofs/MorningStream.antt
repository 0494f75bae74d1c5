-- THE BENCH MORNING, from the bytes of its input to the bytes of its output: what the bench owes for the paper's whole input is the
-- paper's whole output.
use Rattle.std.specs.Prelude.{◌≡◌, refl, Bool, true, false, List, [], ◌∷◌, ◌++◌, map, ℕ, ◌+◌, drop}
use Rattle.std.proofs.Common.{◌∙◌, ap}
use Prim.Native.String.{◌++◌ as ◌⧺◌}
use Rattle.laws.specs.Iter.{iter}
use Rattle.laws.specs.All.{all}
use Rattle.laws.specs.Any.{any}
use Rattle.laws.specs.Lowest.{lowest}
use Rattle.laws.specs.Tables.{total, over}
use Rattle.laws.specs.Put.{put}
use Rattle.word_parts.specs.Packed.{command_word}
use Rattle.text.specs.Split.{on_head, split, led}
use Rattle.decimal.specs.Decimal as D
use Rattle.rules.specs.Rig as G
use Rattle.rules.specs.State.{blank}
use Rattle.rules.specs.Conditions.{relax, met, drive, names}
use Rattle.rules.specs.Serving.{activate, too_soon, most_overruns, more_by_one, overrun, takes, rouse, wake, ready, offer, offers, serve_flag, made, serving, serve}
use Rattle.rules.specs.Waiting.{wait_on, wait_until_count, leave, wake_due}
use Rattle.rules.specs.Family.{family, cleared, deserted, offs}
use Rattle.rules.specs.Running.{best, chosen, dispatch}
use Rattle.rules.specs.Bus.{written, copied, row_words, bus_words}
use Rattle.rules.specs.NextWaking.{lowest_waking}
use Rattle.rules.specs.Rig.{in_cycle, is_minor, is_activation}
use Rattle.rules.specs.Starting.{most_links, flag_of, comes_on, goes_off, comes_to, brought, starts, starts_below, lowest_blocking}
use Rattle.rules.specs.Calls as R
use Rattle.rules.specs.Scripts.{bench, rig, of_task, of_condition, numbers, of_line, of_cycle, tick₀, morning_calls}
use Rattle.rig_build.specs.declared.Answer.{Answer}
use Rattle.rig_build.specs.Read.{file_accepted}
use Rattle.rig_meaning.proofs.Reading.{read_of}
use Rattle.bench_script.specs.Input.{rig_end}
use Rattle.bench_script.specs.Script as C
use Rattle.bench_script.specs.Script.{said_of}
use Rattle.bench_script.specs.Output.{fields_text, line_text}
use Rattle.bench_input.specs.Line.{last_text}
use Rattle.bench_show.specs.Shown.{extra, numbers_of, text_of}
use Rattle.bench_turn.specs.Turn as U
use Rattle.bench_turn.specs.Turn.{asked_by}
use Rattle.bench_morning.specs.Morning.{start_columns, start_text, talk_text, whole_text, morning_text}
use Rattle.witness.specs.Text.{bytes, lf}
use Rattle.witness.specs.CodeRig.{code_cycles}
use Rattle.witness.specs.MorningText.{morning_script, morning_input, morning_output}
use Rattle.witness.specs.RightRigs.{morning_rig}
use Rattle.witness.proofs.Morning.{morning_rig_lem, morning_read}
use Rattle.witness.proofs.MorningRun.{input_rig, input_script}
use Rattle.exec_state.specs.View.{rig_of}
use Rattle.bench_script.specs.Letters.{start_name}

-- what is printed for the rules' rig r and the pieces of a script
abbrev told : Bool → G.Rig → List (List ℕ) → List ℕ
told panel r pieces = line_text start_name (start_columns r) ++ talk_text panel r (R.start r) pieces

computed : (panel : Bool) → told panel bench (morning_script ++ [] ∷ []) ≡ morning_output
unfolding bytes morning_script morning_output bench morning_calls rig of_task of_condition numbers of_line of_cycle tick₀ iter all any total over put command_word blank relax met drive names activate too_soon most_overruns more_by_one overrun takes rouse wake ready offer offers serve_flag made serving serve wait_on wait_until_count leave wake_due family cleared deserted offs best chosen dispatch written copied row_words bus_words R.tested R.scheduled R.finished R.terminated R.cancelled R.cycle_queue R.ticked R.effect R.ended R.again R.settled R.decide R.no_such_one in_cycle is_minor is_activation R.last_count R.wrong_block R.refusals R.refusal R.words_at R.lent R.output R.accepted R.after R.step R.run R.started R.start said_of C.fields_say C.verb_of C.alone C.with_number C.with_value C.with_two split on_head led D.read_byte D.read_on D.dec_by D.dec fields_text line_text extra numbers_of text_of talk_text last_text U.turn_text U.turn_next U.asked_text U.asked_next asked_by
computed panel = refl

accepted_text : (panel : Bool) (script : List ℕ) → whole_text panel (file_accepted morning_rig (code_cycles bench)) script ≡ told panel (rig_of morning_rig (code_cycles bench)) (split lf script)
unfolding whole_text start_text
accepted_text panel script = refl

pub morning_text_lem : (panel : Bool) → morning_text panel morning_input ≡ morning_output
unfolding morning_text bytes
morning_text_lem panel =
    ap (λ (a : Answer). whole_text panel a (drop (rig_end morning_input + 4) morning_input)) (ap read_of input_rig ∙ morning_read)
    ∙ accepted_text panel (drop (rig_end morning_input + 4) morning_input)
    ∙ ap (told panel (rig_of morning_rig (code_cycles bench))) input_script
    ∙ ap (λ (r : G.Rig). told panel r (morning_script ++ [] ∷ [])) morning_rig_lem
    ∙ computed panel

-- THE PANEL on the same rig: nobody waits for a count; task 1 waits for the count 2, and nobody runs; no start came too soon, and there is no
-- task 4; and with the panel's verbs off
unfoldable pub panel_script : List (List ℕ)
panel_script = map bytes ("V" ∷ "U\t2" ∷ "V" ∷ "V\t1" ∷ "O\t1" ∷ "O\t4" ∷ "" ∷ [])

pub panel_prints : told true bench panel_script ≡ bytes ("START\t0\t0\t1\t0\t0\n" ⧺ "V\t0\t0\t1\t0\t0\n" ⧺ "U\t0\t0\t0\t0\t0\n" ⧺ "V\t0\t0\t0\t0\t0\t2\n" ⧺ "?\n" ⧺ "O\t0\t0\t0\t0\t0\t0\n" ⧺ "O\t6\t0\t0\t0\t0\n")
unfolding panel_script bytes lowest_waking morning_script morning_output bench morning_calls rig of_task of_condition numbers of_line of_cycle tick₀ iter all any total over put command_word blank relax met drive names activate too_soon most_overruns more_by_one overrun takes rouse wake ready offer offers serve_flag made serving serve wait_on wait_until_count leave wake_due family cleared deserted offs best chosen dispatch written copied row_words bus_words R.tested R.scheduled R.finished R.terminated R.cancelled R.cycle_queue R.ticked R.effect R.ended R.again R.settled R.decide R.no_such_one in_cycle is_minor is_activation R.last_count R.wrong_block R.refusals R.refusal R.words_at R.lent R.output R.accepted R.after R.step R.run R.started R.start said_of C.fields_say C.verb_of C.alone C.with_number C.with_value C.with_two split on_head led D.read_byte D.read_on D.dec_by D.dec fields_text line_text extra numbers_of text_of talk_text last_text U.turn_text U.turn_next U.asked_text U.asked_next asked_by
panel_prints = refl

pub runner_prints : told false bench panel_script ≡ bytes ("START\t0\t0\t1\t0\t0\n" ⧺ "?\n" ⧺ "U\t0\t0\t0\t0\t0\n" ⧺ "?\n" ⧺ "?\n" ⧺ "?\n" ⧺ "?\n")
unfolding panel_script bytes lowest_waking morning_script morning_output bench morning_calls rig of_task of_condition numbers of_line of_cycle tick₀ iter all any total over put command_word blank relax met drive names activate too_soon most_overruns more_by_one overrun takes rouse wake ready offer offers serve_flag made serving serve wait_on wait_until_count leave wake_due family cleared deserted offs best chosen dispatch written copied row_words bus_words R.tested R.scheduled R.finished R.terminated R.cancelled R.cycle_queue R.ticked R.effect R.ended R.again R.settled R.decide R.no_such_one in_cycle is_minor is_activation R.last_count R.wrong_block R.refusals R.refusal R.words_at R.lent R.output R.accepted R.after R.step R.run R.started R.start said_of C.fields_say C.verb_of C.alone C.with_number C.with_value C.with_two split on_head led D.read_byte D.read_on D.dec_by D.dec fields_text line_text extra numbers_of text_of talk_text last_text U.turn_text U.turn_next U.asked_text U.asked_next asked_by
runner_prints = refl

-- "WHY WON'T IT START?" on the same rig. Task 1 is active. Task 2's condition has a minor-cycle flag: it can start. Task 3's has task 2's activation
-- flag: within no link its condition 0 blocks, within one it can start. More than 3 links, and no task 4. No task runs by then.
unfoldable pub why_script : List (List ℕ)
why_script = map bytes ("Y\t1\t0" ∷ "S\t2" ∷ "S\t3" ∷ "U\t2" ∷ "Y\t2\t0" ∷ "Y\t3\t0" ∷ "Y\t3\t1" ∷ "Y\t3\t4" ∷ "Y\t4\t0" ∷ "" ∷ [])

pub why_prints : told true bench why_script ≡ bytes ("START\t0\t0\t1\t0\t0\n" ⧺ "Y\t8\t0\t1\t0\t0\n" ⧺ "S\t0\t0\t1\t0\t0\n" ⧺ "S\t0\t0\t1\t0\t0\n" ⧺ "U\t0\t0\t0\t0\t0\n" ⧺ "Y\t0\t0\t0\t0\t0\n" ⧺ "Y\t0\t0\t0\t0\t0\t0\n" ⧺ "Y\t0\t0\t0\t0\t0\n" ⧺ "Y\t11\t0\t0\t0\t0\n" ⧺ "Y\t6\t0\t0\t0\t0\n")
unfolding why_script bytes lowest lowest_blocking starts_below starts brought comes_to comes_on goes_off flag_of most_links morning_script morning_output bench morning_calls rig of_task of_condition numbers of_line of_cycle tick₀ iter all any total over put command_word blank relax met drive names activate too_soon most_overruns more_by_one overrun takes rouse wake ready offer offers serve_flag made serving serve wait_on wait_until_count leave wake_due family cleared deserted offs best chosen dispatch written copied row_words bus_words R.tested R.scheduled R.finished R.terminated R.cancelled R.cycle_queue R.ticked R.effect R.ended R.again R.settled R.decide R.no_such_one in_cycle is_minor is_activation R.last_count R.wrong_block R.refusals R.refusal R.words_at R.lent R.output R.accepted R.after R.step R.run R.started R.start said_of C.fields_say C.verb_of C.alone C.with_number C.with_value C.with_two split on_head led D.read_byte D.read_on D.dec_by D.dec fields_text line_text extra numbers_of text_of talk_text last_text U.turn_text U.turn_next U.asked_text U.asked_next asked_by
why_prints = refl
