-- THE BENCH MORNING, run on records of the code: whatever start and run meet what start and the calls owe, there is one, and
-- what is printed of it is the paper's whole output, byte for byte. Task 3 waits by `R 2` and wakes as the waking clause says.
use Rattle.std.specs.Prelude.{◌≡◌, refl, false, List, [], ◌∷◌, ◌++◌, map, ℕ, ◌+◌, length, take, drop}
use Rattle.std.proofs.Common.{sym, ◌∙◌, ap, subst, inl}
use Rattle.laws.specs.Iter.{iter}
use Rattle.laws.specs.All.{all}
use Rattle.laws.specs.Any.{any}
use Rattle.laws.specs.Tables.{total, over}
use Rattle.laws.specs.Put.{put}
use Rattle.word_parts.specs.Packed.{command_word}
use Rattle.text.specs.Split.{on_head, split, led}
use Rattle.decimal.specs.Decimal as D
use Rattle.rig.specs.declared.Cycle.{Cycle}
use Rattle.rig.specs.declared.Rig.{Rig}
use Rattle.rules.specs.Rig as G
use Rattle.rules.specs.State as S
use Rattle.rules.specs.State.{blank}
use Rattle.rules.specs.Conditions.{relax, met, drive, names}
use Rattle.rules.specs.Serving.{activate, too_soon, most_overruns, more_by_one, overrun, takes, rouse, wake, ready, offer, offers, serve_flag, made, serving, serve}
use Rattle.rules.specs.Waiting.{wait_on, wait_until_count, leave, wake_due}
use Rattle.rules.specs.Family.{family, cleared, deserted, offs}
use Rattle.rules.specs.Running.{best, chosen, dispatch}
use Rattle.rules.specs.Bus.{written, copied, row_words, bus_words}
use Rattle.rules.specs.Rig.{in_cycle, is_minor, is_activation}
use Rattle.rules.specs.Calls as R
use Rattle.rules.specs.Proper.{ProperRun}
use Rattle.rules.specs.Soundness as Rules
use Rattle.rules_laws.specs.Steps.{start_sound, run_sound}
use Rattle.rules.specs.Scripts.{bench, rig, of_task, of_condition, numbers, of_line, of_cycle, tick₀, morning_calls}
use Rattle.exec_state.specs.View.{rig_of}
use Rattle.exec.specs.Call.{answer_of}
use Rattle.exec.specs.Sound.{view}
use Rattle.exec_sound.specs.Laws.RightRig.{rig_ok}
use Rattle.exec.specs.Starting.{Starts}
use Rattle.exec.specs.Laws.Starting.{starts_same}
use Rattle.exec.specs.declared.Exec.{Exec}
use Rattle.exec.specs.declared.Step.{Step}
use Rattle.runs.specs.Runs.{Made, Ran, calls_of, AcceptedStart}
use Rattle.runs.specs.Demands.{Demand}
use Rattle.runs.proofs.Laws.{demand}
use Rattle.bench_script.specs.Input.{is_run, before_run, rig_end}
use Rattle.bench_script.specs.Script as C
use Rattle.bench_script.specs.Script.{said_of}
use Rattle.bench_script.specs.Output.{fields_text, line_text}
use Rattle.bench_script.specs.Letters.{start_name}
use Rattle.bench_show.specs.Shown.{extra, columns, numbers_of, text_of}
use Rattle.bench_turn.specs.Turn as U
use Rattle.bench_turn.specs.Turn.{letter_of, asked_by, answer_text}
use Rattle.bench_morning.specs.Morning.{start_columns}
use Rattle.witness.specs.Text.{bytes, lf}
use Rattle.witness.specs.CodeRig.{code_table, code_cycles}
use Rattle.witness.proofs.Records.{record_of, answer_by, begun_of, run_of, calls_of_lem, record_shows, started, ran, start_exists, run_same}
use Rattle.witness.specs.MorningText.{morning_file, morning_script, morning_input, morning_output}
use Rattle.witness.specs.RightRigs.{morning_rig, morning_right}
use Rattle.witness.proofs.Morning.{morning_rig_lem}

-- ---- the input, taken apart

-- what stands before the line RUN is the rig file
pub input_rig : take (rig_end morning_input) morning_input ≡ morning_file
unfolding bytes morning_input morning_file rig_end before_run is_run split on_head
input_rig = refl

-- behind the line RUN stand the script's lines, and behind the last LF nothing
pub input_script : split lf (drop (rig_end morning_input + length (bytes "RUN\n")) morning_input) ≡ morning_script ++ [] ∷ []
unfolding bytes morning_input morning_script rig_end before_run is_run split on_head
input_script = refl

-- they ask for the calls of the rules' bench morning
pub script_asks : map (λ (l : List ℕ). asked_by (said_of false l)) morning_script ≡ map U.call morning_calls
unfolding bytes morning_script morning_calls tick₀ asked_by said_of C.fields_say C.verb_of C.alone C.with_number C.with_value C.with_two split on_head D.read_byte D.read_on
script_asks = refl

-- ---- what is printed of a run

-- the line of each call, by the script line that asked for it
abbrev pub printed : List (List ℕ) → List Made → List ℕ
printed [] ms = []
printed (l ∷ ls) [] = []
printed (l ∷ ls) (m ∷ ms) = answer_text (letter_of (said_of false l)) m.step m.after ++ printed ls ms

-- "START", 0 accepted, count and running task of the record that the start gave, and what its answer tells
abbrev pub start_text : Step → List ℕ
start_text b = line_text start_name (columns (answer_of b.answer) b.exec.st.count b.exec.st.running)

-- the same, by the rules alone
abbrev ruled : List (List ℕ) → G.Rig → S.State → List R.Call → List ℕ
ruled [] r s ks = []
ruled (l ∷ ls) r s [] = []
ruled (l ∷ ls) r s (k ∷ ks) =
    let p = R.step r s k in
    text_of (letter_of (said_of false l)) (answer_of (answer_by p.answer.code p.answer.report)) p.next.count p.next.running p.lent
    ++ ruled ls r p.next ks

printed_ruled : (g : Rig) (cycles : List Cycle) (ls : List (List ℕ)) (s : S.State) (ks : List R.Call)
    → printed ls (run_of g cycles s ks) ≡ ruled ls (rig_of g cycles) s ks
printed_ruled g cycles [] s ks = refl
printed_ruled g cycles (l ∷ ls) s [] = refl
printed_ruled g cycles (l ∷ ls) s (k ∷ ks) =
    let p = R.step (rig_of g cycles) s k in
    ap (λ (w : List ℕ). text_of (letter_of (said_of false l)) (answer_of (answer_by p.answer.code p.answer.report)) p.next.count p.next.running p.lent ++ w)
    (printed_ruled g cycles ls p.next ks)

abbrev start_ruled : G.Rig → List ℕ
start_ruled r = line_text start_name (start_columns r)

output_ruled : start_ruled bench ++ ruled morning_script bench (R.start bench) morning_calls ≡ morning_output
unfolding bytes morning_script morning_output bench morning_calls rig of_task of_condition numbers of_line of_cycle tick₀ iter all any total over put command_word blank relax met drive names activate too_soon most_overruns more_by_one overrun takes rouse wake ready offer offers serve_flag made serving serve wait_on wait_until_count leave wake_due family cleared deserted offs best chosen dispatch written copied row_words bus_words R.tested R.scheduled R.finished R.terminated R.cancelled R.cycle_queue R.ticked R.effect R.ended R.again R.settled R.decide R.no_such_one in_cycle is_minor is_activation R.last_count R.wrong_block R.refusals R.refusal R.words_at R.lent R.output R.accepted R.after R.step R.run R.started R.start said_of C.fields_say C.verb_of C.alone C.with_number C.with_value C.with_two split on_head led D.read_byte D.read_on D.dec_by D.dec fields_text line_text extra numbers_of text_of
output_ruled = refl

-- ---- THE RUN: there is one, and it prints the paper's output

-- the rules' rig of the code's rig
abbrev seen : G.Rig
seen = rig_of morning_rig (code_cycles bench)

-- the record that shows a state of it
abbrev pub shown_by : S.State → Exec
shown_by s = record_of morning_rig (code_cycles bench) s

unfoldable pub morning_begun : Step
morning_begun = begun_of morning_rig (code_cycles bench)

unfoldable pub morning_start : Exec
morning_start = shown_by (R.start (rig_of morning_rig (code_cycles bench)))

unfoldable pub morning_run : List Made
morning_run = run_of morning_rig (code_cycles bench) (R.start (rig_of morning_rig (code_cycles bench))) morning_calls

unfoldable pub morning_end : Exec
morning_end = shown_by (R.run (rig_of morning_rig (code_cycles bench)) (R.start (rig_of morning_rig (code_cycles bench))) morning_calls)

proper : ProperRun morning_calls
unfolding morning_calls tick₀
proper = (tt, (tt, (tt, (tt, (tt, (tt, (tt, (tt, (tt, (tt, tt))))))))))

start_is : Rules.Sound seen (R.start seen)
start_is = start_sound seen (rig_ok morning_rig (code_cycles bench) morning_right)

morning_begins : Starts morning_rig (code_table bench) morning_begun
unfolding morning_begun
morning_begins = record { is = inl (morning_right, started morning_rig (code_cycles bench) morning_right) }

pub morning_starts : AcceptedStart morning_rig (code_table bench) morning_start
unfolding morning_start
morning_starts = start_exists morning_rig (code_table bench) morning_right

pub morning_ran : Ran morning_start morning_run morning_end
unfolding morning_start morning_run morning_end
morning_ran = ran morning_rig (code_cycles bench) morning_right (R.start seen) start_is morning_calls proper

pub morning_calls_lem : calls_of morning_run ≡ morning_calls
unfolding morning_run
morning_calls_lem = calls_of_lem morning_rig (code_cycles bench) (R.start seen) morning_calls

pub morning_prints : start_text morning_begun ++ printed morning_script morning_run ≡ morning_output
unfolding morning_begun morning_run
morning_prints =
    ap (λ (l : List ℕ). start_ruled seen ++ l) (printed_ruled morning_rig (code_cycles bench) morning_script (R.start seen) morning_calls)
    ∙ ap (λ (r : G.Rig). start_ruled r ++ ruled morning_script r (R.start r) morning_calls) morning_rig_lem
    ∙ output_ruled

-- the record at its end shows the state of the rules' bench morning
pub morning_shows : view morning_end ≡ R.run bench (R.start bench) morning_calls
unfolding morning_end
morning_shows =
    record_shows morning_rig (code_cycles bench) morning_right (R.run seen (R.start seen) morning_calls)
    (run_sound seen (rig_ok morning_rig (code_cycles bench) morning_right) (R.start seen) start_is morning_calls proper)
    ∙ ap (λ (r : G.Rig). R.run r (R.start r) morning_calls) morning_rig_lem

-- DEMAND 3 is said of this run
pub morning_demand : Demand morning_start morning_run morning_end
morning_demand = demand morning_rig (code_table bench) morning_start morning_starts morning_run morning_end morning_ran

-- whatever accepted start of that rig, and whatever run of those calls: they are these, and so they print the same
pub morning_always : (x y : Exec) (ms : List Made) (s : AcceptedStart morning_rig (code_table bench) x) → Ran x ms y → calls_of ms ≡ morning_calls
    → start_text s.begun ++ printed morning_script ms ≡ morning_output
unfolding morning_begun morning_start
morning_always x y ms s p e =
    let b : s.begun ≡ morning_begun = starts_same morning_rig (code_table bench) s.begun morning_begun s.starts morning_begins in
    let f : x ≡ morning_start = sym s.gave ∙ ap (λ (t : Step). t.exec) b in
    let q = subst (λ (z : Exec). Ran z ms y) f p in
    let g = run_same morning_start ms morning_run y morning_end q morning_ran (e ∙ sym morning_calls_lem) in
    (λ i. start_text (b i) ++ printed morning_script (g i)) ∙ morning_prints
