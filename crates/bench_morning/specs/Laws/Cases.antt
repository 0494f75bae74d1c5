-- Cases of the morning, computed: what is printed of inputs that hold no rig, and of script lines of wrong shape.
use Rattle.std.specs.Prelude.{◌≡◌, refl, Bool, false, [], ◌∷◌}
use Rattle.std.proofs.Common.{ap}
use Rattle.text.specs.Split.{on_head, split, led}
use Rattle.decimal.specs.Decimal.{read_byte, read_on, dec_by, dec}
use Rattle.rules.specs.Rig as G
use Rattle.rules.specs.State as S
use Rattle.rig_build.specs.declared.Answer.{Answer}
use Rattle.rig_meaning.proofs.Laws.Read.{read_empty}
use Rattle.bench_script.specs.Letters.{lf, question}
use Rattle.bench_script.specs.Script.{verb_of, alone, with_number, with_value, with_two, fields_say, said_of}
use Rattle.bench_script.specs.Output.{fields_text, line_text}
use Rattle.bench_script.specs.Input.{is_run, before_run, rig_end}
use Rattle.bench_input.specs.Line.{last_text}
use Rattle.bench_turn.specs.Turn.{asked_by, asked_text, asked_next, turn_text, turn_next}
use Rattle.bench_morning.specs.Morning.{start_text, talk_text, whole_text, morning_text}

-- "K " and LF, an empty line, and x with no LF: each "prints ? alone"
pub wrong_lines : (panel : Bool) (r : G.Rig) (s : S.State) → talk_text panel r s (split lf (75 ∷ 32 ∷ 10 ∷ 10 ∷ 120 ∷ [])) ≡ question ∷ lf ∷ question ∷ lf ∷ question ∷ lf ∷ []
unfolding talk_text split on_head turn_text turn_next asked_text asked_next asked_by said_of fields_say verb_of alone with_number with_value with_two last_text read_byte read_on
wrong_lines panel r s = refl

-- with the panel's verbs off V, O and Y "print ? alone"
pub off_lines : (r : G.Rig) (s : S.State) → talk_text false r s (split lf (86 ∷ 10 ∷ 79 ∷ 9 ∷ 49 ∷ 10 ∷ 89 ∷ 9 ∷ 49 ∷ 9 ∷ 50 ∷ 10 ∷ [])) ≡ question ∷ lf ∷ question ∷ lf ∷ question ∷ lf ∷ []
unfolding talk_text split on_head turn_text turn_next asked_text asked_next asked_by said_of fields_say verb_of alone with_number with_value with_two last_text read_byte read_on
off_lines r s = refl

-- on or off, V with a number behind it does, and so does the small letter
pub v_stands_alone : (panel : Bool) (r : G.Rig) (s : S.State) → talk_text panel r s (split lf (86 ∷ 9 ∷ 49 ∷ 10 ∷ 118 ∷ 10 ∷ [])) ≡ question ∷ lf ∷ question ∷ lf ∷ []
unfolding talk_text split on_head turn_text turn_next asked_text asked_next asked_by said_of fields_say verb_of alone with_number with_value with_two last_text read_byte read_on
v_stands_alone panel r s = refl

-- and so does O with no number behind it
pub o_names_a_task : (panel : Bool) (r : G.Rig) (s : S.State) → talk_text panel r s (split lf (79 ∷ 10 ∷ [])) ≡ question ∷ lf ∷ []
unfolding talk_text split on_head turn_text turn_next asked_text asked_next asked_by said_of fields_say verb_of alone with_number with_value with_two last_text read_byte read_on
o_names_a_task panel r s = refl

-- and Y with one number
pub y_takes_two : (panel : Bool) (r : G.Rig) (s : S.State) → talk_text panel r s (split lf (89 ∷ 9 ∷ 49 ∷ 10 ∷ [])) ≡ question ∷ lf ∷ []
unfolding talk_text split on_head turn_text turn_next asked_text asked_next asked_by said_of fields_say verb_of alone with_number with_value with_two last_text read_byte read_on
y_takes_two panel r s = refl

-- a value is 0 or 1: L with 2 behind its flag does, on or off
pub values_are_two : (panel : Bool) (r : G.Rig) (s : S.State) → talk_text panel r s (split lf (76 ∷ 9 ∷ 49 ∷ 9 ∷ 50 ∷ 10 ∷ [])) ≡ question ∷ lf ∷ []
unfolding talk_text split on_head turn_text turn_next asked_text asked_next asked_by said_of fields_say verb_of alone with_number with_value with_two last_text read_byte read_on
values_are_two panel r s = refl

-- a script that ends with its last line's LF, and one with no line at all
pub ended_lines : (panel : Bool) (r : G.Rig) (s : S.State) → talk_text panel r s (split lf (82 ∷ 85 ∷ 78 ∷ 10 ∷ [])) ≡ question ∷ lf ∷ []
unfolding talk_text split on_head turn_text turn_next asked_text asked_next asked_by said_of fields_say verb_of alone with_number with_value with_two last_text read_byte read_on
ended_lines panel r s = refl

pub no_lines : (panel : Bool) (r : G.Rig) (s : S.State) → talk_text panel r s (split lf []) ≡ []
unfolding talk_text split last_text
no_lines panel r s = refl

-- "the line RUN": first behind "x" and LF, and not where it has no LF or a space
pub run_line_lem : rig_end (120 ∷ 10 ∷ 82 ∷ 85 ∷ 78 ∷ 10 ∷ 82 ∷ 85 ∷ 78 ∷ 10 ∷ []) ≡ 2
unfolding rig_end before_run split on_head is_run
run_line_lem = refl

pub no_run_line : rig_end (82 ∷ 85 ∷ 78 ∷ 32 ∷ 10 ∷ 82 ∷ 85 ∷ 78 ∷ []) ≡ 8
unfolding rig_end before_run split on_head is_run
no_run_line = refl

-- no input at all, and a script behind a rig that is empty: "A refused rig prints START, number, line, and ends."
pub no_input : (panel : Bool) → morning_text panel [] ≡ 83 ∷ 84 ∷ 65 ∷ 82 ∷ 84 ∷ 9 ∷ 49 ∷ 9 ∷ 49 ∷ 10 ∷ []
unfolding morning_text whole_text start_text rig_end before_run split line_text fields_text led dec dec_by
no_input panel = ap (λ (a : Answer). whole_text panel a []) read_empty

pub empty_rig : (panel : Bool) → morning_text panel (82 ∷ 85 ∷ 78 ∷ 10 ∷ 75 ∷ 10 ∷ []) ≡ 83 ∷ 84 ∷ 65 ∷ 82 ∷ 84 ∷ 9 ∷ 49 ∷ 9 ∷ 49 ∷ 10 ∷ []
unfolding morning_text whole_text start_text rig_end before_run split on_head is_run line_text fields_text led dec dec_by
empty_rig panel = ap (λ (a : Answer). whole_text panel a (75 ∷ 10 ∷ [])) read_empty
