-- A BENCH MORNING: the whole output of a whole input, in the rules' words. `panel` is whether the panel's verbs are on.
-- "The bench runner reads from standard input a rig, the line RUN, then script lines .. It takes each answer apart and prints .."
use Rattle.std.specs.Prelude.{ℕ, ◌+◌, Bool, cond, List, [], ◌∷◌, ◌++◌, eqb, take, drop}
use Rattle.text.specs.Split.{split}
use Rattle.rules.specs.Rig as G
use Rattle.rules.specs.State as S
use Rattle.rules.specs.Calls as R
use Rattle.exec_state.specs.View.{rig_of}
use Rattle.rig_build.specs.declared.Answer.{Answer}
use Rattle.rig_meaning.proofs.Reading.{read_of}
use Rattle.bench_script.specs.Letters.{lf, start_name}
use Rattle.bench_script.specs.Output.{line_text}
use Rattle.bench_script.specs.Input.{rig_end}
use Rattle.bench_input.specs.Opening.{run_line}
use Rattle.bench_input.specs.Line.{last_text}
use Rattle.bench_turn.specs.Turn.{turn_text, turn_next}

-- the rules' rig of an accepted file
abbrev pub file_rig : Answer → G.Rig
file_rig a = rig_of a.rig a.cycles

-- the columns of every answer, of a start: 0, the count, the running task, and L2's numbers "after the running task wherever it prints that"
abbrev pub start_columns : G.Rig → List ℕ
start_columns r = 0 ∷ (R.start r).count ∷ (R.start r).running ∷ (R.started r).woken ∷ (R.started r).activated ∷ []

-- "A refused rig prints START, number, line"; an accepted one START with the columns of every answer
unfoldable pub start_text : Answer → List ℕ
start_text a = cond (eqb a.no 0) (line_text start_name (start_columns (file_rig a))) (line_text start_name (a.no ∷ a.line ∷ []))

-- "then script lines": each piece that an LF ends has its turn, one after the other; the last piece has none behind it
unfoldable pub talk_text : Bool → G.Rig → S.State → List (List ℕ) → List ℕ
talk_text panel r s [] = []
talk_text panel r s (last ∷ []) = last_text last
talk_text panel r s (line ∷ next ∷ lines) = turn_text panel r s line ++ talk_text panel r (turn_next panel r s line) (next ∷ lines)

-- "A refused rig prints START, number, line, and ends."
unfoldable pub whole_text : Bool → Answer → List ℕ → List ℕ
whole_text panel a script = start_text a ++ cond (eqb a.no 0) (talk_text panel (file_rig a) (R.start (file_rig a)) (split lf script)) []

-- "a rig, the line RUN, then script lines"; "Without RUN the whole input is the rig."
unfoldable pub morning_text : Bool → List ℕ → List ℕ
morning_text panel input = whole_text panel (read_of (take (rig_end input) input)) (drop (rig_end input + run_line) input)
