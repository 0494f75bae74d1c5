-- WHAT THE PROGRAM `wiring` TELLS, byte by byte: the wiring sheet of a rig, or why the rig is refused.
use Rattle.std.specs.Prelude.{ℕ, ◌≤◌, ◌<◌, ◌≡◌, ◌⊎◌, ◌≢◌, Bool, true, false, cond, List, eqb, length, take}
use Rattle.compool.specs.View.{rows_of}
use Rattle.put_text.specs.Text.{ascii}
use Rattle.put_text.specs.Wrote.{Wrote}
use Rattle.rig_build.specs.declared.Answer.{Answer}
use Rattle.rig_meaning.proofs.Reading.{read_of}
use Rattle.bench_script.specs.Input.{rig_end}
use Rattle.wiring_lines.specs.Line.{refused_text, usage_text}
use Rattle.wiring_text.specs.Sheet.{sheet_text, sheet_room}

-- a rig that is accepted has a sheet, lines or a table; "A rig that is refused is told as `RIG`, number, line"
abbrev pub answered : Bool → Answer → List ℕ
answered table a = cond (eqb a.no 0) (sheet_text table a.rig.rows a.rig.master (rows_of a.rig.row)) (refused_text a.no a.line)

unfoldable pub file_text : Bool → List ℕ → List ℕ
file_text table file = answered table (read_of file)

-- the one option
abbrev pub table_option : List ℕ
table_option = ascii "--table"

-- what the program's arguments ask for, its own name counted among them: no more than that the lines, this one option the table, and anything else is
-- answered by how the program is called
pub data Asks (arguments : ℕ) (option file text : List ℕ) : Type 0 where
  lines : arguments < 2 → text ≡ file_text false file → Asks arguments option file text
  table : arguments ≡ 2 → option ≡ table_option → text ≡ file_text true file → Asks arguments option file text
  another : 2 ≤ arguments → (arguments ≡ 2 → option ≢ table_option) → text ≡ usage_text → Asks arguments option file text

-- "a rig, the line RUN, then script lines": the rig is read alone. What is asked for stands at the front, if there is room for any sheet; else
-- nothing is written.
pub record Told (arguments : ℕ) (option input out after : List ℕ) (p : ℕ) : Type 0 where
  pub is :
      ((text : List ℕ) × (sheet_room ≤ length out) × Asks arguments option (take (rig_end input) input) text × Wrote out 0 text after p)
      ⊎ ((length out < sheet_room) × (after ≡ out) × (p ≡ 0))
