-- THE WIRING SHEET, byte by byte (L11): "`ROW`, row, times a frame .., phase, period; then `TERMINAL`, address, commands to
-- it a frame, for each that is spoken to"; or the same as a table to paste into a sheet, with a column for each cycle of a frame.
use Rattle.std.specs.Prelude.{ℕ, ◌+◌, Bool, cond, List, [], ◌∷◌, ◌++◌, eqb}
use Rattle.put_text.specs.Text.{ascii}
use Rattle.rules.specs.Rig.{Row}
use Rattle.rules.specs.Frame.{due_in, commands_in, times_a_frame, commands_a_frame}
use Rattle.wiring_lines.specs.Line.{each, sheet_line, top_text}

abbrev pub row_name : List ℕ
row_name = ascii "ROW"

unfoldable pub row_text : Bool → ℕ → Row → List ℕ
row_text table number b = sheet_line table row_name number (times_a_frame b) (due_in b) (b.phase ∷ b.period ∷ [])

-- rows are numbered from 1
unfoldable pub rows_text : Bool → ℕ → (ℕ → Row) → List ℕ
rows_text table rows row = each rows (λ (k : ℕ). row_text table (k + 1) (row k))

abbrev pub terminal_name : List ℕ
terminal_name = ascii "TERMINAL"

-- "for each that is spoken to": no line for another
unfoldable pub spoken_text : Bool → ℕ → ℕ → (ℕ → ℕ) → List ℕ
spoken_text table address commands in_cycle = cond (eqb commands 0) [] (sheet_line table terminal_name address commands in_cycle [])

unfoldable pub terminal_text : Bool → ℕ → ℕ → (ℕ → Row) → ℕ → List ℕ
terminal_text table rows master row address =
    spoken_text table address (commands_a_frame rows master row address) (commands_in rows master row address)

-- terminals have the addresses 0 to 31
abbrev pub addresses : ℕ
addresses = 32

unfoldable pub terminals_text : Bool → ℕ → ℕ → (ℕ → Row) → List ℕ
terminals_text table rows master row = each addresses (terminal_text table rows master row)

-- the whole sheet of so many rows
unfoldable pub sheet_text : Bool → ℕ → ℕ → (ℕ → Row) → List ℕ
sheet_text table rows master row = (top_text table ++ rows_text table rows row) ++ terminals_text table rows master row

-- more than a sheet has: a first line, 64 rows and 32 terminals
abbrev pub sheet_room : ℕ
sheet_room = 71392
