-- A LINE OF THE WIRING SHEET, byte by byte (L11).
use Rattle.std.specs.Prelude.{ℕ, zero, suc, Bool, cond, List, [], ◌∷◌, ◌++◌, eqb}
use Rattle.laws.specs.Sizes.{minor_cycles}
use Rattle.put_text.specs.Text.{ascii}
use Rattle.text.specs.Split.{lf, tab}
use Rattle.bench_script.specs.Output.{fields_text, line_text}

-- the texts of the first n numbers, one after the other
unfoldable pub each : ℕ → (ℕ → List ℕ) → List ℕ
each zero text = []
each (suc n) text = each n text ++ text n

-- a cell of the table: a number after a tab; of 0 the tab alone
unfoldable pub cell : ℕ → List ℕ
cell n = cond (eqb n 0) (tab ∷ []) (fields_text (n ∷ []))

-- a cell for each cycle, and each cycle's number
unfoldable pub cells_text : (ℕ → ℕ) → List ℕ
cells_text in_cycle = each minor_cycles (λ (c : ℕ). cell (in_cycle c))

unfoldable pub numbers_text : List ℕ
numbers_text = each minor_cycles (λ (c : ℕ). fields_text (c ∷ []))

-- a line: a name, a number, how often in a frame; in the table the cycles' cells, else what more there is to say
unfoldable pub sheet_line : Bool → List ℕ → ℕ → ℕ → (ℕ → ℕ) → List ℕ → List ℕ
sheet_line table name number times in_cycle more =
    ((name ++ fields_text (number ∷ times ∷ [])) ++ cond table (cells_text in_cycle) (fields_text more)) ++ (lf ∷ [])

-- what stands over the table's first columns
abbrev pub column_names : List ℕ
column_names = ascii "KIND\tNUMBER\tTIMES"

-- the table's first line; the lines alone have none
unfoldable pub top_text : Bool → List ℕ
top_text table = cond table ((column_names ++ numbers_text) ++ (lf ∷ [])) []

abbrev pub rig_name : List ℕ
rig_name = ascii "RIG"

-- "A rig that is refused is told as `RIG`, number, line"
abbrev pub refused_text : ℕ → ℕ → List ℕ
refused_text number line = line_text rig_name (number ∷ line ∷ [])

-- for an option that there is not
abbrev pub usage_text : List ℕ
usage_text = ascii "usage: wiring [--table] < RIG\n"

-- a name of at most eight letters and two fields; a field for each cycle; more than a whole line has
abbrev pub head_room : ℕ
head_room = 30

abbrev pub cells_room : ℕ
cells_room = 704

abbrev pub line_room : ℕ
line_room = 736
