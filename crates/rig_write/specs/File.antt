-- THE FILE OF A RIG: its lines in the file's order, and their text.
use Rattle.std.specs.Prelude.{ℕ, ◌*◌, ◌/◌, ◌%◌, ◌≡◌, Bool, not, ◌&&◌, List, [], ◌∷◌, ◌++◌, eqb, leb, ltb, get_or}
use Rattle.laws.specs.Sizes.{task_places, positions, condition_places, most_lines, minor_cycles, flags_a_cycle, most_rows}
use Rattle.rig.specs.declared.Row.{Row}
use Rattle.rig.specs.declared.Cycle.{Cycle}
use Rattle.rig.specs.declared.Rig.{Rig}
use Rattle.rig.specs.Rules.{no_row, Right}
use Rattle.rig.specs.Forms.{table_of}
use Rattle.rig_lines.specs.Kinds.{kind_rig, kind_t, kind_c, kind_a, kind_m, kind_b}
use Rattle.rig_lines.specs.Line.{Line}
use Rattle.rig_lines.specs.Text.{text}
use Rattle.rig_write.specs.Kept.{kept}

abbrev pub line : ℕ → List ℕ → Line
line k ns = record { kind = k; nums = ns }

-- RIG, edition (always 1), tasks, flags, master's bus address
abbrev pub rig_line : Rig → Line
rig_line g = line kind_rig (1 ∷ g.tasks ∷ g.flags ∷ g.master ∷ [])

-- T, task, controller, priority, privileged, activation flag: tasks from 1 on
abbrev pub is_task : Rig → ℕ → Bool
is_task g t = leb 1 t && leb t g.tasks

abbrev pub task_line : Rig → ℕ → Line
task_line g t = line kind_t (t ∷ get_or g.controller t 0 ∷ get_or g.priority t 0 ∷ get_or g.privileged t 0 ∷ get_or g.activation t 0 ∷ [])

-- C, task, position, latched, desired: the condition at place i is that of task i / 16 at position i % 16
abbrev pub is_condition : Rig → ℕ → Bool
is_condition g i = eqb (get_or g.present i 0) 1

abbrev pub condition_line : Rig → ℕ → Line
condition_line g i = line kind_c (i / positions ∷ i % positions ∷ get_or g.latched i 0 ∷ get_or g.desired i 0 ∷ [])

-- A, task, position, flag
abbrev pub is_line : Rig → ℕ → Bool
is_line g i = ltb i g.lines

abbrev pub flag_line : Rig → ℕ → Line
flag_line g i = line kind_a (get_or g.line_task i 0 ∷ get_or g.line_pos i 0 ∷ get_or g.line_flag i 0 ∷ [])

-- M, cycle, flag: the flag at place i is number i % 15 of cycle i / 15
abbrev pub table_flag_at : List (List ℕ) → ℕ → ℕ
table_flag_at table i = get_or (get_or table (i / flags_a_cycle) []) (i % flags_a_cycle) 0

abbrev pub is_flag : List (List ℕ) → ℕ → Bool
is_flag table i = not (eqb (table_flag_at table i) 0)

abbrev pub cycle_line : List (List ℕ) → ℕ → Line
cycle_line table i = line kind_m (i / flags_a_cycle ∷ table_flag_at table i ∷ [])

-- B, sender, its sub-address, receiver, its sub-address, words, period, phase
abbrev pub is_row : Rig → ℕ → Bool
is_row g i = ltb i g.rows

abbrev pub bus_numbers : Row → List ℕ
bus_numbers b = b.sender ∷ b.sender_sub ∷ b.receiver ∷ b.receiver_sub ∷ b.words ∷ b.period ∷ b.phase ∷ []

abbrev pub row_line : Rig → ℕ → Line
row_line g i = line kind_b (bus_numbers (get_or g.row i no_row))

-- "Records in this order"
unfoldable pub lines_from : Rig → List (List ℕ) → List Line
lines_from g table =
    rig_line g ∷
    (kept task_places (is_task g) (task_line g) ++
    (kept condition_places (is_condition g) (condition_line g) ++
    (kept most_lines (is_line g) (flag_line g) ++
    (kept (minor_cycles * flags_a_cycle) (is_flag table) (cycle_line table) ++
    kept most_rows (is_row g) (row_line g)))))

unfoldable pub file_of : Rig → List (List ℕ) → List ℕ
file_of g table = text (lines_from g table)

-- s is the file of the rig g with these cycles, and g is right
abbrev pub FileOfRight : List ℕ → Rig → List Cycle → Type 0
FileOfRight s g cycles = Right g cycles × (s ≡ file_of g (table_of cycles))
