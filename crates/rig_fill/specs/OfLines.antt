-- THE RIG OF A FILE'S LINES, said by what each of its tables holds.
use Rattle.std.specs.Prelude.{ℕ, zero, suc, ◌+◌, Bool, cond, List, [], ◌∷◌, ◌++◌, set, replicate}
use Rattle.rig.specs.declared.Row.{Row}
use Rattle.rig.specs.declared.Rig.{Rig}
use Rattle.rig_tables.specs.Tests.{place}
use Rattle.rig.specs.Rules.{no_row}
use Rattle.rig_lines.specs.Kinds.{kind_t, kind_c, kind_a, kind_b}
use Rattle.rig_lines.specs.Line.{Line}
use Rattle.rig_lines.specs.Whole.{number_of, is_kind, is_flag_line, how_many, tasks_of, flags_of, master_of}

abbrev pub zeros : ℕ → List ℕ
zeros n = replicate n 0

-- a table after the lines: each line that is meant puts what it says at its place
unfoldable pub stored : (Line → Bool) → (Line → ℕ) → (Line → ℕ) → List ℕ → List Line → List ℕ
stored meant at says l [] = l
stored meant at says l (r ∷ rs) = stored meant at says (cond (meant r) (set l (at r) (says r)) l) rs

-- a list after the lines: those that are meant put what they say one behind the other, from place i on
unfoldable pub listed : {A : Type 0} → (Line → Bool) → (Line → A) → ℕ → List A → List Line → List A
listed meant says i l [] = l
listed meant says i l (r ∷ rs) = cond (meant r) (listed meant says (i + 1) (set l i (says r)) rs) (listed meant says i l rs)

-- T, task, controller, priority, privileged, activation flag: number f of task t's line at place t
abbrev pub task_table : ℕ → List Line → List ℕ
task_table f = stored (is_kind kind_t) (number_of 0) (number_of f) (zeros 65)

-- C, task, position, latched, desired: at the place of that task and position
abbrev pub condition_place : Line → ℕ
condition_place r = place (number_of 0 r) (number_of 1 r)

abbrev pub condition_table : (Line → ℕ) → List Line → List ℕ
condition_table says = stored (is_kind kind_c) condition_place says (zeros 1040)

abbrev pub one : Line → ℕ
one r = 1

-- A, task, position, flag: one behind the other
abbrev pub line_table : ℕ → List Line → List ℕ
line_table f = listed (is_kind kind_a) (number_of f) 0 (zeros 1024)

-- B, sender, its sub-address, receiver, its sub-address, words, period, phase: one behind the other
unfoldable pub row_said : Line → Row
row_said r =
    record {
      sender = number_of 0 r;
      sender_sub = number_of 1 r;
      receiver = number_of 2 r;
      receiver_sub = number_of 3 r;
      words = number_of 4 r;
      period = number_of 5 r;
      phase = number_of 6 r;
    }

-- RIG, edition, tasks, flags, master's bus address; and the tables. "entries beyond its counts are 0"
unfoldable pub rig_from : List Line → Rig
rig_from rs =
    record {
      tasks = tasks_of rs;
      flags = flags_of rs;
      master = master_of rs;
      lines = how_many (is_kind kind_a) rs;
      rows = how_many (is_kind kind_b) rs;
      controller = task_table 1 rs;
      priority = task_table 2 rs;
      privileged = task_table 3 rs;
      activation = task_table 4 rs;
      present = condition_table one rs;
      latched = condition_table (number_of 2) rs;
      desired = condition_table (number_of 3) rs;
      line_task = line_table 0 rs;
      line_pos = line_table 1 rs;
      line_flag = line_table 2 rs;
      row = listed (is_kind kind_b) row_said 0 (replicate 64 no_row) rs;
    }

-- M, cycle, flag: a cycle's flags one behind the other
abbrev pub flags_from : List Line → ℕ → List ℕ
flags_from rs c = listed (is_flag_line c) (number_of 1) 0 (zeros 15) rs

-- n places, of which place i holds f i
unfoldable pub places : {A : Type 0} → ℕ → (ℕ → A) → List A
places zero f = []
places (suc n) f = places n f ++ (f n ∷ [])

-- "sixty-four cycles of up to fifteen flags each"
unfoldable pub table_from : List Line → List (List ℕ)
table_from rs = places 64 (flags_from rs)
