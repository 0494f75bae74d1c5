-- THE TWO FORMS of the sixty-four cycles, the rig of given tables, and the rig of all zeros.
use Rattle.std.specs.Prelude.{List, map, ℕ, replicate}
use Rattle.laws.specs.Sizes.{task_places, condition_places, most_lines, most_rows, minor_cycles, flags_a_cycle}
use Rattle.rig.specs.declared.Cycle.{Cycle}
use Rattle.rig.specs.declared.Rig.{Rig}
use Rattle.rig.specs.declared.Row.{Row}
use Rattle.rig.specs.Rules.{no_row}

-- "an array of arrays built from M lines, passed by value beside the rig; the record keeps it as an array of row structs"
abbrev pub cycle_of : List ℕ → Cycle
cycle_of flags = record { flags = flags }

abbrev pub cycle_flags : Cycle → List ℕ
cycle_flags cycle = cycle.flags

unfoldable pub cycles_of : List (List ℕ) → List Cycle
cycles_of table = map cycle_of table

unfoldable pub table_of : List Cycle → List (List ℕ)
table_of cycles = map cycle_flags cycles

-- the rig that has these numbers and tables
abbrev pub rig_with : ℕ → ℕ → ℕ → ℕ → ℕ → List ℕ → List ℕ → List ℕ → List ℕ → List ℕ → List ℕ → List ℕ → List ℕ → List ℕ → List ℕ → List Row → Rig
rig_with tasks flags master lines rows controller priority privileged activation present latched desired line_task line_pos line_flag row =
    record {
      tasks = tasks;
      flags = flags;
      master = master;
      lines = lines;
      rows = rows;
      controller = controller;
      priority = priority;
      privileged = privileged;
      activation = activation;
      present = present;
      latched = latched;
      desired = desired;
      line_task = line_task;
      line_pos = line_pos;
      line_flag = line_flag;
      row = row;
    }

-- "a refused rig is all zeros"
abbrev pub no_rig : Rig
no_rig =
    record {
      tasks = 0;
      flags = 0;
      master = 0;
      lines = 0;
      rows = 0;
      controller = replicate task_places 0;
      priority = replicate task_places 0;
      privileged = replicate task_places 0;
      activation = replicate task_places 0;
      present = replicate condition_places 0;
      latched = replicate condition_places 0;
      desired = replicate condition_places 0;
      line_task = replicate most_lines 0;
      line_pos = replicate most_lines 0;
      line_flag = replicate most_lines 0;
      row = replicate most_rows no_row;
    }

abbrev pub no_cycles : List Cycle
no_cycles = replicate minor_cycles (record { flags = replicate flags_a_cycle 0 })
