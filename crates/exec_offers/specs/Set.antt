-- A rig with the tables that offering looks at.
use Rattle.std.specs.Prelude.{List, ℕ}
use Rattle.rig.specs.declared.Rig.{Rig}

abbrev pub with_tables : List ℕ → List ℕ → List ℕ → List ℕ → List ℕ → List ℕ → ℕ → Rig → Rig
with_tables present latched desired line_task line_flag activation n g =
    record {
      tasks = g.tasks;
      flags = g.flags;
      master = g.master;
      lines = n;
      rows = g.rows;
      controller = g.controller;
      priority = g.priority;
      privileged = g.privileged;
      activation = activation;
      present = present;
      latched = latched;
      desired = desired;
      line_task = line_task;
      line_pos = g.line_pos;
      line_flag = line_flag;
      row = g.row;
    }

-- the tables of g, with whatever stands beside them in the other rig
abbrev pub tables_of : Rig → Rig → Rig
tables_of g = with_tables g.present g.latched g.desired g.line_task g.line_flag g.activation g.lines
