-- A rig with what serving looks at besides the tables of offering: the positions of the A lines.
use Rattle.std.specs.Prelude.{List, ℕ}
use Rattle.rig.specs.declared.Rig.{Rig}

abbrev pub with_places : List ℕ → Rig → Rig
with_places line_pos g =
    record {
      tasks = g.tasks;
      flags = g.flags;
      master = g.master;
      lines = g.lines;
      rows = g.rows;
      controller = g.controller;
      priority = g.priority;
      privileged = g.privileged;
      activation = g.activation;
      present = g.present;
      latched = g.latched;
      desired = g.desired;
      line_task = g.line_task;
      line_pos = line_pos;
      line_flag = g.line_flag;
      row = g.row;
    }
