-- A state with one field changed, and a rig with the tables that the dispatch looks at.
use Rattle.std.specs.Prelude.{List, ℕ}
use Rattle.chains.specs.declared.Links.{Links}
use Rattle.rig.specs.declared.Rig.{Rig}
use Rattle.exec_state.specs.declared.State.{State}

abbrev pub put_count : State → ℕ → State
put_count s v = record { count = v; value = s.value; cond = s.cond; state = s.state; wake = s.wake; overruns = s.overruns; links = s.links; running = s.running }

abbrev pub put_value : State → List ℕ → State
put_value s v = record { count = s.count; value = v; cond = s.cond; state = s.state; wake = s.wake; overruns = s.overruns; links = s.links; running = s.running }

abbrev pub put_cond : State → List ℕ → State
put_cond s v = record { count = s.count; value = s.value; cond = v; state = s.state; wake = s.wake; overruns = s.overruns; links = s.links; running = s.running }

abbrev pub put_state : State → List ℕ → State
put_state s v = record { count = s.count; value = s.value; cond = s.cond; state = v; wake = s.wake; overruns = s.overruns; links = s.links; running = s.running }

abbrev pub put_wake : State → List ℕ → State
put_wake s v = record { count = s.count; value = s.value; cond = s.cond; state = s.state; wake = v; overruns = s.overruns; links = s.links; running = s.running }

abbrev pub put_overruns : State → List ℕ → State
put_overruns s v = record { count = s.count; value = s.value; cond = s.cond; state = s.state; wake = s.wake; overruns = v; links = s.links; running = s.running }

abbrev pub put_links : State → Links → State
put_links s v = record { count = s.count; value = s.value; cond = s.cond; state = s.state; wake = s.wake; overruns = s.overruns; links = v; running = s.running }

abbrev pub put_running : State → ℕ → State
put_running s v = record { count = s.count; value = s.value; cond = s.cond; state = s.state; wake = s.wake; overruns = s.overruns; links = s.links; running = v }

-- what the dispatch looks at
abbrev pub with_ranks : List ℕ → List ℕ → Rig → Rig
with_ranks privileged priority g =
    record {
      tasks = g.tasks;
      flags = g.flags;
      master = g.master;
      lines = g.lines;
      rows = g.rows;
      controller = g.controller;
      priority = priority;
      privileged = privileged;
      activation = g.activation;
      present = g.present;
      latched = g.latched;
      desired = g.desired;
      line_task = g.line_task;
      line_pos = g.line_pos;
      line_flag = g.line_flag;
      row = g.row;
    }
