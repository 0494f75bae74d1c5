-- THE VIEW: the rules' rig and the rules' state that the executive's own show.
use Rattle.std.specs.Prelude.{List}
use Rattle.chains.specs.Held.{at}
use Rattle.chains.specs.Read.{chains_of}
use Rattle.compool.specs.View.{rows_of}
use Rattle.exec_family.specs.Anchors.{by_name}
use Rattle.rig.specs.declared.Cycle.{Cycle}
use Rattle.rig.specs.declared.Rig.{Rig}
use Rattle.rules.specs.Rig as G
use Rattle.rules.specs.State as S
use Rattle.exec_queue.specs.View.{minor_of, entries_of}
use Rattle.exec_queue.specs.declared.Queue.{Queue}
use Rattle.exec_state.specs.declared.State.{State}

-- the rig, with the cycles that stand beside it
abbrev pub rig_of : Rig → List Cycle → G.Rig
rig_of g cycles =
    record {
      tasks = g.tasks;
      flags = g.flags;
      master = g.master;
      controller = at g.controller;
      priority = at g.priority;
      privileged = at g.privileged;
      activation = at g.activation;
      present = at g.present;
      latched = at g.latched;
      desired = at g.desired;
      lines = g.lines;
      line_task = at g.line_task;
      line_pos = at g.line_pos;
      line_flag = at g.line_flag;
      minor = minor_of cycles;
      rows = g.rows;
      row = rows_of g.row;
    }

-- the chains are read from their anchors, forward
abbrev pub view_of : State → S.State
view_of s =
    record {
      count = s.count;
      flags = s.value;
      conds = s.cond;
      states = s.state;
      wakes = s.wake;
      overruns = s.overruns;
      chains = by_name (chains_of s.links);
      running = s.running;
    }

abbrev pub work_of : State → Queue → S.Work
work_of s q = record { now = view_of s; queue = entries_of q }
