-- THE START, and the record of all zeros that a refused start returns.
use Rattle.std.specs.Prelude.{◌≡◌, ◌⊎◌, List, ℕ, replicate}
use Rattle.laws.specs.Sizes.{task_places, flag_places, condition_places}
use Rattle.rig.specs.Rules.{Right}
use Rattle.rig.specs.Forms.{cycles_of, no_rig, no_cycles}
use Rattle.rig.specs.declared.Cycle.{Cycle}
use Rattle.rig.specs.declared.Rig.{Rig}
use Rattle.rules.specs.Calls as R
use Rattle.chains.specs.Held.{nodes}
use Rattle.exec_state.specs.View.{rig_of}
use Rattle.exec_state.specs.declared.State.{State}
use Rattle.exec.specs.Sound.{view, SoundRecord}
use Rattle.exec.specs.Call.{ProperAnswer, Refuses, answer_of}
use Rattle.exec.specs.declared.Exec.{Exec}
use Rattle.exec.specs.declared.Step.{Step}

abbrev pub no_state : State
no_state =
    record {
      count = 0;
      value = replicate flag_places 0;
      cond = replicate condition_places 0;
      state = replicate task_places 0;
      wake = replicate task_places 0;
      overruns = replicate task_places 0;
      links = record { next = replicate nodes 0; prev = replicate nodes 0; on = replicate task_places 0 };
      running = 0;
    }

-- "a record of all zeros"
abbrev pub no_exec : Exec
no_exec = record { rig = no_rig; cycles = no_cycles; st = no_state }

-- 4: "a whole-file rule is broken (line 0), or an entry that takes a rig (start, writer) is given one that breaks any rule"
abbrev pub broken_rig : ℕ
broken_rig = 4

-- the rules' start: the state that the record shows, what the serving came to; the rig and its cycles are those given, and
-- the record is sound
pub record Started (g : Rig) (rows : List Cycle) (r : Step) : Type 0 where
  pub next : view r.exec ≡ R.start (rig_of g rows)
  pub answer : answer_of r.answer ≡ record { code = 0; report = R.reported (R.started (rig_of g rows)) 0 0 }
  pub proper : ProperAnswer r.answer
  pub rig : r.exec.rig ≡ g
  pub cycles : r.exec.cycles ≡ rows
  pub sound : SoundRecord r.exec

-- 4: "an entry that takes a rig (start, writer) is given one that breaks any rule"; "a refused start returns a record of
-- all zeros"
pub record Starts (g : Rig) (table : List (List ℕ)) (r : Step) : Type 0 where
  pub is : (Right g (cycles_of table) × Started g (cycles_of table) r) ⊎ ((Right g (cycles_of table) → ⊥) × Refuses no_exec broken_rig r)
