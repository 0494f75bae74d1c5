-- What serving asks, and what it gives, with one cycle beside the rig.
use Rattle.std.specs.Prelude.{◌≡◌, ◌≢◌, List, ℕ, ◌*◌, ◌≤◌, replicate}
use Rattle.chains.specs.Held.{at, HoldsChains}
use Rattle.exec_conditions.specs.Lines.{Lines, marked}
use Rattle.exec_queue.specs.View.{entries_of}
use Rattle.exec_queue.specs.declared.Queue.{Queue}
use Rattle.rig.specs.declared.Cycle.{Cycle}
use Rattle.rig.specs.declared.Rig.{Rig}
use Rattle.rules.specs.State.{Entry, waiting, inactive}
use Rattle.rules.specs.Serving.{overrun, serve_flag, made, serve}
use Rattle.rules_laws.specs.Heard.{ChainsIn}
use Rattle.rules_laws.specs.Heeding.{EachEntry}
use Rattle.rules_laws.specs.Serve.{load}
use Rattle.exec_state.specs.View.{view_of, work_of}
use Rattle.exec_state.specs.Set.{put_state, put_overruns}
use Rattle.exec_state.specs.Post.{FlagOk}
use Rattle.exec_state.specs.declared.State.{State}
use Rattle.exec_state.specs.Work.{Work}
use Rattle.exec_serving.specs.View.{done_of, rig_in_cycle}
use Rattle.exec_serving.specs.Done.{Done}

-- ---- what is asked

-- the numbers in the first n A lines, and of the activation flags, are within the tables
pub record Fits (n : ℕ) (line_task line_pos activation : List ℕ) : Type 0 where
  pub lines : Lines n line_task line_pos
  pub flags : (t : ℕ) → at activation t ≤ 128

-- every entry is of a flag and a value
abbrev pub Servable : List Entry → Type 0
Servable = EachEntry (λ (e : Entry). FlagOk e.flag e.value)

pub record Begins (n : ℕ) (line_task line_pos activation : List ℕ) (s : State) (q : Queue) : Type 0 where
  pub fits : Fits n line_task line_pos activation
  pub room : load (work_of s q) ≤ 79
  pub sound : HoldsChains s.links
  pub chains : ChainsIn (view_of s)
  pub entries : Servable (entries_of q)

-- ---- what is given

-- the numbers of overruns after a service of flag f, where who has it in a condition is marked and the states are those before it
abbrev pub CountsSoon : Cycle → ℕ → List ℕ → List ℕ → List ℕ → List ℕ → Type 0
CountsSoon cycle f named states numbers after =
    (g : Rig) (s : State) → f ≢ 0 → named ≡ marked g.lines (at g.line_task) (at g.line_flag) f (replicate 65 0)
    → after ≡ overrun (rig_in_cycle g cycle) f (view_of (put_overruns (put_state s states) numbers))

-- one flag is served: so many waiting tasks became dispatchable, and so many inactive ones
pub record Served (s : State) (q : Queue) (g : Rig) (cycle : Cycle) (f v : ℕ) (r : Work) (woken activated : ℕ) : Type 0 where
  pub is : work_of r.st r.queue ≡ serve_flag (rig_in_cycle g cycle) (record { flag = f; value = v }) (view_of s) (entries_of q)
  pub sound : HoldsChains r.st.links
  pub woken_is : woken ≡ made waiting s.state r.st.state
  pub activated_is : activated ≡ made inactive s.state r.st.state

-- the queue is served to its end
pub record Emptied (g : Rig) (cycle : Cycle) (s : State) (q : Queue) (r : Done) : Type 0 where
  pub is : done_of r ≡ serve (rig_in_cycle g cycle) (work_of s q)
  pub sound : HoldsChains r.st.links
  pub chains : ChainsIn (view_of r.st)
  pub few : r.served ≤ 79
  -- each service wakes and activates at most 64, so that sums stay in range
  pub small : (r.woken ≤ 64 * r.served) × (r.activated ≤ 64 * r.served)
