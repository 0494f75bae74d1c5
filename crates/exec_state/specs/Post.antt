-- What the methods of the state ask, and what they and the functions of exec_testing give: each the rule of its name.
-- Where a rule looks at the rig but not at its cycles, its contract holds with whatever cycles stand beside the rig.
use Rattle.std.specs.Prelude.{◌≡◌, List, ℕ, ◌<◌, ◌≤◌}
use Rattle.chains.specs.Held.{HoldsChains, Sized}
use Rattle.exec_family.specs.Post.{Controllers}
use Rattle.rig.specs.declared.Cycle.{Cycle}
use Rattle.rig.specs.declared.Rig.{Rig}
use Rattle.rules.specs.State.{blank}
use Rattle.rules.specs.Running.{dispatch}
use Rattle.rules.specs.Calls.{tested, scheduled, finished, terminated, cancelled}
use Rattle.exec_state.specs.View.{rig_of, view_of, work_of}
use Rattle.exec_state.specs.Work.{Work}
use Rattle.exec_state.specs.declared.State.{State}

-- ---- what is asked

abbrev pub CancelOk : Rig → Type 0
CancelOk g = Controllers g.controller

-- a flag and a value
pub record FlagOk (f v : ℕ) : Type 0 where
  pub some : 0 < f
  pub flag : f ≤ 128
  pub value : v ≤ 1

-- ---- what is given

pub record Blank (r : State) : Type 0 where
  pub is : view_of r ≡ blank
  pub sound : HoldsChains r.links

pub record Dispatched (s : State) (g : Rig) (r : State) : Type 0 where
  pub is : (cycles : List Cycle) → view_of r ≡ dispatch (rig_of g cycles) (view_of s)
  pub links : r.links ≡ s.links
  pub sized : Sized r.links

pub record Finished (s : State) (g : Rig) (r : Work) : Type 0 where
  pub is : (cycles : List Cycle) → work_of r.st r.queue ≡ finished (rig_of g cycles) (view_of s)
  pub links : r.st.links ≡ s.links

pub record Terminated (s : State) (g : Rig) (t : ℕ) (r : Work) : Type 0 where
  pub is : (cycles : List Cycle) → work_of r.st r.queue ≡ terminated (rig_of g cycles) (view_of s) t
  pub sound : HoldsChains r.st.links

pub record Cancelled (s : State) (g : Rig) (t : ℕ) (r : Work) : Type 0 where
  pub is : (cycles : List Cycle) → work_of r.st r.queue ≡ cancelled (rig_of g cycles) (view_of s) t
  pub sound : HoldsChains r.st.links

pub record Tested (s : State) (g : Rig) (t : ℕ) (r : Work) : Type 0 where
  pub is : (cycles : List Cycle) → work_of r.st r.queue ≡ tested (rig_of g cycles) t (view_of s)
  pub links : r.st.links ≡ s.links

pub record Scheduled (s : State) (g : Rig) (t : ℕ) (r : Work) : Type 0 where
  pub is : (cycles : List Cycle) → work_of r.st r.queue ≡ scheduled (rig_of g cycles) (view_of s) t
  pub links : r.st.links ≡ s.links
