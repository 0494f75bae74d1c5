-- What offering asks, and what it gives.
use Rattle.std.specs.Prelude.{◌≡◌, List, ℕ, ◌+◌, ◌≤◌, length}
use Rattle.exec_queue.specs.View.{entries_of}
use Rattle.exec_queue.specs.declared.Queue.{Queue}
use Rattle.rig.specs.declared.Cycle.{Cycle}
use Rattle.rig.specs.declared.Rig.{Rig}
use Rattle.rules.specs.State.{inactive}
use Rattle.rules.specs.Serving.{offers, made, inactives}
use Rattle.exec_state.specs.View.{rig_of, work_of}
use Rattle.exec_state.specs.Set.{put_cond, put_state}
use Rattle.exec_state.specs.declared.State.{State}
use Rattle.exec_state.specs.Work.{Work}

-- what is queued and what may yet be queued is at most 79
abbrev pub Room : List ℕ → Queue → Type 0
Room states q = length (entries_of q) + inactives states ≤ 79

pub record Offered (w : Work) (g : Rig) (f : ℕ) (r : Work) : Type 0 where
  pub is : (cycles : List Cycle) → work_of r.st r.queue ≡ offers (rig_of g cycles) f 64 (work_of w.st w.queue)
  pub links : r.st.links ≡ w.st.links

abbrev pub work_in : State → List ℕ → List ℕ → Queue → Work
work_in s conds states q = record { st = put_cond (put_state s states) conds; queue = q }

-- the same of the conditions, the states and the queue alone, with whatever stands beside them and beside the rig's tables
abbrev pub Offering : (Rig → Rig) → ℕ → List ℕ → List ℕ → Queue → List ℕ → List ℕ → Queue → Type 0
Offering tables f c a q d b r = (g : Rig) (s : State) → Offered (work_in s c a q) (tables g) f (work_in s d b r)

-- what is queued once a flag was offered, and how many tasks it activated
pub record Heeded : Type 0 where
  pub queue : Queue
  pub activated : ℕ

-- .. and how many were activated
pub record Heeds (tables : Rig → Rig) (f : ℕ) (c a : List ℕ) (q : Queue) (d b : List ℕ) (r : Heeded) : Type 0 where
  pub offering : Offering tables f c a q d b r.queue
  pub many : r.activated ≡ made inactive a b
  pub few : r.activated ≤ 64
