-- What waking asks, and what it gives: each the rule of its name.
use Rattle.std.specs.Prelude.{◌≡◌, List, ℕ, ◌<◌, ◌≤◌, length}
use Rattle.laws.specs.Members.{In}
use Rattle.laws.specs.Order.{Sorted}
use Rattle.chains.specs.Held.{at, HoldsChains}
use Rattle.chains.specs.Read.{chains_of}
use Rattle.chains.specs.declared.Links.{Links}
use Rattle.exec_family.specs.Anchors.{anchor_of, by_name}
use Rattle.rig.specs.declared.Cycle.{Cycle}
use Rattle.rig.specs.declared.Rig.{Rig}
use Rattle.rules.specs.State.{Chain, time_chain}
use Rattle.rules.specs.Serving.{wake}
use Rattle.rules.specs.Waiting.{wake_due}
use Rattle.rules.specs.Calls.{ticked}
use Rattle.exec_state.specs.View.{rig_of, view_of, work_of}
use Rattle.exec_state.specs.Set.{put_state, put_links}
use Rattle.exec_state.specs.declared.State.{State}
use Rattle.exec_state.specs.Work.{Work}
use Rattle.exec_waking.specs.Roused.{Roused}

-- ---- what is asked

-- the time chain is in order, and nobody in it should have been woken before the count
pub record Timed (s : State) : Type 0 where
  pub ordered : Sorted (at s.wake) (by_name (chains_of s.links) time_chain)
  pub due : (t : ℕ) → In t (by_name (chains_of s.links) time_chain) → s.count ≤ at s.wake t

-- the time chain is in order, all above the count, and there is a next count
pub record TickOk (s : State) : Type 0 where
  pub ordered : Sorted (at s.wake) (by_name (chains_of s.links) time_chain)
  pub ahead : (t : ℕ) → In t (by_name (chains_of s.links) time_chain) → s.count < at s.wake t
  pub range : s.count < 2147483647

-- ---- what is given

pub record Woken (s : State) (c : Chain) (r : State) : Type 0 where
  pub is : view_of r ≡ wake c (view_of s)
  pub sound : HoldsChains r.links

-- the same of the links and the states alone, with whatever stands beside them, for the chain of anchor a
abbrev pub Awoken : Links → List ℕ → ℕ → Links → List ℕ → Type 0
Awoken l states a r after = (s : State) (c : Chain) → anchor_of c ≡ a → Woken (put_links (put_state s states) l) c (put_links (put_state s after) r)

-- .. and how many they were
pub record Rouses (l : Links) (states : List ℕ) (a : ℕ) (r : Roused) (after : List ℕ) : Type 0 where
  pub awoken : Awoken l states a r.links after
  pub many : r.woken ≡ length (chains_of l a)
  pub few : r.woken ≤ 64

pub record WokenDue (s : State) (r : State) : Type 0 where
  pub is : view_of r ≡ wake_due (view_of s)
  pub sound : HoldsChains r.links

pub record Ticked (s : State) (cycles : List Cycle) (r : Work) : Type 0 where
  pub is : (g : Rig) → work_of r.st r.queue ≡ ticked (rig_of g cycles) (view_of s)
  pub sound : HoldsChains r.st.links
