-- A SOUND STATE: the paper's list, in its order, over the state of the rules.
-- "A record is sound when its rig obeys the rules, states are 0 to 3, the count is in range, each invoked task but task 1
-- has an invoked controller, waiting tasks and links agree as demand 3 says (time chain in order of waking count, all
-- above the count ..), activation flags agree with task states, and the running task is dispatchable with none of higher
-- rank, or is none with none dispatchable."
-- The rig's own rules are RigOk. Each part is said of the tables that it is about, so that it is kept where they are.
use Rattle.std.specs.Prelude.{◌≡◌, ◌≢◌, List, ℕ, ◌≤◌, ◌<◌, length, get_or}
use Rattle.laws.specs.Members.{In, Distinct}
use Rattle.laws.specs.Order.{Sorted}
use Rattle.rules.specs.Sizes.{most_flags, task_places, flag_places, condition_places}
use Rattle.rules.specs.Rig.{Rig}
use Rattle.rules.specs.State.{Chain, time_chain, chain_of, State, state_of, value_of, active, uninvoked, waiting, dispatchable, on}
use Rattle.rules.specs.Serving.{most_overruns}
use Rattle.rules.specs.Running.{rank}
use Rattle.rules.specs.Calls.{last_count}

-- only the places 1 to n hold another number than 0
abbrev pub Within : ℕ → List ℕ → Type 0
Within n l = (i : ℕ) → get_or l i 0 ≢ 0 → (1 ≤ i) × (i ≤ n)

-- ---- the table of task states

-- "each invoked task but task 1 has an invoked controller"
abbrev pub Tree : (ℕ → ℕ) → List ℕ → Type 0
Tree controller l = (t : ℕ) → t ≢ 1 → get_or l t 0 ≢ uninvoked → get_or l (controller t) 0 ≢ uninvoked

pub record Tasks (r : Rig) (l : List ℕ) : Type 0 where
  pub sized : length l ≡ task_places
  -- "states are 0 to 3"
  pub small : (t : ℕ) → get_or l t 0 ≤ dispatchable
  -- entries beyond the rig's counts are 0
  pub within : Within r.tasks l
  pub tree : Tree r.controller l

-- ---- the tables of flag values, of condition values, of waking counts, of overruns

pub record Flags (r : Rig) (l : List ℕ) : Type 0 where
  pub sized : length l ≡ flag_places
  -- a value is 0 or 1
  pub small : (f : ℕ) → get_or l f 0 ≤ on
  pub within : Within r.flags l

pub record Conds (r : Rig) (l : List ℕ) : Type 0 where
  pub sized : length l ≡ condition_places
  pub small : (i : ℕ) → get_or l i 0 ≤ on
  -- a condition with no C line is 0
  pub within : (i : ℕ) → get_or l i 0 ≢ 0 → r.present i ≡ 1

pub record WakingCounts (r : Rig) (l : List ℕ) : Type 0 where
  pub sized : length l ≡ task_places
  pub within : Within r.tasks l

-- L6: "It is in the record, bounded in soundness"
pub record Overruns (r : Rig) (l : List ℕ) : Type 0 where
  pub sized : length l ≡ task_places
  pub small : (t : ℕ) → get_or l t 0 ≤ most_overruns
  pub within : Within r.tasks l

-- ---- the chains: "waiting tasks and links agree as demand 3 says", each chain lists exactly who waits there, once

-- a task that is in a chain
abbrev pub Somewhere : ℕ → (Chain → List ℕ) → Type 0
Somewhere t chains = (c : Chain) × In t (chains c)

-- a task waits exactly when it is in a chain
pub record Listed (chains : Chain → List ℕ) (l : List ℕ) : Type 0 where
  pub there : (t : ℕ) → get_or l t 0 ≡ waiting → Somewhere t chains
  pub two : (t : ℕ) → Somewhere t chains → get_or l t 0 ≡ waiting

-- no task is in two chains
abbrev pub Apart : (Chain → List ℕ) → Type 0
Apart chains = (t : ℕ) (c d : Chain) → In t (chains c) → In t (chains d) → c ≡ d

-- nor twice in one
abbrev pub Once : (Chain → List ℕ) → Type 0
Once chains = (c : Chain) → Distinct (chains c)

-- the time chain, and the chains of flags 1 to 128 for on and for off
abbrev pub IsChain : Chain → Type 0
IsChain time_chain = Unit {0}
IsChain (chain_of f v) = (1 ≤ f) × (f ≤ most_flags) × (v ≤ on)

-- nobody is anywhere else
abbrev pub Only : (Chain → List ℕ) → Type 0
Only chains = (t : ℕ) (c : Chain) → In t (chains c) → IsChain c

pub record Chains (count : ℕ) (wakes : List ℕ) (chains : Chain → List ℕ) (l : List ℕ) : Type 0 where
  pub listed : Listed chains l
  pub apart : Apart chains
  pub once : Once chains
  pub only : Only chains
  -- "time chain in order of waking count, all above the count"
  pub ordered : Sorted (λ (t : ℕ). get_or wakes t 0) (chains time_chain)
  pub ahead : (t : ℕ) → In t (chains time_chain) → count < get_or wakes t 0

-- ---- the running task

-- "the running task is dispatchable with none of higher rank, or is none with none dispatchable"
pub record Runs (privileged priority : ℕ → ℕ) (l : List ℕ) (n : ℕ) : Type 0 where
  pub up : n ≢ 0 → get_or l n 0 ≡ dispatchable
  pub top : (t : ℕ) → t ≢ 0 → get_or l t 0 ≡ dispatchable → (n ≢ 0) × (rank privileged priority t ≤ rank privileged priority n)

-- ---- all of it

pub record Sound (r : Rig) (s : State) : Type 0 where
  -- "the count is in range"
  pub range : s.count ≤ last_count
  pub tasks : Tasks r s.states
  pub flags : Flags r s.flags
  pub conds : Conds r s.conds
  pub wakes : WakingCounts r s.wakes
  pub overruns : Overruns r s.overruns
  pub chains : Chains s.count s.wakes s.chains s.states
  -- "activation flags agree with task states"
  pub agree : (t : ℕ) → r.activation t ≢ 0 → value_of s (r.activation t) ≡ active (state_of s t)
  pub runs : Runs r.privileged r.priority s.states s.running
