-- THE STATE of the executive of one processor, as plain data.
-- Tables are lists read by number: place 0 is not used, so that task t stands at place t and flag f at place f.
-- A number out of range reads as 0, which is "uninvoked" and "off".
use Rattle.std.specs.Prelude.{Bool, true, false, cond, ◌&&◌, List, [], ℕ, zero, suc, eqb, get_or, replicate}
use Rattle.rules.specs.Sizes.{task_places, flag_places, condition_places}

-- "States: 0 uninvoked, 1 inactive, 2 waiting, 3 dispatchable."
abbrev pub uninvoked : ℕ
uninvoked = 0

abbrev pub inactive : ℕ
inactive = 1

abbrev pub waiting : ℕ
waiting = 2

abbrev pub dispatchable : ℕ
dispatchable = 3

-- "Active is 2 or 3." As a flag's value: 1 if so, else 0.
abbrev pub active : ℕ → ℕ
active zero = 0
active (suc zero) = 0
active (suc (suc n)) = 1

-- a flag's value: 0 off, 1 on
abbrev pub off : ℕ
off = 0

abbrev pub on : ℕ
on = 1

-- "Time chain order: .. Each flag has a chain for on and one for off": the chain of a flag and the value that is waited for
pub data Chain : Type 0 where
  time_chain : Chain
  chain_of : ℕ → ℕ → Chain

abbrev pub same_chain : Chain → Chain → Bool
same_chain time_chain time_chain = true
same_chain time_chain (chain_of f v) = false
same_chain (chain_of f v) time_chain = false
same_chain (chain_of f v) (chain_of g w) = eqb f g && eqb v w

-- the chains, with l for chain c
abbrev pub with_chain : (Chain → List ℕ) → Chain → List ℕ → Chain → List ℕ
with_chain chains c l d = cond (same_chain d c) l (chains d)

-- count: minor cycles since the start
-- flags: the value of each flag; conds: the value of each condition, by its place
-- states: the state of each task; wakes: the waking count of a task that waits for one
-- overruns (L6): of each task, how often a start came too soon
-- chains: who waits, by the chain, in the order in which a chain is read forward
-- running: the running task, 0 for none
pub record State : Type 0 where
  pub count : ℕ
  pub flags : List ℕ
  pub conds : List ℕ
  pub states : List ℕ
  pub wakes : List ℕ
  pub overruns : List ℕ
  pub chains : Chain → List ℕ
  pub running : ℕ

abbrev pub state_of : State → ℕ → ℕ
state_of s t = get_or s.states t 0

abbrev pub value_of : State → ℕ → ℕ
value_of s f = get_or s.flags f 0

abbrev pub wake_of : State → ℕ → ℕ
wake_of s t = get_or s.wakes t 0

abbrev pub overruns_of : State → ℕ → ℕ
overruns_of s t = get_or s.overruns t 0

-- what is queued: a flag and the value that it is to take
pub record Entry : Type 0 where
  pub flag : ℕ
  pub value : ℕ

-- a state and what is queued, the last queued first
pub record Work : Type 0 where
  pub now : State
  pub queue : List Entry

-- a state, and of the services on the way to it: how many flags were served, and (L2) how many waiting tasks that "made dispatchable
-- and how many it activated"
pub record Done : Type 0 where
  pub now : State
  pub served : ℕ
  pub woken : ℕ
  pub activated : ℕ

-- ---- a state with one part of it changed (there is no shorter way to write this)

abbrev pub with_count : State → ℕ → State
with_count s n =
    record { count = n; flags = s.flags; conds = s.conds; states = s.states; wakes = s.wakes; overruns = s.overruns; chains = s.chains; running = s.running }

abbrev pub with_values : State → List ℕ → List ℕ → State
with_values s f c =
    record { count = s.count; flags = f; conds = c; states = s.states; wakes = s.wakes; overruns = s.overruns; chains = s.chains; running = s.running }

abbrev pub with_tables : State → List ℕ → List ℕ → State
with_tables s c l =
    record { count = s.count; flags = s.flags; conds = c; states = l; wakes = s.wakes; overruns = s.overruns; chains = s.chains; running = s.running }

abbrev pub with_chains : State → List ℕ → (Chain → List ℕ) → State
with_chains s l x =
    record { count = s.count; flags = s.flags; conds = s.conds; states = l; wakes = s.wakes; overruns = s.overruns; chains = x; running = s.running }

abbrev pub with_wakes : State → List ℕ → State
with_wakes s w =
    record { count = s.count; flags = s.flags; conds = s.conds; states = s.states; wakes = w; overruns = s.overruns; chains = s.chains; running = s.running }

abbrev pub with_overruns : State → List ℕ → State
with_overruns s l =
    record { count = s.count; flags = s.flags; conds = s.conds; states = s.states; wakes = s.wakes; overruns = l; chains = s.chains; running = s.running }

abbrev pub with_running : State → ℕ → State
with_running s n =
    record { count = s.count; flags = s.flags; conds = s.conds; states = s.states; wakes = s.wakes; overruns = s.overruns; chains = s.chains; running = n }

-- "Start: count 0, flags and conditions off, all tasks uninvoked"
unfoldable pub blank : State
blank =
    record {
      count = 0;
      flags = replicate flag_places 0;
      conds = replicate condition_places 0;
      states = replicate task_places 0;
      wakes = replicate task_places 0;
      overruns = replicate task_places 0;
      chains = λ (c : Chain). [];
      running = 0;
    }
