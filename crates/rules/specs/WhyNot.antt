-- WHY WON'T IT START? IN WORDS (L13). That the rules compute this (module Starting): theorems can_start_lem and lowest_blocking_lem, crate rules_laws.
use Rattle.std.specs.Prelude.{◌≡◌, ◌⊎◌, ◌≢◌, ◌↔◌, List, [], ◌∷◌, ℕ, zero, suc, ◌%◌, ◌≤◌, ◌<◌, length, get_or}
use Rattle.rules.specs.Sizes.{most_tasks, positions, minor_cycles, tick_words}
use Rattle.rules.specs.Rig.{Rig, place_of}
use Rattle.rules.specs.State.{State, Entry, state_of, active, inactive, on}
use Rattle.rules.specs.Serving.{takes}
use Rattle.rules.specs.Calls.{Call, terminate, finish, tick, signal, last_count, refusal}
use Rattle.rules.specs.Soundness.{Sound}
use Rattle.rules.specs.Overruns.{Event, service, accepted_events}
use Rattle.rules.specs.Reasons.{MinorCycleFlag, ActivationFlag}

-- a condition of task t: a position with a C line
abbrev pub HasCondition : Rig → ℕ → ℕ → Type 0
HasCondition r t p = (p < positions) × (r.present (place_of t p) ≡ 1)

-- it "stands as desired"
abbrev pub Stands : Rig → State → ℕ → ℕ → Type 0
Stands r s t p = get_or s.conds (place_of t p) 0 ≡ r.desired (place_of t p)

-- "one of its flags": an A line has it
abbrev pub ItsFlag : Rig → ℕ → ℕ → ℕ → Type 0
ItsFlag r t p f = (k : ℕ) × (k < r.lines) × ((r.line_task k ≡ t) × (r.line_pos k ≡ p) × (r.line_flag k ≡ f))

-- "a plain flag": it may be signalled
abbrev pub PlainFlag : Rig → ℕ → Type 0
PlainFlag r f = (MinorCycleFlag r f ⊎ ActivationFlag r f) → ⊥

-- "the activation flag of" a task of whom something is said
abbrev pub FlagOf : Rig → (ℕ → Type 0) → ℕ → Type 0
FlagOf r Who f = (u : ℕ) × (1 ≤ u) × (u ≤ most_tasks) × (r.activation u ≡ f) × Who u

-- "One that desires on can be brought there if one of its flags is a minor-cycle flag, a plain flag, or, with d at least 1, the activation flag
-- of an inactive task that can start within d - 1 links."
abbrev pub ComesOn : Rig → (ℕ → Type 0) → ℕ → Type 0
ComesOn r Below f = MinorCycleFlag r f ⊎ (PlainFlag r f ⊎ FlagOf r Below f)

-- "One that desires off: if one of its flags is plain, or is the activation flag of an active task."
abbrev pub GoesOff : Rig → State → ℕ → Type 0
GoesOff r s f = PlainFlag r f ⊎ FlagOf r (λ u. active (state_of s u) ≡ on) f

-- the condition "can be brought there"
abbrev pub CanBeBrought : Rig → State → (ℕ → Type 0) → ℕ → ℕ → Type 0
CanBeBrought r s Below t p =
    (f : ℕ) × ItsFlag r t p f × ((r.desired (place_of t p) ≡ on → ComesOn r Below f) × (r.desired (place_of t p) ≢ on → GoesOff r s f))

-- "An inactive task can start within d links .. when each condition stands as desired or can be brought there."
abbrev pub Starts : Rig → State → (ℕ → Type 0) → ℕ → Type 0
Starts r s Below t = (state_of s t ≡ inactive) × ((p : ℕ) → HasCondition r t p → Stands r s t p ⊎ CanBeBrought r s Below t p)

-- "with d at least 1, .. within d - 1 links": "each link lowers d", and with d = 0 there is none
abbrev pub StartsBelow : Rig → State → ℕ → ℕ → Type 0
StartsBelow r s zero t = ⊥
StartsBelow r s (suc d) t = Starts r s (StartsBelow r s d) t

abbrev pub CanStart : Rig → State → ℕ → ℕ → Type 0
CanStart r s d t = Starts r s (StartsBelow r s d) t

-- a "condition that blocks"
abbrev pub Blocks : Rig → State → ℕ → ℕ → ℕ → Type 0
Blocks r s d t p = HasCondition r t p × (Stands r s t p → ⊥) × (CanBeBrought r s (StartsBelow r s d) t p → ⊥)

-- "The answer is yes, or the lowest condition that blocks": n is 16, or the position
pub record LowestBlocking (r : Rig) (s : State) (d t n : ℕ) : Type 0 where
  pub yes : (n ≡ positions) ↔ CanStart r s d t
  pub blocking : n ≢ positions → Blocks r s d t n
  pub lower : (p : ℕ) → p < n → Blocks r s d t p → ⊥

-- ---- what ties it to the executive: a call or tick that serves a flag which brings the condition there

-- entry e is served, with state w before it: its flag is one of the condition's, and with the flag the condition takes the desired value
pub record BringsThere (r : Rig) (t p : ℕ) (w : State) (e : Entry) : Type 0 where
  pub its : ItsFlag r t p e.flag
  pub there : get_or (takes r e w).conds (place_of t p) 0 ≡ r.desired (place_of t p)

abbrev pub Happens : Event → List Event → Type 0
Happens x [] = ⊥
Happens x (y ∷ h) = (x ≡ y) ⊎ Happens x h

-- call k is accepted, and one of the services that follow it is such a one
pub record ServedBy (r : Rig) (s : State) (k : Call) (t p : ℕ) : Type 0 where
  pub fine : refusal r s k ≡ 0
  pub before : State
  pub entry : Entry
  pub served : Happens (service before entry) (accepted_events r s k [])
  pub brings : BringsThere r t p before entry

-- by hand: a signal, whenever some task is running
abbrev pub BySignal : Rig → ℕ → ℕ → Type 0
BySignal r t p =
    (f : ℕ) × ((s : State) → Sound r s → s.running ≢ 0 → ServedBy r s (signal f (r.desired (place_of t p))) t p)

-- by time: each tick of some minor cycle, up to the last count
abbrev pub ByTick : Rig → ℕ → ℕ → Type 0
ByTick r t p =
    (c : ℕ) × (c < minor_cycles)
    × ((s : State) (buffer : List ℕ) → Sound r s → s.count < last_count → suc s.count % minor_cycles ≡ c → tick_words ≤ length buffer → ServedBy r s (tick buffer) t p)

-- by the end of a task that is active in s: a terminate while its controller runs, a finish while it runs itself
abbrev pub ByEnding : Rig → State → ℕ → ℕ → Type 0
ByEnding r s t p =
    (u : ℕ) × (active (state_of s u) ≡ on)
    × ((s.running ≢ 0 → r.controller u ≡ s.running → ServedBy r s (terminate u) t p) × (s.running ≢ 0 → s.running ≡ u → ServedBy r s finish t p))
