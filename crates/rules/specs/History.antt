-- THE HISTORY OF WAITS: of each task, when its last wait began, where, and for which count. It is read off the calls of a
-- run, and names no chain's order: demand 3 asks the order of the chains against it.
use Rattle.std.specs.Prelude.{◌≡◌, ◌⊎◌, ◌↔◌, cond, List, [], ◌∷◌, ℕ, zero, suc, ◌+◌, ◌<◌, leb, eqb}
use Rattle.laws.specs.Functions.{upd}
use Rattle.laws.specs.Members.{In}
use Rattle.laws.specs.Ordered.{Ordered}
use Rattle.rules.specs.Rig.{Rig}
use Rattle.rules.specs.State.{Chain, time_chain, chain_of, State, state_of, value_of, wake_of, waiting}
use Rattle.rules.specs.Calls.{Call, schedule, cancel, terminate, finish, tick, wait_until, wait_for, latched, unlatched, signal, read_flag, read_block, write_block, next_waking, read_overruns, why_not, refusal, step, start}

-- call: the number of the call, in the run, with which the wait began
-- chain: the chain of the flag and value waited for, or the time chain
-- count: the count waited for; 0 for a flag
pub record Wait : Type 0 where
  pub call : ℕ
  pub chain : Chain
  pub count : ℕ

-- the last wait of each task, by its number
abbrev pub History : Type 0
History = ℕ → Wait

-- what the running task begins to wait for
pub data Begins : Type 0 where
  nothing : Begins
  on_flag : ℕ → ℕ → Begins
  until_count : ℕ → Begins

-- "if the waking count is at or below the count, no wait; else waiting"; "Latched wait for a flag's value: no wait if it
-- has it. Unlatched: always waits"
unfoldable pub begins : State → Call → Begins
begins s (schedule t) = nothing
begins s (cancel t) = nothing
begins s (terminate t) = nothing
begins s finish = nothing
begins s (tick buffer) = nothing
begins s (wait_until t) = cond (leb t s.count) nothing (until_count t)
begins s (wait_for n) = cond (leb (s.count + n) s.count) nothing (until_count (s.count + n))
begins s (latched f v) = cond (eqb (value_of s f) v) nothing (on_flag f v)
begins s (unlatched f v) = on_flag f v
begins s (signal f v) = nothing
begins s (read_flag f) = nothing
begins s (read_block k area buffer) = nothing
begins s (write_block k area buffer) = nothing
begins s next_waking = nothing
begins s (read_overruns t) = nothing
begins s (why_not t d) = nothing

-- task t begins, with call number n
unfoldable pub noted : ℕ → ℕ → Begins → History → History
noted n t nothing h = h
noted n t (on_flag f v) h = upd h t (record { call = n; chain = chain_of f v; count = 0 })
noted n t (until_count c) h = upd h t (record { call = n; chain = time_chain; count = c })

-- a refused call begins nothing
unfoldable pub noted_if : ℕ → ℕ → State → Call → History → History
noted_if n zero s k h = noted n s.running (begins s k) h
noted_if n (suc x) s k h = h

-- the history after the calls ks, the first of which has number n
unfoldable pub history : Rig → State → ℕ → List Call → History → History
history r s n [] h = h
history r s n (k ∷ ks) h = history r (step r s k).next (suc n) ks (noted_if n (refusal r s k) s k h)

-- of a run from the start, whose calls are numbered from 1; at first nobody has waited, and flag 0 is none
unfoldable pub never : History
never t = record { call = 0; chain = chain_of 0 0; count = 0 }

unfoldable pub history_of : Rig → List Call → History
history_of r ks = history r (start r) 1 ks never

-- ---- the order

-- "who began to wait earlier"
abbrev pub Earlier : History → ℕ → ℕ → Type 0
Earlier h a b = (h a).call < (h b).call

-- "waking count, then who began to wait earlier"
abbrev pub Sooner : History → ℕ → ℕ → Type 0
Sooner h a b = ((h a).count < (h b).count) ⊎ (((h a).count ≡ (h b).count) × Earlier h a b)

-- WHAT THE CHAINS ARE, by the history
pub record InOrder (h : History) (s : State) : Type 0 where
  -- each chain lists exactly those who wait and whose wait began there
  pub lists : (t : ℕ) (c : Chain) → In t (s.chains c) ↔ ((state_of s t ≡ waiting) × ((h t).chain ≡ c))
  -- "Time chain order: waking count, then who began to wait earlier."
  pub time : Ordered (Sooner h) (s.chains time_chain)
  pub counts : (t : ℕ) → In t (s.chains time_chain) → wake_of s t ≡ (h t).count
  -- "Each flag has a chain for on and one for off, in order of beginning."
  pub flags : (f v : ℕ) → Ordered (Earlier h) (s.chains (chain_of f v))
