-- WAITING: how the running task begins to wait, how a task leaves its chain, and who is due.
use Rattle.std.specs.Prelude.{Bool, not, List, [], ◌∷◌, ◌++◌, ℕ, eqb, get_or, set}
use Rattle.laws.specs.Members.{without, keep}
use Rattle.laws.specs.Order.{insert_by}
use Rattle.rules.specs.State.{Chain, time_chain, chain_of, with_chain, State, with_chains, with_wakes, with_running, waiting}
use Rattle.rules.specs.Serving.{rouse}

-- the running task is waiting, in chain c as it now reads
abbrev pub waits : State → Chain → List ℕ → State
waits s c chain = with_running (with_chains s (set s.states s.running waiting) (with_chain s.chains c chain)) 0

-- "Each flag has a chain for on and one for off, in order of beginning.": behind those who began earlier
unfoldable pub wait_on : State → ℕ → ℕ → State
wait_on s f v = waits s (chain_of f v) (s.chains (chain_of f v) ++ s.running ∷ [])

-- "Time chain order: waking count, then who began to wait earlier.": behind all whose waking count is at most t
unfoldable pub wait_until_count : State → ℕ → State
wait_until_count s t =
    let wakes = set s.wakes s.running t in
    waits (with_wakes s wakes) time_chain (insert_by (λ (a : ℕ). get_or wakes a 0) s.running (s.chains time_chain))

-- "taken out of any chain"
unfoldable pub leave : ℕ → (Chain → List ℕ) → Chain → List ℕ
leave t chains c = without t (chains c)

-- a task whose waking count is the count is due
abbrev pub is_due : List ℕ → ℕ → ℕ → Bool
is_due wakes count t = eqb (get_or wakes t 0) count

-- "tasks due at it become dispatchable", and leave the time chain
unfoldable pub wake_due : State → State
wake_due s =
    with_chains s
    (rouse (keep (is_due s.wakes s.count) (s.chains time_chain)) s.states)
    (with_chain s.chains time_chain (keep (λ (t : ℕ). not (is_due s.wakes s.count t)) (s.chains time_chain)))
