-- AN UNSOUND STATE FOR EACH PART of the paper's list: a state to which calls led, with one thing changed, is not sound. One
-- statement. (The states are computed by the rules; that they are sound before the change is theorem always, crate rules_laws.)
use Rattle.std.specs.Prelude.{◌≡◌, refl, Bool, true, false, cond, List, [], ◌∷◌, ℕ, ◌≤◌, ◌<◌, set}
use Rattle.std.proofs.Common.{ap, inl, inr, true≢false, arith}
use Rattle.laws.specs.Members.{In}
use Rattle.laws.specs.Iter.{iter}
use Rattle.laws.specs.All.{all}
use Rattle.laws.specs.Any.{any}
use Rattle.laws.specs.Tables.{total, over}
use Rattle.rules.specs.Rig.{Rig, place_of}
use Rattle.rules.specs.State.{Chain, time_chain, chain_of, same_chain, with_chain, State, with_count, with_values, with_tables, with_chains, with_wakes, with_overruns, with_running, blank}
use Rattle.rules.specs.Conditions.{relax, met, drive, names}
use Rattle.rules.specs.Serving.{activate, too_soon, most_overruns, more_by_one, overrun, takes, rouse, wake, ready, offer, offers, serve_flag, serving, serve}
use Rattle.rules.specs.Waiting.{wait_until_count}
use Rattle.rules.specs.Running.{best, chosen, dispatch}
use Rattle.rules.specs.Calls.{schedule, wait_until, tested, scheduled, effect, ended, again, settled, decide, no_such_one, last_count, refusals, refusal, output, accepted, after, step, run, started, start}
use Rattle.rules.specs.Scripts.{T, C, A, of_task, of_condition, numbers, of_line, of_cycle, rig}
use Rattle.rules.specs.Soundness.{Sound}

-- task 1 with activation flag 2; its task 2 with activation flag 3; whose task 3; and task 4, with a condition on flag 1
unfoldable pub four : Rig
four =
    rig 4 4 1
    (T 1 0 10 0 2 ∷ T 2 1 20 0 3 ∷ T 3 2 30 0 0 ∷ T 4 1 5 0 0 ∷ [])
    (C 4 0 0 1 ∷ [])
    (A 4 0 1 ∷ [])
    [] []

-- 4 is inactive, 3 waits for count 5, then 2 for count 7, 1 runs
unfoldable pub calm : State
calm = run four (start four) (schedule 4 ∷ schedule 2 ∷ schedule 3 ∷ wait_until 5 ∷ wait_until 7 ∷ [])

-- one task's state, one flag's value, one condition's value, one waking count, one number of overruns, one chain changed
unfoldable pub state_to : ℕ → ℕ → State
state_to t v = with_tables calm calm.conds (set calm.states t v)

unfoldable pub flag_to : ℕ → ℕ → State
flag_to f v = with_values calm (set calm.flags f v) calm.conds

unfoldable pub condition_to : ℕ → ℕ → State
condition_to i v = with_values calm calm.flags (set calm.conds i v)

unfoldable pub wake_to : ℕ → ℕ → State
wake_to t c = with_wakes calm (set calm.wakes t c)

unfoldable pub overruns_to : ℕ → ℕ → State
overruns_to t n = with_overruns calm (set calm.overruns t n)

unfoldable pub chain_to : Chain → List ℕ → State
chain_to c l = with_chains calm calm.states (with_chain calm.chains c l)

-- 3 has gone over from the time chain to chain c
unfoldable pub three_in : Chain → State
three_in c = with_chains calm calm.states (with_chain (with_chain calm.chains time_chain (2 ∷ [])) c (3 ∷ []))

-- nobody is in a chain that is empty either way
nobody : (t : ℕ) (b : Bool) → In t (cond b [] []) → ⊥
nobody t true i = i
nobody t false i = i

abbrev pub Unsound : State → Type 0
Unsound s = Sound four s → ⊥

pub each_part_counts :
    -- "states are 0 to 3"
    Unsound (state_to 4 4)
    -- "the count is in range"
    × Unsound (with_count (start four) 2147483648)
    -- "each invoked task but task 1 has an invoked controller"
    × Unsound (with_tables (start four) (start four).conds (set (start four).states 3 1))
    -- "waiting tasks and links agree": 4 waits in no chain; 1, who runs, is in one; 3 is in two; 3 is twice in one; 3 is in the
    -- chain of no flag, or of no value
    × Unsound (with_tables (start four) (start four).conds (set (start four).states 4 2))
    × Unsound (chain_to time_chain (3 ∷ 2 ∷ 1 ∷ []))
    × Unsound (chain_to (chain_of 1 0) (3 ∷ []))
    × Unsound (chain_to time_chain (3 ∷ 3 ∷ 2 ∷ []))
    × Unsound (three_in (chain_of 129 0))
    × Unsound (three_in (chain_of 0 1))
    × Unsound (three_in (chain_of 1 2))
    -- "time chain in order of waking count, all above the count"
    × Unsound (chain_to time_chain (2 ∷ 3 ∷ []))
    × Unsound (with_count calm 5)
    -- "activation flags agree with task states"
    × Unsound (flag_to 3 0)
    × Unsound (flag_to 2 0)
    -- "the running task is dispatchable with none of higher rank, or is none with none dispatchable"
    × Unsound (with_running calm 4)
    × Unsound (with_running calm 0)
    × Unsound (with_running (with_tables calm calm.conds (set calm.states 4 3)) 4)
    -- a value is 0 or 1; entries beyond the rig's counts, and where there is no condition, are 0
    × Unsound (flag_to 4 2)
    × Unsound (condition_to (place_of 4 0) 2)
    × Unsound (state_to 5 1)
    × Unsound (flag_to 5 1)
    × Unsound (wake_to 5 9)
    × Unsound (condition_to (place_of 4 1) 1)
    -- L6: "bounded in soundness"; 0 for tasks above the rig's count, and for none
    × Unsound (overruns_to 2 65536)
    × Unsound (overruns_to 5 1)
    × Unsound (overruns_to 0 1)
unfolding four calm state_to flag_to condition_to wake_to overruns_to chain_to three_in of_task of_condition numbers of_line of_cycle rig iter all any total over blank relax met drive names activate too_soon most_overruns more_by_one overrun takes rouse wake ready offer offers serve_flag serving serve wait_until_count best chosen dispatch tested scheduled effect ended again settled decide no_such_one last_count refusals refusal output accepted after step run started start
each_part_counts = (
  (λ h. let z : 4 ≤ 3 = h.tasks.small 4 in omega arith),
  (λ h. let z : 2147483648 ≤ 2147483647 = h.range in omega arith),
  (λ h. h.tasks.tree 3 (λ q. omega arith) (λ q. omega arith) refl),
  (λ h. let w = h.chains.listed.there 4 refl in nobody 4 (same_chain w.0 (chain_of 2 1)) w.1),
  (λ h. let z : ◌≡◌ {A = ℕ} 3 2 = h.chains.listed.two 1 (time_chain, inr (inr (inl refl))) in omega arith),
  (λ h. true≢false (ap (same_chain time_chain) (h.chains.apart 3 time_chain (chain_of 1 0) (inl refl) (inl refl)))),
  (λ h. (h.chains.once time_chain).0 (inl refl)),
  (λ h. let z : (1 ≤ 129) × (129 ≤ 128) × (0 ≤ 1) = h.chains.only 3 (chain_of 129 0) (inl refl) in omega (arith, z.1)),
  (λ h. let z : (1 ≤ 0) × (0 ≤ 128) × (1 ≤ 1) = h.chains.only 3 (chain_of 0 1) (inl refl) in omega (arith, z.0)),
  (λ h. let z : (1 ≤ 1) × (1 ≤ 128) × (2 ≤ 1) = h.chains.only 3 (chain_of 1 2) (inl refl) in omega (arith, z.2)),
  (λ h. let z : 7 ≤ 5 = h.chains.ordered.0 3 (inl refl) in omega arith),
  (λ h. let z : 5 < 5 = h.chains.ahead 3 (inl refl) in omega arith),
  (λ h. let z : ◌≡◌ {A = ℕ} 0 1 = h.agree 2 (λ q. omega arith) in omega arith),
  (λ h. let z : ◌≡◌ {A = ℕ} 0 1 = h.agree 1 (λ q. omega arith) in omega arith),
  (λ h. let z : ◌≡◌ {A = ℕ} 1 3 = h.runs.up (λ q. omega arith) in omega arith),
  (λ h. (h.runs.top 1 (λ q. omega arith) refl).0 refl),
  (λ h. let z : 10 ≤ 5 = (h.runs.top 1 (λ q. omega arith) refl).1 in omega arith),
  (λ h. let z : 2 ≤ 1 = h.flags.small 4 in omega arith),
  (λ h. let z : 2 ≤ 1 = h.conds.small (place_of 4 0) in omega arith),
  (λ h. let z : (1 ≤ 5) × (5 ≤ 4) = h.tasks.within 5 (λ q. omega arith) in omega (arith, z.1)),
  (λ h. let z : (1 ≤ 5) × (5 ≤ 4) = h.flags.within 5 (λ q. omega arith) in omega (arith, z.1)),
  (λ h. let z : (1 ≤ 5) × (5 ≤ 4) = h.wakes.within 5 (λ q. omega arith) in omega (arith, z.1)),
  (λ h. let z : ◌≡◌ {A = ℕ} 0 1 = h.conds.within (place_of 4 1) (λ q. omega arith) in omega arith),
  (λ h. let z : 65536 ≤ 65535 = h.overruns.small 2 in omega arith),
  (λ h. let z : (1 ≤ 5) × (5 ≤ 4) = h.overruns.within 5 (λ q. omega arith) in omega (arith, z.1)),
  (λ h. let z : (1 ≤ 0) × (0 ≤ 4) = h.overruns.within 0 (λ q. omega arith) in omega (arith, z.0)),
)
