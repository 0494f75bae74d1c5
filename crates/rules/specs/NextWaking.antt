-- WHEN DOES THE BENCH NEXT WAKE SOMEONE? "the lowest waking count among tasks waiting on time ..; none exactly when no task so
-- waits." A waking count is above the count at which its wait began, so it is never 0: 0 stands for none.
use Rattle.std.specs.Prelude.{◌≡◌, ◌≢◌, ◌↔◌, Bool, cond, ◌&&◌, ◌||◌, ℕ, ◌+◌, ◌≤◌, ltb, eqb}
use Rattle.laws.specs.Iter.{iter}
use Rattle.laws.specs.Members.{In, is_in}
use Rattle.rules.specs.Sizes.{most_tasks}
use Rattle.rules.specs.State.{time_chain, State, state_of, wake_of, waiting}

-- "tasks waiting on time": waiting, and in the time chain
abbrev pub WaitsOnTime : State → ℕ → Type 0
WaitsOnTime s t = (state_of s t ≡ waiting) × In t (s.chains time_chain)

-- n is "the lowest waking count among tasks waiting on time; none exactly when no task so waits"
pub record LowestWaking (s : State) (n : ℕ) : Type 0 where
  pub none : (n ≡ 0) ↔ ((t : ℕ) → WaitsOnTime s t → ⊥)
  pub some : n ≢ 0 → (t : ℕ) × WaitsOnTime s t × (wake_of s t ≡ n)
  pub lowest : (t : ℕ) → WaitsOnTime s t → n ≤ wake_of s t

-- ---- the same as it is computed, task by task (that it is the same, of every sound state: rules_laws, NextWaking)

abbrev pub waits_on_time : State → ℕ → Bool
waits_on_time s t = eqb (state_of s t) waiting && is_in t (s.chains time_chain)

-- the lowest of tasks 1 to i is n, 0 for none; then task i + 1
abbrev pub lower_one : State → ℕ → ℕ → ℕ
lower_one s i n = cond (waits_on_time s (i + 1) && (eqb n 0 || ltb (wake_of s (i + 1)) n)) (wake_of s (i + 1)) n

unfoldable pub lowest_waking : State → ℕ
lowest_waking s = iter most_tasks (lower_one s) 0
