-- THE RUNNING TASK: who runs after an accepted call.
use Rattle.std.specs.Prelude.{not, cond, ◌&&◌, ◌||◌, List, ℕ, ◌+◌, ◌*◌, leb, ltb, eqb, get_or}
use Rattle.laws.specs.Iter.{iter}
use Rattle.rules.specs.Sizes.{priorities, most_tasks}
use Rattle.rules.specs.Rig.{Rig}
use Rattle.rules.specs.State.{State, with_running, dispatchable}

-- "Privileged tasks rank above all others, by priority among themselves." A priority is below `priorities`.
abbrev pub rank : (ℕ → ℕ) → (ℕ → ℕ) → ℕ → ℕ
rank privileged priority t = priorities * privileged t + priority t

-- "else the highest rank, lowest number first; else none": the best of tasks 1 to i is b, 0 for none; then task i + 1
abbrev pub best_one : (ℕ → ℕ) → (ℕ → ℕ) → List ℕ → ℕ → ℕ → ℕ
best_one privileged priority states i b =
    cond (eqb (get_or states (i + 1) 0) dispatchable && (eqb b 0 || ltb (rank privileged priority b) (rank privileged priority (i + 1))))
    (i + 1)
    b

unfoldable pub best : (ℕ → ℕ) → (ℕ → ℕ) → List ℕ → ℕ → ℕ
best privileged priority states k = iter k (best_one privileged priority states) 0

-- "the running task goes on if it stayed dispatchable throughout and none has higher rank": a task that finished or began
-- to wait in the call is no longer the running task n here, so one that is dispatchable here has stayed so
unfoldable pub chosen : (ℕ → ℕ) → (ℕ → ℕ) → List ℕ → ℕ → ℕ
chosen privileged priority states n =
    let b = best privileged priority states most_tasks in
    cond (not (eqb n 0) && (eqb (get_or states n 0) dispatchable && leb (rank privileged priority b) (rank privileged priority n))) n b

unfoldable pub dispatch : Rig → State → State
dispatch r s = with_running s (chosen r.privileged r.priority s.states s.running)
