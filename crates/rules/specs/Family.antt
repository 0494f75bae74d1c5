-- THE FAMILY of a task: the task itself and all its descendants, whom a cancel strikes.
use Rattle.std.specs.Prelude.{Bool, cond, ◌&&◌, ◌||◌, List, [], ℕ, ◌+◌, eqb, get_or, set, replicate}
use Rattle.laws.specs.Iter.{iter}
use Rattle.rules.specs.Sizes.{most_tasks, task_places}
use Rattle.rules.specs.State.{Chain, Entry, active, off, uninvoked}
use Rattle.rules.specs.Serving.{push}
use Rattle.rules.specs.Waiting.{leave}

-- "the named task and all its descendants": u is task t, or its controller is t or a descendant of t
pub data Under (controller : ℕ → ℕ) (t : ℕ) : ℕ → Type 0 where
  itself : Under controller t t
  below : (u : ℕ) → Under controller t (controller u) → Under controller t u

-- the same, computed by rising number: a task is marked 1 if it is the named one, or if its
-- controller is marked. A controller has a lower number, so its mark stands before it is asked for (theorem family_is).
abbrev pub mark_one : (ℕ → ℕ) → ℕ → ℕ → List ℕ → List ℕ
mark_one controller t i marks =
    set marks (i + 1) (cond (eqb (i + 1) t || eqb (get_or marks (controller (i + 1)) 0) 1) 1 0)

unfoldable pub family : (ℕ → ℕ) → ℕ → List ℕ
family controller t = iter most_tasks (mark_one controller t) (replicate task_places 0)

abbrev pub is_marked : List ℕ → ℕ → Bool
is_marked marks t = eqb (get_or marks t 0) 1

-- they "become uninvoked"
abbrev pub clear_one : List ℕ → ℕ → List ℕ → List ℕ
clear_one marks i states = cond (is_marked marks (i + 1)) (set states (i + 1) uninvoked) states

unfoldable pub cleared : List ℕ → List ℕ → List ℕ
cleared marks states = iter most_tasks (clear_one marks) states

-- "and leave their chains"
abbrev pub leave_one : List ℕ → ℕ → (Chain → List ℕ) → Chain → List ℕ
leave_one marks i chains = cond (is_marked marks (i + 1)) (leave (i + 1) chains) chains

unfoldable pub deserted : List ℕ → (Chain → List ℕ) → Chain → List ℕ
deserted marks chains = iter most_tasks (leave_one marks) chains

-- "then activation flags of those that were active are queued off, by rising task number": by the states before
abbrev pub off_one : (ℕ → ℕ) → List ℕ → List ℕ → ℕ → List Entry → List Entry
off_one activation marks states i q =
    cond (is_marked marks (i + 1) && eqb (active (get_or states (i + 1) 0)) 1) (push (activation (i + 1)) off q) q

unfoldable pub offs : (ℕ → ℕ) → List ℕ → List ℕ → List Entry
offs activation marks states = iter most_tasks (off_one activation marks states) []
