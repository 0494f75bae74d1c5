-- What the counting of a service gives.
use Rattle.std.specs.Prelude.{◌≡◌, true, List, ℕ, ◌≤◌, eqb, get_or}
use Rattle.rules.specs.Rig.{Rig, is_minor}
use Rattle.rules.specs.State.{State, with_tables, with_overruns}
use Rattle.rules.specs.Conditions.{names}
use Rattle.rules.specs.Serving.{overrun}

-- the state before the service, with whatever stands beside these two tables
abbrev pub as_before : List ℕ → List ℕ → State → State
as_before states numbers s = with_overruns (with_tables s s.conds states) numbers

-- f is a minor-cycle flag, and who has it in a condition is marked
pub record Names (r : Rig) (f : ℕ) (named : List ℕ) : Type 0 where
  pub minor : is_minor r.minor f ≡ true
  pub those : (t : ℕ) → t ≤ 64 → names r.lines r.line_task r.line_flag t f ≡ eqb (get_or named t 0) 1

-- the numbers after it are those of the rule
abbrev pub Counted : List ℕ → List ℕ → List ℕ → List ℕ → Type 0
Counted named states numbers after = (r : Rig) (f : ℕ) (s : State) → Names r f named → after ≡ overrun r f (as_before states numbers s)
