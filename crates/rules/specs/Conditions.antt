-- CONDITIONS: what a schedule, an activation and a service do to them, and when they are as desired.
-- Each rule is said for one position or one A line, and then for all of them.
use Rattle.std.specs.Prelude.{Bool, not, cond, ◌&&◌, ◌||◌, List, ℕ, ◌-◌, eqb, get_or, set}
use Rattle.laws.specs.Iter.{iter}
use Rattle.laws.specs.All.{all}
use Rattle.laws.specs.Any.{any}
use Rattle.rules.specs.Sizes.{positions}
use Rattle.rules.specs.Rig.{place_of}

-- "unlatched conditions take the undesired value": the condition at position p of task t; undesired is 1 minus desired
abbrev pub relax_one : (ℕ → ℕ) → (ℕ → ℕ) → (ℕ → ℕ) → ℕ → ℕ → List ℕ → List ℕ
relax_one present latched desired t p conds =
    cond (eqb (present (place_of t p)) 1 && eqb (latched (place_of t p)) 0)
    (set conds (place_of t p) (1 - desired (place_of t p)))
    conds

unfoldable pub relax : (ℕ → ℕ) → (ℕ → ℕ) → (ℕ → ℕ) → ℕ → List ℕ → List ℕ
relax present latched desired t conds = iter positions (relax_one present latched desired t) conds

-- "if all conditions are as desired, none included"
abbrev pub met_one : (ℕ → ℕ) → (ℕ → ℕ) → ℕ → List ℕ → ℕ → Bool
met_one present desired t conds p =
    not (eqb (present (place_of t p)) 1) || eqb (get_or conds (place_of t p) 0) (desired (place_of t p))

unfoldable pub met : (ℕ → ℕ) → (ℕ → ℕ) → ℕ → List ℕ → Bool
met present desired t conds = all positions (met_one present desired t conds)

-- "every condition with that flag takes it, whatever its task's state": the condition of A line k
abbrev pub drive_one : (ℕ → ℕ) → (ℕ → ℕ) → (ℕ → ℕ) → ℕ → ℕ → ℕ → List ℕ → List ℕ
drive_one line_task line_pos line_flag f v k conds =
    cond (eqb (line_flag k) f) (set conds (place_of (line_task k) (line_pos k)) v) conds

unfoldable pub drive : ℕ → (ℕ → ℕ) → (ℕ → ℕ) → (ℕ → ℕ) → ℕ → ℕ → List ℕ → List ℕ
drive lines line_task line_pos line_flag f v conds = iter lines (drive_one line_task line_pos line_flag f v) conds

-- task t "with that flag in a condition"
abbrev pub names_one : (ℕ → ℕ) → (ℕ → ℕ) → ℕ → ℕ → ℕ → Bool
names_one line_task line_flag t f k = eqb (line_task k) t && eqb (line_flag k) f

unfoldable pub names : ℕ → (ℕ → ℕ) → (ℕ → ℕ) → ℕ → ℕ → Bool
names lines line_task line_flag t f = any lines (names_one line_task line_flag t f)
