-- WHY WON'T IT START? (L13) "Tasks ask about conditions and conditions about tasks, and each link lowers d." Each rule is said for one
-- place, flag, line or position, and then for all of them. In words: module WhyNot.
use Rattle.std.specs.Prelude.{Bool, false, not, cond, ◌&&◌, ◌||◌, ℕ, zero, suc, ◌+◌, eqb}
use Rattle.laws.specs.All.{all}
use Rattle.laws.specs.Any.{any}
use Rattle.laws.specs.Lowest.{lowest}
use Rattle.rules.specs.Sizes.{most_tasks, positions}
use Rattle.rules.specs.Rig.{Rig, place_of, is_minor, activation_one, not_plain}
use Rattle.rules.specs.State.{State, state_of, active, inactive, on}
use Rattle.rules.specs.Conditions.{met_one}

-- "d from 0 to 3"
unfoldable pub most_links : ℕ
most_links = 3

-- the flag is "the activation flag of" a task that passes a test
abbrev pub owner_one : Rig → (ℕ → Bool) → ℕ → ℕ → Bool
owner_one r who f i = activation_one r.activation f i && who (i + 1)

unfoldable pub flag_of : Rig → (ℕ → Bool) → ℕ → Bool
flag_of r who f = any most_tasks (owner_one r who f)

-- "One that desires on can be brought there if one of its flags is a minor-cycle flag, a plain flag, or, with d at least 1, the
-- activation flag of an inactive task that can start within d - 1 links": `below` tells who can; with d = 0 nobody
unfoldable pub comes_on : Rig → (ℕ → Bool) → ℕ → Bool
comes_on r below f = is_minor r.minor f || (not (not_plain r f) || flag_of r below f)

-- "One that desires off: if one of its flags is plain, or is the activation flag of an active task."
abbrev pub is_active : State → ℕ → Bool
is_active s t = eqb (active (state_of s t)) on

unfoldable pub goes_off : Rig → State → ℕ → Bool
goes_off r s f = not (not_plain r f) || flag_of r (is_active s) f

-- by what the condition desires
unfoldable pub comes_to : Rig → State → (ℕ → Bool) → ℕ → ℕ → Bool
comes_to r s below desired f = cond (eqb desired on) (comes_on r below f) (goes_off r s f)

-- the condition of task t at position p "can be brought there": "one of its flags", that of A line k
abbrev pub brought_one : Rig → State → (ℕ → Bool) → ℕ → ℕ → ℕ → Bool
brought_one r s below t p k =
    (eqb (r.line_task k) t && eqb (r.line_pos k) p) && comes_to r s below (r.desired (place_of t p)) (r.line_flag k)

unfoldable pub brought : Rig → State → (ℕ → Bool) → ℕ → ℕ → Bool
brought r s below t p = any r.lines (brought_one r s below t p)

-- it "stands as desired or can be brought there"; a position with no condition is in nobody's way
abbrev pub allows : Rig → State → (ℕ → Bool) → ℕ → ℕ → Bool
allows r s below t p = met_one r.present r.desired t s.conds p || brought r s below t p

-- "An inactive task can start within d links .. when each condition stands as desired or can be brought there."
unfoldable pub starts : Rig → State → (ℕ → Bool) → ℕ → Bool
starts r s below t = eqb (state_of s t) inactive && all positions (allows r s below t)

-- "with d at least 1, .. within d - 1 links": "each link lowers d"
unfoldable pub starts_below : Rig → State → ℕ → ℕ → Bool
starts_below r s zero t = false
starts_below r s (suc d) t = starts r s (starts_below r s d) t

unfoldable pub can_start : Rig → State → ℕ → ℕ → Bool
can_start r s d t = starts r s (starts_below r s d) t

-- "The answer is yes, or the lowest condition that blocks": its position, from 0; for yes 16, which is no position
abbrev pub blocks : Rig → State → ℕ → ℕ → ℕ → Bool
blocks r s d t p = not (allows r s (starts_below r s d) t p)

unfoldable pub lowest_blocking : Rig → State → ℕ → ℕ → ℕ
lowest_blocking r s d t = lowest positions (blocks r s d t)
