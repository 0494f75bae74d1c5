-- THE RIG as the rules see it: what a rig file says, by number.
-- Tasks and flags are numbered from 1, and a place that the file does not fill reads as 0.
use Rattle.std.specs.Prelude.{Bool, ◌||◌, ℕ, ◌+◌, ◌*◌, eqb}
use Rattle.laws.specs.Any.{any}
use Rattle.rules.specs.Sizes.{most_tasks, positions, minor_cycles, flags_a_cycle}

-- "B, sender, its sub-address, receiver, its sub-address, words, period, phase"
pub record Row : Type 0 where
  pub sender : ℕ
  pub sender_sub : ℕ
  pub receiver : ℕ
  pub receiver_sub : ℕ
  pub words : ℕ
  pub period : ℕ
  pub phase : ℕ

pub record Rig : Type 0 where
  -- "RIG, edition (always 1), tasks, flags, master's bus address"
  pub tasks : ℕ
  pub flags : ℕ
  pub master : ℕ
  -- "T, task, controller (0 for none), priority, privileged 0/1, activation flag (0 for none)", by task number
  pub controller : ℕ → ℕ
  pub priority : ℕ → ℕ
  pub privileged : ℕ → ℕ
  pub activation : ℕ → ℕ
  -- "C, task, position, latched 0/1, desired 0/1", by the condition's place; present is 1 where there is a C line
  pub present : ℕ → ℕ
  pub latched : ℕ → ℕ
  pub desired : ℕ → ℕ
  -- "A, task, position, flag", in file order from 0
  pub lines : ℕ
  pub line_task : ℕ → ℕ
  pub line_pos : ℕ → ℕ
  pub line_flag : ℕ → ℕ
  -- "M, cycle 0 to 63, flag": the flags of a cycle in file order from 0; 0 behind the last of its up to fifteen
  pub minor : ℕ → ℕ → ℕ
  -- B lines in row order from 0: row number k of the paper is `row (k - 1)`
  pub rows : ℕ
  pub row : ℕ → Row

-- "up to 16 conditions a task at positions 0 to 15": the place of a condition in a table of all of them
abbrev pub place_of : ℕ → ℕ → ℕ
place_of task position = positions * task + position

-- "Flags on M lines are minor-cycle flags"
abbrev pub in_cycle_one : (ℕ → ℕ) → ℕ → ℕ → Bool
in_cycle_one flags f i = eqb (flags i) f

unfoldable pub in_cycle : (ℕ → ℕ) → ℕ → Bool
in_cycle flags f = any flags_a_cycle (in_cycle_one flags f)

abbrev pub minor_one : (ℕ → ℕ → ℕ) → ℕ → ℕ → Bool
minor_one minor f c = in_cycle (minor c) f

unfoldable pub is_minor : (ℕ → ℕ → ℕ) → ℕ → Bool
is_minor minor f = any minor_cycles (minor_one minor f)

-- the flag is a task's activation flag
abbrev pub activation_one : (ℕ → ℕ) → ℕ → ℕ → Bool
activation_one activation f i = eqb (activation (i + 1)) f

unfoldable pub is_activation : (ℕ → ℕ) → ℕ → Bool
is_activation activation f = any most_tasks (activation_one activation f)

-- "signal of an activation or minor-cycle flag" is refused: a plain flag is neither
abbrev pub not_plain : Rig → ℕ → Bool
not_plain r f = is_minor r.minor f || is_activation r.activation f
