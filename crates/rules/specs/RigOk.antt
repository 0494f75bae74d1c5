-- A RIGHT RIG: the rules over the whole file that what follows from the rules of the executive rests on.
-- A rig that the reader accepts has them all; each is said of the numbers by which the rules see the rig.
use Rattle.std.specs.Prelude.{◌≡◌, ◌≢◌, ℕ, suc, ◌*◌, ◌≤◌, ◌<◌}
use Rattle.rules.specs.Sizes.{most_tasks, most_flags, positions, most_priority, minor_cycles, flags_a_cycle, most_rows, most_words}
use Rattle.rules.specs.Rig.{Rig, place_of}

pub record RigOk (r : Rig) : Type 0 where
  -- "Tasks 1 to 64, flags 1 to 128"
  pub tasks_some : 1 ≤ r.tasks
  pub tasks_le : r.tasks ≤ most_tasks
  pub flags_le : r.flags ≤ most_flags
  -- "priority 0 to 255"
  pub priority_le : (t : ℕ) → r.priority t ≤ most_priority
  -- "no task or flag number is above the RIG line's": activation flags stand on the T lines of tasks 1 to tasks
  pub activation_task : (t : ℕ) → r.activation t ≢ 0 → (1 ≤ t) × (t ≤ r.tasks)
  pub activation_le : (t : ℕ) → r.activation t ≤ r.flags
  -- "An activation flag serves one task"
  pub activation_unique : (t u : ℕ) → r.activation t ≢ 0 → r.activation t ≡ r.activation u → t ≡ u
  -- "and is no minor-cycle flag"
  pub activation_not_minor : (t c i : ℕ) → c < minor_cycles → i < flags_a_cycle → r.activation t ≢ 0 → r.minor c i ≢ r.activation t
  -- "no task or flag number is above the RIG line's": M lines
  pub minor_le : (c i : ℕ) → c < minor_cycles → i < flags_a_cycle → r.minor c i ≤ r.flags
  -- "task 1 has controller 0; every other controller is the previous task or one of that task's ancestors": a lower number;
  -- no task has none
  pub controller_none : r.controller 0 ≡ 0
  pub controller_low : (t : ℕ) → t ≢ 0 → r.controller t < t
  pub controller_some : (t : ℕ) → 2 ≤ t → t ≤ r.tasks → r.controller t ≢ 0
  -- "no task or flag number is above the RIG line's": C lines
  pub present_task : (i : ℕ) → r.present i ≡ 1 → (positions ≤ i) × (i < positions * suc r.tasks)
  -- "Each A names a condition with a C line"
  pub line_present : (k : ℕ) → k < r.lines → r.present (place_of (r.line_task k) (r.line_pos k)) ≡ 1
  -- "at positions 0 to 15"
  pub line_position : (k : ℕ) → k < r.lines → r.line_pos k < positions
  -- "no task or flag number is above the RIG line's": A lines
  pub line_flag_named : (k : ℕ) → k < r.lines → (1 ≤ r.line_flag k) × (r.line_flag k ≤ r.flags)
  -- "desired 0/1"
  pub desired_le : (i : ℕ) → r.desired i ≤ 1

-- of the rows, for what is written into lent buffers: "bus rows 0 to 64 of 1 to 32 words"
pub record RowsOk (r : Rig) : Type 0 where
  pub rows_le : r.rows ≤ most_rows
  pub words_le : (i : ℕ) → i < r.rows → (r.row i).words ≤ most_words
