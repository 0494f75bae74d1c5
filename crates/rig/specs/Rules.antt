-- THE RULES OF A RIG, and of the cycles that stand beside it, each under its own name.
-- Tables are read by number: task t at place t, flag f at place f, the condition of a task at `place task position`.
use Rattle.std.specs.Prelude.{◌≡◌, ◌⊎◌, ◌≢◌, List, [], ◌∷◌, ℕ, ◌+◌, ◌-◌, ◌*◌, ◌≤◌, ◌<◌, length, get_or}
use Rattle.laws.specs.Members.{In}
use Rattle.laws.specs.Sizes.{most_tasks, most_flags, positions, most_priority, minor_cycles, flags_a_cycle, most_lines, most_rows, most_words, task_places, condition_places}
pub use Rattle.rig_tables.specs.Places.{at, place}
use Rattle.rig.specs.declared.Row.{Row}
use Rattle.rig.specs.declared.Cycle.{Cycle}
use Rattle.rig.specs.declared.Rig.{Rig}

abbrev pub no_row : Row
no_row = record { sender = 0; sender_sub = 0; receiver = 0; receiver_sub = 0; words = 0; period = 0; phase = 0 }

abbrev pub no_cycle : Cycle
no_cycle = record { flags = [] }

-- the i-th flag of cycle c in file order, from 0; 0 behind the last
abbrev pub flag_at : List Cycle → ℕ → ℕ → ℕ
flag_at cycles c i = at (get_or cycles c no_cycle).flags i

-- the B lines in row order, from 0
abbrev pub row_at : Rig → ℕ → Row
row_at g k = get_or g.row k no_row

-- the condition that A line k names
abbrev pub line_place : Rig → ℕ → ℕ
line_place g k = place (at g.line_task k) (at g.line_pos k)

-- the numbers of the rig's tasks, and of its flags
abbrev pub Task : Rig → ℕ → Type 0
Task g t = (1 ≤ t) × (t ≤ g.tasks)

abbrev pub Flag : Rig → ℕ → Type 0
Flag g f = (1 ≤ f) × (f ≤ g.flags)

-- "Flags on M lines are minor-cycle flags"
abbrev pub Minor : List Cycle → ℕ → Type 0
Minor cycles f = (f ≢ 0) × (c : ℕ) × (i : ℕ) × (c < minor_cycles) × (i < flags_a_cycle) × (flag_at cycles c i ≡ f)

-- ---- sizes

-- "Tasks 1 to 64, flags 1 to 128", "addresses 0 to 31", "A .. (at most 1,024 lines)", "bus rows 0 to 64"
abbrev pub TaskCount : Rig → Type 0
TaskCount g = (1 ≤ g.tasks) × (g.tasks ≤ most_tasks)

abbrev pub FlagCount : Rig → Type 0
FlagCount g = (1 ≤ g.flags) × (g.flags ≤ most_flags)

abbrev pub MasterAddress : Rig → Type 0
MasterAddress g = g.master ≤ 31

abbrev pub LineCount : Rig → Type 0
LineCount g = g.lines ≤ most_lines

abbrev pub RowCount : Rig → Type 0
RowCount g = g.rows ≤ most_rows

-- "priority 0 to 255"
abbrev pub Priorities : Rig → Type 0
Priorities g = (t : ℕ) → t < task_places → at g.priority t ≤ most_priority

-- "privileged 0/1"
abbrev pub Privileges : Rig → Type 0
Privileges g = (t : ℕ) → t < task_places → at g.privileged t ≤ 1

-- "latched 0/1, desired 0/1": present is 1 where there is a C line, else all three are 0 ("entries beyond its counts are 0")
pub record ConditionValues (g : Rig) (p : ℕ) : Type 0 where
  pub present : at g.present p ≤ 1
  pub latched : at g.latched p ≤ at g.present p
  pub desired : at g.desired p ≤ at g.present p

abbrev pub Conditions : Rig → Type 0
Conditions g = (p : ℕ) → p < condition_places → ConditionValues g p

-- "addresses 0 to 31, data sub-addresses 1 to 30", rows "of 1 to 32 words", "periods 1, 2, 4, 8, 16, 32, 64, phase below the
-- period"
abbrev pub periods : List ℕ
periods = 1 ∷ 2 ∷ 4 ∷ 8 ∷ 16 ∷ 32 ∷ 64 ∷ []

pub record RowSizes (b : Row) : Type 0 where
  pub sender : b.sender ≤ 31
  pub sender_sub : (1 ≤ b.sender_sub) × (b.sender_sub ≤ 30)
  pub receiver : b.receiver ≤ 31
  pub receiver_sub : (1 ≤ b.receiver_sub) × (b.receiver_sub ≤ 30)
  pub words : (1 ≤ b.words) × (b.words ≤ most_words)
  pub period : In b.period periods
  pub phase : b.phase < b.period

abbrev pub Rows : Rig → Type 0
Rows g = (k : ℕ) → k < g.rows → RowSizes (row_at g k)

-- ---- orders: "each kind rising strictly by its leading numbers"

-- "A and M all": by task, then position, then flag
abbrev pub Rises : ℕ → ℕ → ℕ → ℕ → ℕ → ℕ → Type 0
Rises t p f u q h = (t < u) ⊎ ((t ≡ u) × ((p < q) ⊎ ((p ≡ q) × (f < h))))

abbrev pub LineOrder : Rig → Type 0
LineOrder g =
    (k : ℕ) →
    k + 1 < g.lines →
    Rises (at g.line_task k) (at g.line_pos k) (at g.line_flag k) (at g.line_task (k + 1)) (at g.line_pos (k + 1)) (at g.line_flag (k + 1))

-- within a cycle: a flag that is not the first stands behind a lower one, so that nothing stands behind the last
abbrev pub CycleOrder : List Cycle → Type 0
CycleOrder cycles =
    (c : ℕ) →
    c < minor_cycles →
    (i : ℕ) → i < 14 → flag_at cycles c (i + 1) ≢ 0 → (flag_at cycles c i ≢ 0) × (flag_at cycles c i < flag_at cycles c (i + 1))

-- ---- rules over the whole file

-- "no task or flag number is above the RIG line's": of T lines (0 for none), C lines, A lines ("positions 0 to 15"), M lines
abbrev pub ActivationNumbers : Rig → Type 0
ActivationNumbers g = (t : ℕ) → t < task_places → at g.activation t ≤ g.flags

abbrev pub ConditionNumbers : Rig → Type 0
ConditionNumbers g = (p : ℕ) → p < condition_places → at g.present p ≢ 0 → (positions ≤ p) × (p < positions * (g.tasks + 1))

pub record LineNumbers (g : Rig) (k : ℕ) : Type 0 where
  pub task : Task g (at g.line_task k)
  pub position : at g.line_pos k ≤ 15
  pub flag : Flag g (at g.line_flag k)

abbrev pub Lines : Rig → Type 0
Lines g = (k : ℕ) → k < g.lines → LineNumbers g k

abbrev pub CycleNumbers : Rig → List Cycle → Type 0
CycleNumbers g cycles = (c : ℕ) → c < minor_cycles → (i : ℕ) → i < flags_a_cycle → flag_at cycles c i ≤ g.flags

-- a is the controller of t, or of one of t's ancestors; 0 is none
pub data Ancestor (controller : ℕ → ℕ) : ℕ → ℕ → Type 0 where
  nearest : {a t : ℕ} → controller t ≡ a → a ≢ 0 → Ancestor controller a t
  further : {a t : ℕ} → controller t ≢ 0 → Ancestor controller a (controller t) → Ancestor controller a t

-- "task 1 has controller 0; every other controller is the previous task or one of that task's ancestors"
pub record Controllers (g : Rig) : Type 0 where
  pub first : at g.controller 1 ≡ 0
  pub others : (t : ℕ) → 1 < t → t ≤ g.tasks → (at g.controller t ≡ t - 1) ⊎ Ancestor (at g.controller) (at g.controller t) (t - 1)

-- "An activation flag serves one task"
abbrev pub ActivationServesOne : Rig → Type 0
ActivationServesOne g =
    (t u : ℕ) → t < task_places → u < task_places → at g.activation t ≢ 0 → at g.activation t ≡ at g.activation u → t ≡ u

-- "and is no minor-cycle flag"
abbrev pub ActivationNotMinor : Rig → List Cycle → Type 0
ActivationNotMinor g cycles = (t : ℕ) → t < task_places → Minor cycles (at g.activation t) → ⊥

-- "Each A names a condition with a C line"
abbrev pub LineHasCondition : Rig → Type 0
LineHasCondition g = (k : ℕ) → k < g.lines → at g.present (line_place g k) ≡ 1

-- "each condition has at least one A"
abbrev pub ConditionHasLine : Rig → Type 0
ConditionHasLine g = (p : ℕ) → p < condition_places → at g.present p ≢ 0 → (k : ℕ) × (k < g.lines) × (line_place g k ≡ p)

-- "A condition with a minor-cycle flag has no other flag, is unlatched and desires on"
pub record MinorCondition (g : Rig) (k : ℕ) : Type 0 where
  pub alone : (j : ℕ) → j < g.lines → line_place g j ≡ line_place g k → j ≡ k
  pub unlatched : at g.latched (line_place g k) ≡ 0
  pub desires : at g.desired (line_place g k) ≡ 1

abbrev pub MinorConditions : Rig → List Cycle → Type 0
MinorConditions g cycles = (k : ℕ) → k < g.lines → Minor cycles (at g.line_flag k) → MinorCondition g k

-- "Sender and receiver differ."
abbrev pub SenderDiffers : Rig → Type 0
SenderDiffers g = (k : ℕ) → k < g.rows → (row_at g k).sender ≢ (row_at g k).receiver

-- ---- "In a rig, entries beyond its counts are 0" (conditions with no C line and places behind a cycle's last: above)

pub record NoTask (g : Rig) (t : ℕ) : Type 0 where
  pub controller : at g.controller t ≡ 0
  pub priority : at g.priority t ≡ 0
  pub privileged : at g.privileged t ≡ 0
  pub activation : at g.activation t ≡ 0

abbrev pub TaskZeros : Rig → Type 0
TaskZeros g = (t : ℕ) → t < task_places → (Task g t → ⊥) → NoTask g t

pub record NoLine (g : Rig) (k : ℕ) : Type 0 where
  pub task : at g.line_task k ≡ 0
  pub position : at g.line_pos k ≡ 0
  pub flag : at g.line_flag k ≡ 0

abbrev pub LineZeros : Rig → Type 0
LineZeros g = (k : ℕ) → k < most_lines → g.lines ≤ k → NoLine g k

abbrev pub RowZeros : Rig → Type 0
RowZeros g = (k : ℕ) → k < most_rows → g.rows ≤ k → row_at g k ≡ no_row

-- the tables have their lengths: so it is of every rig that a program holds
pub record Shaped (g : Rig) (cycles : List Cycle) : Type 0 where
  pub controller : length g.controller ≡ task_places
  pub priority : length g.priority ≡ task_places
  pub privileged : length g.privileged ≡ task_places
  pub activation : length g.activation ≡ task_places
  pub present : length g.present ≡ condition_places
  pub latched : length g.latched ≡ condition_places
  pub desired : length g.desired ≡ condition_places
  pub line_task : length g.line_task ≡ most_lines
  pub line_pos : length g.line_pos ≡ most_lines
  pub line_flag : length g.line_flag ≡ most_lines
  pub row : length g.row ≡ most_rows
  pub sixty_four : length cycles ≡ minor_cycles
  pub fifteen : (c : ℕ) → c < minor_cycles → length (get_or cycles c no_cycle).flags ≡ flags_a_cycle

-- ---- a rig that obeys every rule

pub record Right (g : Rig) (cycles : List Cycle) : Type 0 where
  pub task_count : TaskCount g
  pub flag_count : FlagCount g
  pub master_address : MasterAddress g
  pub line_count : LineCount g
  pub row_count : RowCount g
  pub priorities : Priorities g
  pub privileges : Privileges g
  pub conditions : Conditions g
  pub rows : Rows g
  pub line_order : LineOrder g
  pub cycle_order : CycleOrder cycles
  pub activation_numbers : ActivationNumbers g
  pub condition_numbers : ConditionNumbers g
  pub lines : Lines g
  pub cycle_numbers : CycleNumbers g cycles
  pub controllers : Controllers g
  pub activation_serves_one : ActivationServesOne g
  pub activation_not_minor : ActivationNotMinor g cycles
  pub line_has_condition : LineHasCondition g
  pub condition_has_line : ConditionHasLine g
  pub minor_conditions : MinorConditions g cycles
  pub sender_differs : SenderDiffers g
  pub task_zeros : TaskZeros g
  pub line_zeros : LineZeros g
  pub row_zeros : RowZeros g
  pub shaped : Shaped g cycles
