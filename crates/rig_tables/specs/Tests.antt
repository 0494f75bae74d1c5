-- THE TESTS OF A RIG'S TABLES of numbers: what the rules ask of them, as Bools that a program can compute. The rules in words are
-- those of crate rig; crate rig_whole says of each test that it is true exactly when its rule holds.
-- Tables are read by number: task t at place t, flag f at place f, the condition of a task at `place task position`.
use Rattle.std.specs.Prelude.{Bool, cond, ◌&&◌, ◌||◌, not, List, ℕ, ◌+◌, ◌-◌, ◌*◌, zero, suc, eqb, leb, ltb, length}
use Rattle.laws.specs.All.{all}
use Rattle.laws.specs.Any.{any}
pub use Rattle.rig_tables.specs.Places.{at, place}

-- from low to high
abbrev pub within : ℕ → ℕ → ℕ → Bool
within low n high = leb low n && leb n high

-- each entry of a table by task is at most `top`
abbrev pub small_one : List ℕ → ℕ → ℕ → Bool
small_one l top t = leb (at l t) top

unfoldable pub small_b : List ℕ → ℕ → Bool
small_b l top = all 65 (small_one l top)

-- present, latched and desired are 0 or 1, and 0 with no C line
abbrev pub condition_test : ℕ → ℕ → ℕ → Bool
condition_test present latched desired = leb present 1 && (leb latched present && leb desired present)

abbrev pub condition_one : List ℕ → List ℕ → List ℕ → ℕ → Bool
condition_one present latched desired p = condition_test (at present p) (at latched p) (at desired p)

unfoldable pub conditions_b : List ℕ → List ℕ → List ℕ → Bool
conditions_b present latched desired = all 1040 (condition_one present latched desired)

-- by task, then position, then flag
abbrev pub rises_test : ℕ → ℕ → ℕ → ℕ → ℕ → ℕ → Bool
rises_test t p f u q h = cond (eqb t u) (cond (eqb p q) (ltb f h) (ltb p q)) (ltb t u)

abbrev pub line_rises : List ℕ → List ℕ → List ℕ → ℕ → Bool
line_rises line_task line_pos line_flag k =
    rises_test (at line_task k) (at line_pos k) (at line_flag k) (at line_task (k + 1)) (at line_pos (k + 1)) (at line_flag (k + 1))

unfoldable pub lines_rise_b : ℕ → List ℕ → List ℕ → List ℕ → Bool
lines_rise_b n line_task line_pos line_flag = all (n - 1) (line_rises line_task line_pos line_flag)

abbrev pub flag_test : ℕ → ℕ → Bool
flag_test f h = eqb h 0 || (not (eqb f 0) && ltb f h)

abbrev pub flag_rises : List ℕ → ℕ → Bool
flag_rises flags i = flag_test (at flags i) (at flags (i + 1))

-- a cycle has fifteen places, and its flags rise
unfoldable pub cycle_rises : List ℕ → Bool
cycle_rises flags = eqb (length flags) 15 && all 14 (flag_rises flags)

-- no number above the RIG line's
abbrev pub condition_task_test : ℕ → ℕ → ℕ → Bool
condition_task_test tasks present p = eqb present 0 || (leb 16 p && ltb p (16 * (tasks + 1)))

abbrev pub condition_task_one : ℕ → List ℕ → ℕ → Bool
condition_task_one tasks present p = condition_task_test tasks (at present p) p

unfoldable pub condition_tasks_b : ℕ → List ℕ → Bool
condition_tasks_b tasks present = all 1040 (condition_task_one tasks present)

abbrev pub line_test : ℕ → ℕ → ℕ → ℕ → ℕ → Bool
line_test tasks flags t p f = within 1 t tasks && (leb p 15 && within 1 f flags)

abbrev pub line_one : ℕ → ℕ → List ℕ → List ℕ → List ℕ → ℕ → Bool
line_one tasks flags line_task line_pos line_flag k = line_test tasks flags (at line_task k) (at line_pos k) (at line_flag k)

unfoldable pub lines_b : ℕ → ℕ → ℕ → List ℕ → List ℕ → List ℕ → Bool
lines_b n tasks flags line_task line_pos line_flag = all n (line_one tasks flags line_task line_pos line_flag)

unfoldable pub cycle_small : ℕ → List ℕ → Bool
cycle_small top flags = all 15 (small_one flags top)

-- Up from task x, controller by controller, while the number is above c. The number k only bounds the steps: 64 are never
-- too few where each controller has a lower number (theorem climb_enough).
unfoldable pub climb : (ℕ → ℕ) → ℕ → ℕ → ℕ → ℕ
climb controller c zero x = x
climb controller c (suc k) x = cond (ltb c x) (climb controller c k (controller x)) x

-- the controller of task t is the previous task, or an ancestor of it
abbrev pub controller_one : List ℕ → ℕ → Bool
controller_one controller t =
    leb t 1 || (not (eqb (at controller t) 0) && eqb (climb (at controller) (at controller t) 64 (t - 1)) (at controller t))

unfoldable pub controllers_b : ℕ → List ℕ → Bool
controllers_b tasks controller = eqb (at controller 1) 0 && all (tasks + 1) (controller_one controller)

-- an activation flag serves one task
abbrev pub alone_one : List ℕ → ℕ → ℕ → Bool
alone_one activation t u = eqb u t || not (eqb (at activation u) (at activation t))

abbrev pub serves_one : List ℕ → ℕ → Bool
serves_one activation t = eqb (at activation t) 0 || all 65 (alone_one activation t)

unfoldable pub serves_one_b : List ℕ → Bool
serves_one_b activation = all 65 (serves_one activation)

-- a minor-cycle flag
abbrev pub is_flag : List ℕ → ℕ → ℕ → Bool
is_flag flags f i = eqb (at flags i) f

unfoldable pub in_cycle : List ℕ → ℕ → Bool
in_cycle flags f = any 15 (is_flag flags f)

-- an activation flag is no minor-cycle flag
abbrev pub not_minor_one : List ℕ → (ℕ → Bool) → ℕ → Bool
not_minor_one activation minor t = not (minor (at activation t))

unfoldable pub not_minor_b : List ℕ → (ℕ → Bool) → Bool
not_minor_b activation minor = all 65 (not_minor_one activation minor)

-- each A line names a condition, each condition has an A line
abbrev pub place_of : List ℕ → List ℕ → ℕ → ℕ
place_of line_task line_pos k = place (at line_task k) (at line_pos k)

abbrev pub named_one : List ℕ → List ℕ → List ℕ → ℕ → Bool
named_one present line_task line_pos k = eqb (at present (place_of line_task line_pos k)) 1

unfoldable pub named_b : ℕ → List ℕ → List ℕ → List ℕ → Bool
named_b n present line_task line_pos = all n (named_one present line_task line_pos)

abbrev pub is_place : List ℕ → List ℕ → ℕ → ℕ → Bool
is_place line_task line_pos p k = eqb (place_of line_task line_pos k) p

abbrev pub used_one : ℕ → List ℕ → List ℕ → List ℕ → ℕ → Bool
used_one n present line_task line_pos p = eqb (at present p) 0 || any n (is_place line_task line_pos p)

unfoldable pub used_b : ℕ → List ℕ → List ℕ → List ℕ → Bool
used_b n present line_task line_pos = all 1040 (used_one n present line_task line_pos)

-- a condition with a minor-cycle flag has no other flag, is unlatched and desires on
abbrev pub is_only_one : List ℕ → List ℕ → ℕ → ℕ → Bool
is_only_one line_task line_pos k j = not (eqb (place_of line_task line_pos j) (place_of line_task line_pos k)) || eqb j k

abbrev pub minor_condition_test : Bool → Bool → ℕ → ℕ → Bool
minor_condition_test minor alone latched desired = not minor || (alone && (eqb latched 0 && eqb desired 1))

abbrev pub minor_condition_one : ℕ → List ℕ → List ℕ → List ℕ → List ℕ → List ℕ → (ℕ → Bool) → ℕ → Bool
minor_condition_one n latched desired line_task line_pos line_flag minor k =
    minor_condition_test (minor (at line_flag k))
    (all n (is_only_one line_task line_pos k))
    (at latched (place_of line_task line_pos k))
    (at desired (place_of line_task line_pos k))

unfoldable pub minor_conditions_b : ℕ → List ℕ → List ℕ → List ℕ → List ℕ → List ℕ → (ℕ → Bool) → Bool
minor_conditions_b n latched desired line_task line_pos line_flag minor =
    all n (minor_condition_one n latched desired line_task line_pos line_flag minor)

-- entries beyond the counts are 0
abbrev pub task_zero_test : ℕ → ℕ → ℕ → ℕ → ℕ → ℕ → Bool
task_zero_test tasks t a b c d = within 1 t tasks || (eqb a 0 && (eqb b 0 && (eqb c 0 && eqb d 0)))

abbrev pub task_zero_one : ℕ → List ℕ → List ℕ → List ℕ → List ℕ → ℕ → Bool
task_zero_one tasks controller priority privileged activation t =
    task_zero_test tasks t (at controller t) (at priority t) (at privileged t) (at activation t)

unfoldable pub task_zeros_b : ℕ → List ℕ → List ℕ → List ℕ → List ℕ → Bool
task_zeros_b tasks controller priority privileged activation =
    all 65 (task_zero_one tasks controller priority privileged activation)

abbrev pub line_zero_one : ℕ → List ℕ → List ℕ → List ℕ → ℕ → Bool
line_zero_one n line_task line_pos line_flag k = ltb k n || (eqb (at line_task k) 0 && (eqb (at line_pos k) 0 && eqb (at line_flag k) 0))

unfoldable pub line_zeros_b : ℕ → List ℕ → List ℕ → List ℕ → Bool
line_zeros_b n line_task line_pos line_flag = all 1024 (line_zero_one n line_task line_pos line_flag)

-- a flag that is marked
abbrev pub marked : List ℕ → ℕ → Bool
marked table f = not (eqb (at table f) 0)
