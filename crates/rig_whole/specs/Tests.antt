-- THE RULES AS TESTS, in the order in which they are numbered. The tests of single tables of numbers are those of crate rig_tables,
-- those of rows and cycles of rig_rows and rig_cycles. Exact.antt proves of each test that it is true exactly when its rule holds.
use Rattle.std.specs.Prelude.{Bool, List, [], ◌∷◌, ◌++◌, ℕ, eqb, leb, length}
use Rattle.laws.specs.All.{all_of}
use Rattle.laws.specs.Sizes.{task_places, condition_places, most_lines}
use Rattle.laws.specs.First.{first_false}
use Rattle.rig_tables.specs.Tests.{within, small_b, conditions_b, lines_rise_b, condition_tasks_b, lines_b, controllers_b, serves_one_b, not_minor_b, named_b, used_b, minor_conditions_b, task_zeros_b, line_zeros_b}
use Rattle.rig.specs.declared.Row.{Row}
use Rattle.rig.specs.declared.Cycle.{Cycle}
use Rattle.rig.specs.declared.Rig.{Rig}
use Rattle.rig_rows.specs.Tests.{rows_b, differ_b, row_zeros_b}
use Rattle.rig_cycles.specs.Tests.{cycles_rise_b, cycles_small_b, minor_b}

-- the tables of numbers have their lengths
unfoldable pub shaped_tests : Rig → List Bool
shaped_tests g =
    eqb (length g.controller) task_places ∷
    eqb (length g.priority) task_places ∷
    eqb (length g.privileged) task_places ∷
    eqb (length g.activation) task_places ∷
    eqb (length g.present) condition_places ∷
    eqb (length g.latched) condition_places ∷
    eqb (length g.desired) condition_places ∷
    eqb (length g.line_task) most_lines ∷
    eqb (length g.line_pos) most_lines ∷
    eqb (length g.line_flag) most_lines ∷
    []

-- ---- the rules by number, in groups: 1 to 9 sizes, 10 and 11 orders, 12 to 22 rules over the whole file, 23 to 25 zeros
-- beyond the counts; 26 is broken by no rig that a program holds

abbrev pub count_tests : ℕ → ℕ → ℕ → ℕ → ℕ → List Bool
count_tests tasks flags master lines rows =
    within 1 tasks 64 ∷ within 1 flags 128 ∷ leb master 31 ∷ leb lines 1024 ∷ leb rows 64 ∷ []

abbrev pub size_tests : List ℕ → List ℕ → List ℕ → List ℕ → List ℕ → ℕ → List Row → List Bool
size_tests priority privileged present latched desired rows row =
    small_b priority 255 ∷ small_b privileged 1 ∷ conditions_b present latched desired ∷ rows_b rows row ∷ []

abbrev pub order_tests : ℕ → List ℕ → List ℕ → List ℕ → List Cycle → List Bool
order_tests lines line_task line_pos line_flag cycles = lines_rise_b lines line_task line_pos line_flag ∷ cycles_rise_b cycles ∷ []

abbrev pub number_tests : ℕ → ℕ → ℕ → List ℕ → List ℕ → List ℕ → List ℕ → List ℕ → List Cycle → List Bool
number_tests tasks flags lines activation present line_task line_pos line_flag cycles =
    small_b activation flags ∷
    condition_tasks_b tasks present ∷
    lines_b lines tasks flags line_task line_pos line_flag ∷
    cycles_small_b flags cycles ∷
    []

abbrev pub task_tests : ℕ → List ℕ → List ℕ → (ℕ → Bool) → List Bool
task_tests tasks controller activation minor =
    controllers_b tasks controller ∷ serves_one_b activation ∷ not_minor_b activation minor ∷ []

abbrev pub line_tests : ℕ → List ℕ → List ℕ → List ℕ → List ℕ → List ℕ → List ℕ → (ℕ → Bool) → List Bool
line_tests lines present latched desired line_task line_pos line_flag minor =
    named_b lines present line_task line_pos ∷
    used_b lines present line_task line_pos ∷
    minor_conditions_b lines latched desired line_task line_pos line_flag minor ∷
    []

abbrev pub rest_tests : ℕ → ℕ → ℕ → List ℕ → List ℕ → List ℕ → List ℕ → List ℕ → List ℕ → List ℕ → List Row → List Bool
rest_tests tasks lines rows controller priority privileged activation line_task line_pos line_flag row =
    differ_b rows row ∷
    task_zeros_b tasks controller priority privileged activation ∷
    line_zeros_b lines line_task line_pos line_flag ∷
    row_zeros_b rows row ∷
    []

abbrev pub count_group : Rig → List Bool
count_group g = count_tests g.tasks g.flags g.master g.lines g.rows

abbrev pub size_group : Rig → List Bool
size_group g = size_tests g.priority g.privileged g.present g.latched g.desired g.rows g.row

abbrev pub order_group : Rig → List Cycle → List Bool
order_group g cycles = order_tests g.lines g.line_task g.line_pos g.line_flag cycles

abbrev pub number_group : Rig → List Cycle → List Bool
number_group g cycles =
    number_tests g.tasks g.flags g.lines g.activation g.present g.line_task g.line_pos g.line_flag cycles

abbrev pub task_group : Rig → List Cycle → List Bool
task_group g cycles = task_tests g.tasks g.controller g.activation (minor_b cycles)

abbrev pub line_group : Rig → List Cycle → List Bool
line_group g cycles =
    line_tests g.lines g.present g.latched g.desired g.line_task g.line_pos g.line_flag (minor_b cycles)

abbrev pub rest_group : Rig → List Bool
rest_group g =
    rest_tests g.tasks g.lines g.rows g.controller g.priority g.privileged g.activation g.line_task g.line_pos g.line_flag g.row

abbrev pub from_rest : Rig → List Bool
from_rest g = rest_group g ++ (all_of (shaped_tests g) ∷ [])

abbrev pub from_lines : Rig → List Cycle → List Bool
from_lines g cycles = line_group g cycles ++ from_rest g

abbrev pub from_tasks : Rig → List Cycle → List Bool
from_tasks g cycles = task_group g cycles ++ from_lines g cycles

abbrev pub from_numbers : Rig → List Cycle → List Bool
from_numbers g cycles = number_group g cycles ++ from_tasks g cycles

abbrev pub from_orders : Rig → List Cycle → List Bool
from_orders g cycles = order_group g cycles ++ from_numbers g cycles

abbrev pub from_sizes : Rig → List Cycle → List Bool
from_sizes g cycles = size_group g ++ from_orders g cycles

unfoldable pub tests : Rig → List Cycle → List Bool
tests g cycles = count_group g ++ from_sizes g cycles

-- the number of the first rule that is broken, 0 for none
unfoldable pub first_broken : Rig → List Cycle → ℕ
first_broken g cycles = first_false 1 (tests g cycles)

-- whether the rig obeys every rule
unfoldable pub right_b : Rig → List Cycle → Bool
right_b g cycles = eqb (first_broken g cycles) 0
