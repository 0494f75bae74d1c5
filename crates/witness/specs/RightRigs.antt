-- RIGHT RIGS, computed: the bench morning's, the one of full size that serves exactly 79 flags in one call (`reached`, Full), and
-- one with every size at its least.
use Rattle.std.specs.Prelude.{◌≡◌, refl, [], ◌∷◌}
use Rattle.laws.specs.Iter.{iter}
use Rattle.laws.specs.All.{all, all_of}
use Rattle.laws.specs.Any.{any}
use Rattle.laws.specs.First.{first_false}
use Rattle.laws.specs.Owners.{marks}
use Rattle.rig_tables.specs.Tests.{small_b, lines_rise_b, cycle_rises, lines_b, cycle_small, climb, controllers_b, serves_one_b, in_cycle, not_minor_b, named_b, minor_conditions_b, task_zeros_b}
use Rattle.rig_rows.specs.Tests.{listed_b, row_tests, rows_b, differ_b, row_zero_tests, row_zero, row_zeros_b}
use Rattle.rig_cycles.specs.Tests.{cycles_rise_b, cycles_small_b, minor_marks}
use Rattle.rig_whole.specs.Tests.{shaped_tests}
use Rattle.rig.specs.Rules.{Right}
use Rattle.rig.specs.Forms.{cycles_of}
use Rattle.rig.specs.declared.Rig.{Rig}
use Rattle.rules.specs.Rig as G
use Rattle.rules.specs.Scripts.{T, B, bench, rig, of_task, of_condition, numbers, of_line, of_cycle}
use Rattle.rules_full.specs.Full.{full}
use Rattle.witness.specs.Tables.{table_from}
use Rattle.witness.specs.CodeRig.{code_rig, code_table, code_cycles}
use Rattle.witness.specs.Tested.{scan, cheap_tests, cheap_broken, unbroken_right}

-- one task, one flag, one row of one word
unfoldable pub least : G.Rig
least = rig 1 1 0 (T 1 0 0 0 0 ∷ []) [] [] [] (B 0 1 1 1 1 1 0 ∷ [])

-- each as the code has it
abbrev pub morning_rig : Rig
morning_rig = code_rig bench

abbrev pub full_rig : Rig
full_rig = code_rig full

abbrev pub least_rig : Rig
least_rig = code_rig least

no_broken : (cheap_broken morning_rig (code_cycles bench) ≡ 0) × (cheap_broken full_rig (code_cycles full) ≡ 0) × (cheap_broken least_rig (code_cycles least) ≡ 0)
unfolding full least bench rig of_task of_condition numbers of_line of_cycle code_rig code_table table_from cycles_of cheap_broken cheap_tests first_false scan iter all any all_of marks small_b lines_rise_b cycle_rises lines_b cycle_small climb controllers_b serves_one_b in_cycle not_minor_b named_b minor_conditions_b task_zeros_b listed_b row_tests rows_b cycles_rise_b cycles_small_b minor_marks differ_b row_zero_tests row_zero row_zeros_b shaped_tests
no_broken = (refl, refl, refl)

pub morning_right : Right morning_rig (code_cycles bench)
morning_right = unbroken_right morning_rig (code_cycles bench) no_broken.0

pub full_right : Right full_rig (code_cycles full)
full_right = unbroken_right full_rig (code_cycles full) no_broken.1

pub least_right : Right least_rig (code_cycles least)
least_right = unbroken_right least_rig (code_cycles least) no_broken.2
