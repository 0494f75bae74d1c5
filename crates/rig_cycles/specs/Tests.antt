-- THE RULES OF MINOR CYCLES AS TESTS: each a Bool that a program can compute. Crate rig_whole proves of each test that it is true
-- exactly when its rule holds.
use Rattle.std.specs.Prelude.{Bool, not, ◌&&◌, List, ℕ, eqb, length, get_or, set, replicate}
use Rattle.laws.specs.Iter.{iter}
use Rattle.laws.specs.All.{all}
use Rattle.laws.specs.Any.{any}
use Rattle.laws.specs.Owners.{marks}
use Rattle.rig_tables.specs.Tests.{at, cycle_rises, cycle_small, in_cycle}
use Rattle.rig.specs.declared.Cycle.{Cycle}
use Rattle.rig.specs.Rules.{no_cycle, at}

abbrev pub cycle_rises_one : List Cycle → ℕ → Bool
cycle_rises_one cycles c = cycle_rises (get_or cycles c no_cycle).flags

unfoldable pub cycles_rise_b : List Cycle → Bool
cycles_rise_b cycles = eqb (length cycles) 64 && all 64 (cycle_rises_one cycles)

abbrev pub cycle_small_one : ℕ → List Cycle → ℕ → Bool
cycle_small_one top cycles c = cycle_small top (get_or cycles c no_cycle).flags

unfoldable pub cycles_small_b : ℕ → List Cycle → Bool
cycles_small_b top cycles = all 64 (cycle_small_one top cycles)

abbrev pub in_cycle_one : List Cycle → ℕ → ℕ → Bool
in_cycle_one cycles f c = in_cycle (get_or cycles c no_cycle).flags f

unfoldable pub minor_b : List Cycle → ℕ → Bool
minor_b cycles f = not (eqb f 0) && any 64 (in_cycle_one cycles f)

-- the minor-cycle flags, marked by 1 in a table: marks_law (Marks.antt) says that they are those that minor_b finds
abbrev pub mark_cycle : List Cycle → ℕ → List ℕ → List ℕ
mark_cycle cycles c table = marks 15 (at (get_or cycles c no_cycle).flags) table

unfoldable pub minor_marks : List Cycle → List ℕ
minor_marks cycles = set (iter 64 (mark_cycle cycles) (replicate 129 0)) 0 0
