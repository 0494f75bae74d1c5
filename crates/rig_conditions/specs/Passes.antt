-- The values of conditions table by table, as the loops that do not leave early compute them.
use Rattle.std.specs.Prelude.{◌≡◌, Bool, ◌&&◌, List, ℕ, leb}
use Rattle.laws.specs.All.{all}
use Rattle.laws.specs.Laws.All.{all_three}
use Rattle.rig_tables.specs.Tests.{at, small_one, conditions_b}

-- at most the other table's entry at its place
abbrev pub under_one : List ℕ → List ℕ → ℕ → Bool
under_one a b i = leb (at a i) (at b i)

pub conditions_each : (present latched desired : List ℕ)
    → conditions_b present latched desired ≡ (all 1040 (small_one present 1) && (all 1040 (under_one latched present) && all 1040 (under_one desired present)))
unfolding conditions_b
conditions_each present latched desired = all_three 1040 (small_one present 1) (under_one latched present) (under_one desired present)
