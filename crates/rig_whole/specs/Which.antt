-- THE RULES OF A RIG BY NUMBER, and which is the first that a rig breaks. The numbers are our own: the paper has one refusal, 4, for all of
-- them (docs/DECISIONS.md, Rig files).
use Rattle.std.specs.Prelude.{true, List, [], ◌∷◌, ◌≢◌, ◌≡◌, ℕ, suc, ◌<◌, zero, length, get_or}
use Rattle.laws.specs.All.{all_of}
use Rattle.laws.specs.Sizes.{most_rows, minor_cycles, flags_a_cycle}
use Rattle.rig.specs.declared.Cycle.{Cycle}
use Rattle.rig.specs.declared.Rig.{Rig}
use Rattle.rig.specs.Rules.{Right, no_cycle, Controllers, Conditions, Rows, LineOrder, CycleOrder, ConditionNumbers, Lines, CycleNumbers, ActivationServesOne, ActivationNotMinor, LineHasCondition, ConditionHasLine, MinorConditions, SenderDiffers, TaskZeros, LineZeros, RowZeros, TaskCount, FlagCount, MasterAddress, LineCount, RowCount, Priorities, Privileges, ActivationNumbers}
use Rattle.rig_whole.specs.Tests.{shaped_tests}

-- the rules from number 1 on; 9 and 11 also say how long their tables are, and 26 says it of the tables of numbers
abbrev pub rules : Rig → List Cycle → List (Type 0)
rules g cycles =
    TaskCount g ∷
    FlagCount g ∷
    MasterAddress g ∷
    LineCount g ∷
    RowCount g ∷
    Priorities g ∷
    Privileges g ∷
    Conditions g ∷
    ((length g.row ≡ most_rows) × Rows g) ∷
    LineOrder g ∷
    ((length cycles ≡ minor_cycles) × (((c : ℕ) → c < minor_cycles → length (get_or cycles c no_cycle).flags ≡ flags_a_cycle) × CycleOrder cycles)) ∷
    ActivationNumbers g ∷
    ConditionNumbers g ∷
    Lines g ∷
    CycleNumbers g cycles ∷
    Controllers g ∷
    ActivationServesOne g ∷
    ActivationNotMinor g cycles ∷
    LineHasCondition g ∷
    ConditionHasLine g ∷
    MinorConditions g cycles ∷
    SenderDiffers g ∷
    TaskZeros g ∷
    LineZeros g ∷
    RowZeros g ∷
    (all_of (shaped_tests g) ≡ true) ∷
    []

-- rule number n
abbrev pub Rule : ℕ → Rig → List Cycle → Type 0
Rule zero g cycles = Unit {0}
Rule (suc k) g cycles = get_or (rules g cycles) k (Unit {0})

-- n is the number of the first rule that the rig breaks, 0 where it is right
pub record BrokenFirst (g : Rig) (cycles : List Cycle) (n : ℕ) : Type 0 where
  pub none : n ≡ 0 → Right g cycles
  pub broken : n ≢ 0 → Rule n g cycles → ⊥
  pub before : (k : ℕ) → k < n → Rule k g cycles
