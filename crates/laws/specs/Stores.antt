-- A loop of stores, each made if its test says so: what it leaves in each place.
use Rattle.std.specs.Prelude.{Bool, cond, List, ℕ, set}

-- at turn k, the value is stored at the place, if the test says so
abbrev pub store_one : (ℕ → Bool) → (ℕ → ℕ) → (ℕ → ℕ) → ℕ → List ℕ → List ℕ
store_one test at value k l = cond (test k) (set l (at k) (value k)) l
