-- What the loops over A lines ask of them, and what they mark.
use Rattle.std.specs.Prelude.{◌+◌, ◌<◌, ◌≤◌, ℕ, List, eqb, get_or}
use Rattle.rig_tables.specs.Tests.{at}
use Rattle.laws.specs.Iter.{iter}
use Rattle.laws.specs.Stores.{store_one}

-- the first n A lines name places that are there
pub record Lines (n : ℕ) (line_task line_pos : List ℕ) : Type 0 where
  pub few : n ≤ 1024
  pub task : (k : ℕ) → k < n → get_or line_task k 0 ≤ 64
  pub pos : (k : ℕ) → k < n → get_or line_pos k 0 ≤ 15

-- a table from place k on
abbrev pub past : ℕ → List ℕ → ℕ → ℕ
past k l i = at l (k + i)

-- a table of tasks in which each that has the flag f in a condition is marked, by the first n A lines
unfoldable pub marked : ℕ → (ℕ → ℕ) → (ℕ → ℕ) → ℕ → List ℕ → List ℕ
marked n line_task line_flag f l = iter n (store_one (λ k. eqb (line_flag k) f) line_task (λ k. 1)) l
