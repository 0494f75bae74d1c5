-- TABLES OF WHO CAN START: the conditions of all tasks, by their places, each 1 where it stands as desired or can be brought there, and
-- the tasks, each 1 where it can start. Each loop of the code has one of these as its contract; that they are the rules' answers is
-- said in crate start_levels (`meaning`).
use Rattle.std.specs.Prelude.{◌≡◌, Bool, true, not, ◌&&◌, ◌||◌, List, ℕ, ◌-◌, ◌≤◌, ◌<◌, eqb, ltb, replicate}
use Rattle.laws.specs.All.{all}
use Rattle.laws.specs.Any.{any}
use Rattle.laws.specs.Bits.{bit}
use Rattle.laws.specs.Iter.{iter}
use Rattle.laws.specs.Lowest.{lowest}
use Rattle.laws.specs.Stores.{store_one}
use Rattle.rig_tables.specs.Places.{at, place}

-- what the loops ask of the A lines and of the table of owners: numbers that are there
pub record Fits (n : ℕ) (line_task line_pos line_flag owner : List ℕ) : Type 0 where
  pub few : n ≤ 1024
  pub task : (k : ℕ) → k < n → at line_task k ≤ 64
  pub pos : (k : ℕ) → k < n → at line_pos k ≤ 15
  pub flag : (k : ℕ) → k < n → at line_flag k ≤ 128
  pub owned : (f : ℕ) → at owner f ≤ 65

-- the condition at place i stands as desired, or there is none
abbrev pub stands_at : List ℕ → List ℕ → List ℕ → ℕ → Bool
stands_at present desired cond i = not (eqb (at present i) 1) || eqb (at cond i) (at desired i)

unfoldable pub standing_of : List ℕ → List ℕ → List ℕ → List ℕ
standing_of present desired cond = iter 1040 (store_one (λ i. true) (λ i. i) (λ i. bit (stands_at present desired cond i))) (replicate 1040 0)

-- A flag by its owner, the task's number and 1 more, or 0 for a flag that is no task's activation flag: such a one brings a condition
-- there, whatever it desires; else an active task's brings it off
abbrev pub helps : List ℕ → ℕ → ℕ → Bool
helps state desired owner = eqb owner 0 || (not (eqb desired 1) && ltb 1 (at state (owner - 1)))

-- the place of the condition of A line k, and the owner of its flag
abbrev pub place_at : List ℕ → List ℕ → ℕ → ℕ
place_at line_task line_pos k = place (at line_task k) (at line_pos k)

abbrev pub owner_at : List ℕ → List ℕ → ℕ → ℕ
owner_at line_flag owner k = at owner (at line_flag k)

abbrev pub helps_one : List ℕ → List ℕ → List ℕ → List ℕ → List ℕ → List ℕ → ℕ → Bool
helps_one line_task line_pos line_flag desired owner state k = helps state (at desired (place_at line_task line_pos k)) (owner_at line_flag owner k)

unfoldable pub brought_in : ℕ → List ℕ → List ℕ → List ℕ → List ℕ → List ℕ → List ℕ → List ℕ → List ℕ
brought_in n line_task line_pos line_flag desired owner state table =
    iter n (store_one (helps_one line_task line_pos line_flag desired owner state) (place_at line_task line_pos) (λ k. 1)) table

-- a link: the condition desires on, and the flag is the activation flag of an inactive task
abbrev pub is_link : List ℕ → ℕ → ℕ → Bool
is_link state desired owner = not (eqb owner 0) && (eqb desired 1 && eqb (at state (owner - 1)) 1)

abbrev pub link_one : List ℕ → List ℕ → List ℕ → List ℕ → List ℕ → List ℕ → ℕ → Bool
link_one line_task line_pos line_flag desired owner state k = is_link state (at desired (place_at line_task line_pos k)) (owner_at line_flag owner k)

-- the task whose activation flag A line k's flag is
abbrev pub link_task : List ℕ → List ℕ → ℕ → ℕ
link_task line_flag owner k = owner_at line_flag owner k - 1

-- what the loop over kept links asks of them: tasks and places that are there
pub record Linked (m : ℕ) (task place : List ℕ) : Type 0 where
  pub few : m ≤ 1024
  pub tasks : (j : ℕ) → j < m → at task j ≤ 64
  pub places : (j : ℕ) → j < m → at place j < 1040

-- the first m entries of `task` and `place` are the tasks and the places of the lines below n that pass the test: a test of a task and a
-- place passes at one of these lines exactly when it passes at an entry
pub record Kept (n : ℕ) (test : ℕ → Bool) (task_of place_of : ℕ → ℕ) (m : ℕ) (task place : List ℕ) : Type 0 where
  pub few : m ≤ n
  pub tasks : (j : ℕ) → j < m → at task j ≤ 64
  pub places : (j : ℕ) → j < m → at place j < 1040
  pub same : (q : ℕ → ℕ → Bool) → any n (λ k. test k && q (task_of k) (place_of k)) ≡ any m (λ j. q (at task j) (at place j))

-- nobody can start
unfoldable pub nobody : List ℕ → Bool
nobody can = all 65 (λ t. eqb (at can t) 0)

-- the links of tasks that can start are open
abbrev pub open_one : List ℕ → List ℕ → ℕ → Bool
open_one task can j = eqb (at can (at task j)) 1

unfoldable pub opened_in : ℕ → List ℕ → List ℕ → List ℕ → List ℕ → List ℕ
opened_in m task place can table = iter m (store_one (open_one task can) (at place) (λ j. 1)) table

-- task t's conditions are all 1
abbrev pub clear_at : List ℕ → ℕ → ℕ → Bool
clear_at table t p = eqb (at table (place t p)) 1

unfoldable pub clear : List ℕ → ℕ → Bool
clear table t = all 16 (clear_at table t)

-- the tasks that are inactive and all of whose conditions are 1
unfoldable pub able_in : List ℕ → List ℕ → List ℕ
able_in state table = iter 65 (store_one (λ t. eqb (at state t) 1 && clear table t) (λ t. t) (λ t. 1)) (replicate 65 0)

-- the lowest position of task t whose condition is not 1; 16 for none
unfoldable pub lowest_in : List ℕ → ℕ → ℕ
lowest_in table t = lowest 16 (λ p. not (clear_at table t p))
