-- THE TABLES OF EACH LEVEL: "Tasks ask about conditions and conditions about tasks, and each link lowers d." The answers of a level are
-- remembered, so that a task is asked once a level however many conditions name its flag.
use Rattle.std.specs.Prelude.{◌≡◌, Bool, List, ℕ, zero, suc, ◌≤◌, ◌<◌}
use Rattle.laws.specs.Owners.{owners}
use Rattle.rig_tables.specs.Places.{at}
use Rattle.rig.specs.declared.Rig.{Rig}
use Rattle.exec_state.specs.declared.State.{State}
use Rattle.start_tests.specs.Tables.{standing_of, brought_in, place_at, link_one, link_task, Kept, opened_in, able_in, lowest_in}

-- the conditions that stand as desired or can be brought there within d links: `base` has those that need none
unfoldable pub conditions_at : List ℕ → List ℕ → ℕ → List ℕ → List ℕ → ℕ → List ℕ
conditions_at task place m state base zero = base
conditions_at task place m state base (suc d) = opened_in m task place (able_in state (conditions_at task place m state base d)) base

-- the tasks that can start within d links
abbrev pub tasks_at : List ℕ → List ℕ → ℕ → List ℕ → List ℕ → ℕ → List ℕ
tasks_at task place m state base d = able_in state (conditions_at task place m state base d)

-- of a record: whose activation flag each flag is, and the conditions that need no link
abbrev pub owners_of : Rig → List ℕ
owners_of g = owners 65 (at g.activation) 129

abbrev pub base_of : Rig → State → List ℕ
base_of g s =
    brought_in g.lines g.line_task g.line_pos g.line_flag g.desired (owners_of g) s.state (standing_of g.present g.desired s.cond)

abbrev pub link_of : Rig → State → ℕ → Bool
link_of g s = link_one g.line_task g.line_pos g.line_flag g.desired (owners_of g) s.state

-- the first m entries of the two lists are the record's links
abbrev pub KeptOf : Rig → State → ℕ → List ℕ → List ℕ → Type 0
KeptOf g s m task place =
    Kept g.lines (link_of g s) (link_task g.line_flag (owners_of g)) (place_at g.line_task g.line_pos) m task place

-- the answer n for task t within d links is read off the tables; the links are kept in some lists
pub record ReadOff (g : Rig) (s : State) (t d n : ℕ) : Type 0 where
  pub many : ℕ
  pub task : List ℕ
  pub place : List ℕ
  pub kept : KeptOf g s many task place
  pub answer : n ≡ lowest_in (conditions_at task place many s.state (base_of g s) d) t

-- what is asked of the rig: its numbers are in their sizes
pub record Sized (g : Rig) : Type 0 where
  pub few : g.lines ≤ 1024
  pub task : (k : ℕ) → k < g.lines → at g.line_task k ≤ 64
  pub pos : (k : ℕ) → k < g.lines → at g.line_pos k ≤ 15
  pub flag : (k : ℕ) → k < g.lines → at g.line_flag k ≤ 128
  pub activation : (t : ℕ) → t < 65 → at g.activation t ≤ 128
