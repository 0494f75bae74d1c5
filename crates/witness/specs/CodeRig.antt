-- THE RIG OF THE CODE for a rig of the rules: its numbers, each function as a table. Where the functions are 0 beyond the sizes
-- of the tables, the rules see in it exactly the rig that it was made of.
use Rattle.std.specs.Prelude.{◌≡◌, ltb}
use Rattle.std.proofs.Math.Path.{sym, ap, fun_ext}
use Rattle.std.proofs.Common.{◌∙◌, ltb-true, ltb-false}
use mathlib.Core.List.{List, []}
use Prim.Native.Nat.{ℕ, ◌≤◌}
use Rattle.laws.specs.Cases.{by}
use Rattle.chains.specs.Held.{at}
use Rattle.compool.specs.View.{row_of, rows_of}
use Rattle.rig.specs.Rules.{no_row}
use Rattle.rig.specs.Forms.{cycles_of}
use Rattle.rig.specs.Laws.Forms.{cycles_flag}
use Rattle.rig.specs.declared.Cycle.{Cycle}
use Rattle.rig.specs.declared.Rig.{Rig}
use Rattle.rig.specs.declared.Row.{Row}
use Rattle.rules.specs.Rig as G
use Rattle.exec_state.specs.View.{rig_of}
use Rattle.exec_queue.specs.View.{minor_of}
use Rattle.witness.specs.Tables.{table, table_at, table_past, table_is}

abbrev pub code_row : G.Row → Row
code_row b =
    record {
      sender = b.sender;
      sender_sub = b.sender_sub;
      receiver = b.receiver;
      receiver_sub = b.receiver_sub;
      words = b.words;
      period = b.period;
      phase = b.phase;
    }

-- 65 places for tasks, 1,040 for conditions, 1,024 for A lines, 64 for rows
unfoldable pub code_rig : G.Rig → Rig
code_rig r =
    record {
      tasks = r.tasks;
      flags = r.flags;
      master = r.master;
      lines = r.lines;
      rows = r.rows;
      controller = table 65 r.controller;
      priority = table 65 r.priority;
      privileged = table 65 r.privileged;
      activation = table 65 r.activation;
      present = table 1040 r.present;
      latched = table 1040 r.latched;
      desired = table 1040 r.desired;
      line_task = table 1024 r.line_task;
      line_pos = table 1024 r.line_pos;
      line_flag = table 1024 r.line_flag;
      row = table 64 (λ (k : ℕ). code_row (r.row k));
    }

-- "sixty-four cycles of up to fifteen flags each"
unfoldable pub code_table : G.Rig → List (List ℕ)
code_table r = table 64 (λ (c : ℕ). table 15 (r.minor c))

abbrev pub code_cycles : G.Rig → List Cycle
code_cycles r = cycles_of (code_table r)

-- the functions are 0 beyond the tables
pub record Ends (r : G.Rig) : Type 0 where
  pub controller : (t : ℕ) → 65 ≤ t → r.controller t ≡ 0
  pub priority : (t : ℕ) → 65 ≤ t → r.priority t ≡ 0
  pub privileged : (t : ℕ) → 65 ≤ t → r.privileged t ≡ 0
  pub activation : (t : ℕ) → 65 ≤ t → r.activation t ≡ 0
  pub present : (p : ℕ) → 1040 ≤ p → r.present p ≡ 0
  pub latched : (p : ℕ) → 1040 ≤ p → r.latched p ≡ 0
  pub desired : (p : ℕ) → 1040 ≤ p → r.desired p ≡ 0
  pub line_task : (k : ℕ) → 1024 ≤ k → r.line_task k ≡ 0
  pub line_pos : (k : ℕ) → 1024 ≤ k → r.line_pos k ≡ 0
  pub line_flag : (k : ℕ) → 1024 ≤ k → r.line_flag k ≡ 0
  pub cycle : (c : ℕ) → 64 ≤ c → (i : ℕ) → r.minor c i ≡ 0
  pub fifteen : (c i : ℕ) → 15 ≤ i → r.minor c i ≡ 0
  pub row : (k : ℕ) → 64 ≤ k → r.row k ≡ row_of no_row

module _ (r : G.Rig) (e : Ends r) where
  minor_is : minor_of (code_cycles r) ≡ r.minor
  unfolding code_table
  minor_is =
      fun_ext λ c. fun_ext λ i.
      cycles_flag (code_table r) c i
      ∙ by (ltb c 64)
      (λ k.
      ap (λ (l : List ℕ). at l i) (table_at 64 (λ (c : ℕ). table 15 (r.minor c)) c [] (ltb-true c 64 k))
      ∙ ap (λ (f : ℕ → ℕ). f i) (table_is 15 (r.minor c) 0 (e.fifteen c)))
      (λ k.
      ap (λ (l : List ℕ). at l i) (table_past 64 (λ (c : ℕ). table 15 (r.minor c)) c [] (ltb-false c 64 k))
      ∙ sym (e.cycle c (ltb-false c 64 k) i))

  row_is : rows_of (code_rig r).row ≡ r.row
  unfolding code_rig
  row_is =
      ap {B = ℕ → G.Row} (λ (f : ℕ → Row) (k : ℕ). row_of (f k))
      (table_is 64 (λ (k : ℕ). code_row (r.row k)) no_row (λ k h. ap code_row (e.row k h)))

  pub code_rig_lem : rig_of (code_rig r) (code_cycles r) ≡ r
  unfolding code_rig
  code_rig_lem =
      λ i. record {
        tasks = r.tasks;
        flags = r.flags;
        master = r.master;
        controller = table_is 65 r.controller 0 e.controller i;
        priority = table_is 65 r.priority 0 e.priority i;
        privileged = table_is 65 r.privileged 0 e.privileged i;
        activation = table_is 65 r.activation 0 e.activation i;
        present = table_is 1040 r.present 0 e.present i;
        latched = table_is 1040 r.latched 0 e.latched i;
        desired = table_is 1040 r.desired 0 e.desired i;
        lines = r.lines;
        line_task = table_is 1024 r.line_task 0 e.line_task i;
        line_pos = table_is 1024 r.line_pos 0 e.line_pos i;
        line_flag = table_is 1024 r.line_flag 0 e.line_flag i;
        minor = minor_is i;
        rows = r.rows;
        row = row_is i;
      }
