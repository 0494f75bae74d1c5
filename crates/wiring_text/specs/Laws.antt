-- The sheet's lines: how long they can be, and that they are the rows' and the terminals' where the tables of the cycles are.
-- Assumes nothing.
use Rattle.std.specs.Prelude.{ℕ, ◌+◌, ◌*◌, ◌≤◌, ◌≡◌, refl, Bool, ◌≢◌, eqb, length}
use Rattle.std.proofs.Math.Path.{sym, ap}
use Rattle.std.proofs.Common.{◌∙◌, arith, length-append, eq-eqb, ne_eqb}
use Rattle.std.proofs.Math.Bool.{cond}
use mathlib.Core.List.{List, [], ◌∷◌, ◌++◌}
use Rattle.laws.specs.Cases.{if_yes, if_no}
use Rattle.laws.specs.Tables as tables
use Rattle.put_text.specs.Wrote.{Wrote}
use Rattle.put_text.specs.Laws.Text.{short}
use Rattle.put_text.specs.Laws.Wrote.{wrote_then, wrote_as, wrote_none}
use Rattle.rules.specs.Sizes.{minor_cycles}
use Rattle.rules.specs.Rig.{Row}
use Rattle.rules.specs.Frame.{a_frame, due_in, commands_in, times_a_frame, commands_a_frame}
use Rattle.wiring_counts.specs.Cycles.{InCycles}
use Rattle.wiring_counts.specs.Laws.{frame_is}
use Rattle.wiring_lines.specs.Line.{sheet_line, top_text}
use Rattle.wiring_lines.specs.Laws.Each.{each_short}
use Rattle.wiring_lines.specs.Laws.Lines.{line_short, top_short, line_same}
use Rattle.wiring_text.specs.Sheet.{row_name, terminal_name, row_text, spoken_text, terminal_text, rows_text, terminals_text, sheet_text}

-- ---- lengths

pub row_short : (table : Bool) (number : ℕ) (b : Row) → length (row_text table number b) ≤ 736
unfolding row_text
row_short table number b = line_short table row_name number (times_a_frame b) (due_in b) (b.phase ∷ b.period ∷ []) (omega arith) (omega arith)

spoken_short : (table : Bool) (address commands : ℕ) (f : ℕ → ℕ) → length (spoken_text table address commands f) ≤ 736
unfolding spoken_text
spoken_short table address commands f = short 736 (eqb commands 0) _ _ (omega arith) (line_short table terminal_name address commands f [] (omega arith) (omega arith))

pub terminal_short : (table : Bool) (rows master : ℕ) (row : ℕ → Row) (address : ℕ) → length (terminal_text table rows master row address) ≤ 736
unfolding terminal_text
terminal_short table rows master row address = spoken_short table address (commands_a_frame rows master row address) (commands_in rows master row address)

-- ---- lines

-- the line is the row's if the table of its cycles is
pub row_wrote : (table : Bool) (number : ℕ) (b : Row) (cycles : List ℕ) (times : ℕ) (l m : List ℕ) (at p : ℕ) → InCycles (due_in b) minor_cycles cycles
    → times ≡ a_frame (tables.at cycles) → Wrote l at (sheet_line table row_name number times (tables.at cycles) (b.phase ∷ b.period ∷ [])) m p
    → Wrote l at (row_text table number b) m p
unfolding row_text times_a_frame
row_wrote table number b cycles times l m at p c e w =
    wrote_as l m (sheet_line table row_name number times (tables.at cycles) (b.phase ∷ b.period ∷ [])) (row_text table number b) at p
    (line_same table row_name number times (times_a_frame b) (tables.at cycles) (due_in b) (b.phase ∷ b.period ∷ []) (e ∙ frame_is (due_in b) cycles c) c.each) w

module _ (table : Bool) (address : ℕ) (f : ℕ → ℕ) (times : ℕ) (e : times ≡ a_frame f) (l : List ℕ) (at : ℕ) where
  pub spoken_none : times ≡ 0 → Wrote l at (spoken_text table address (a_frame f) f) l at
  unfolding spoken_text
  spoken_none z = wrote_as l l [] (spoken_text table address (a_frame f) f) at at (sym (if_yes _ (eq-eqb (a_frame f) 0 (sym e ∙ z)) refl)) (wrote_none l at)

  pub spoken_some : times ≢ 0 → (m : List ℕ) (p : ℕ) → Wrote l at (sheet_line table terminal_name address times f []) m p → Wrote l at (spoken_text table address (a_frame f) f) m p
  unfolding spoken_text
  spoken_some n m p w =
      wrote_as l m (sheet_line table terminal_name address times f []) (spoken_text table address (a_frame f) f) at p
      (ap (λ t. sheet_line table terminal_name address t f []) e ∙ sym (if_no _ (ne_eqb (a_frame f) 0 (λ z. n (e ∙ z))) refl)) w

-- and the terminal's if the table of its cycles is
module _ (table : Bool) (rows master : ℕ) (row : ℕ → Row) (address : ℕ) (cycles l m : List ℕ) (at p : ℕ) where
  abbrev f : ℕ → ℕ
  f = commands_in rows master row address

  pub terminal_wrote : InCycles (commands_in rows master row address) minor_cycles cycles
      → Wrote l at (spoken_text table address (a_frame (tables.at cycles)) (tables.at cycles)) m p → Wrote l at (terminal_text table rows master row address) m p
  unfolding terminal_text spoken_text commands_a_frame
  terminal_wrote c w =
      let e = frame_is f cycles c in
      let z = line_same table terminal_name address (a_frame (tables.at cycles)) (a_frame f) (tables.at cycles) f [] e c.each in
      wrote_as l m (spoken_text table address (a_frame (tables.at cycles)) (tables.at cycles)) (terminal_text table rows master row address) at p
      (ap (λ t. cond (eqb t 0) [] (sheet_line table terminal_name address (a_frame (tables.at cycles)) (tables.at cycles) [])) e
      ∙ ap (λ t. cond (eqb (a_frame f) 0) [] t) z) w

-- ---- the whole

pub rows_short : (table : Bool) (rows : ℕ) (row : ℕ → Row) → rows ≤ 64 → length (rows_text table rows row) ≤ 47104
unfolding rows_text
rows_short table rows row h = omega (arith, each_short (λ k. row_text table (k + 1) (row k)) 736 (λ k. row_short table (k + 1) (row k)) rows)

terminals_short : (table : Bool) (rows master : ℕ) (row : ℕ → Row) → length (terminals_text table rows master row) ≤ 23552
unfolding terminals_text
terminals_short table rows master row = omega (arith, each_short (terminal_text table rows master row) 736 (terminal_short table rows master row) 32)

pub sheet_wrote : (table : Bool) (rows master : ℕ) (row : ℕ → Row) → rows ≤ 64 → (l m k o : List ℕ) (p q r : ℕ) → 71392 ≤ length l
    → Wrote l 0 (top_text table) m p → Wrote m p (rows_text table rows row) k q → Wrote k q (terminals_text table rows master row) o r
    → Wrote l 0 (sheet_text table rows master row) o r
unfolding sheet_text
sheet_wrote table rows master row few l m k o p q r h u v w =
    let a = length-append (top_text table) (rows_text table rows row) in
    let b = top_short table in
    let c = rows_short table rows row few in
    let d = terminals_short table rows master row in
    wrote_then l k o (top_text table ++ rows_text table rows row) (terminals_text table rows master row) 0 q r (omega arith)
    (wrote_then l m k (top_text table) (rows_text table rows row) 0 p q (omega arith) u v) w

-- the room that is left behind the first line, and behind the rows
module _ (table : Bool) (rows : ℕ) (row : ℕ → Row) (few : rows ≤ 64) (l m : List ℕ) (p : ℕ) (h : 71392 ≤ length l) (u : Wrote l 0 (top_text table) m p) where
  pub rows_room : p + 736 * rows ≤ length m
  rows_room = omega (arith, top_short table, u.place, u.size)

  pub terminals_room : (k : List ℕ) (q : ℕ) → Wrote m p (rows_text table rows row) k q → q + 736 * 32 ≤ length k
  terminals_room k q v = omega (arith, top_short table, rows_short table rows row few, u.place, u.size, v.place, v.size)
