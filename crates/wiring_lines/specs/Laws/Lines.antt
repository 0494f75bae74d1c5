-- Lines of the sheet: how long they can be, and that they are written part after part.
-- Assumes nothing.
use Rattle.std.specs.Prelude.{ℕ, ◌+◌, ◌≤◌, ◌<◌, ◌≡◌, refl, Bool, true, false, cond, ◌≢◌, List, [], ◌∷◌, ◌++◌, eqb, length, set}
use Rattle.std.proofs.Common.{sym, ap, append_assoc, arith, eq-eqb, ne_eqb}
use Rattle.std.proofs.Math.ListN.{length-append}
use Rattle.laws.specs.Cases.{if_yes, if_no}
use Rattle.laws.specs.Sizes.{minor_cycles}
use Rattle.put_text.specs.Wrote.{Wrote}
use Rattle.put_text.specs.Laws.Text.{short}
use Rattle.put_text.specs.Laws.Wrote.{wrote_then, wrote_as, wrote_none, byte_wrote}
use Rattle.bench_script.specs.Output.{fields_text, line_text}
use Rattle.bench_script.specs.Laws.Written.{fields_length, two_fields_wrote}
use Rattle.wiring_lines.specs.Line.{rig_name, column_names, each, cell, cells_text, numbers_text, sheet_line, top_text, refused_text}
use Rattle.wiring_lines.specs.Laws.Each.{each_short, each_same}

-- ---- lengths

pub field_short : (n : ℕ) → length (fields_text (n ∷ [])) ≤ 11
field_short n = omega (arith, fields_length (n ∷ []))

pub cell_short : (n : ℕ) → length (cell n) ≤ 11
unfolding cell
cell_short n = short 11 (eqb n 0) _ _ (omega arith) (field_short n)

pub cells_short : (f : ℕ → ℕ) → length (cells_text f) ≤ 704
unfolding cells_text
cells_short f = omega (arith, each_short (λ c. cell (f c)) 11 (λ c. cell_short (f c)) 64)

pub numbers_short : length numbers_text ≤ 704
unfolding numbers_text
numbers_short = omega (arith, each_short (λ c. fields_text (c ∷ [])) 11 field_short 64)

rest_short : (table : Bool) (f : ℕ → ℕ) (more : List ℕ) → length more ≤ 2 → length (cond table (cells_text f) (fields_text more)) ≤ 704
rest_short table f more h = short 704 table _ _ (cells_short f) (omega (arith, fields_length more))

pub line_short : (table : Bool) (name : List ℕ) (number times : ℕ) (f : ℕ → ℕ) (more : List ℕ) → length name ≤ 8 → length more ≤ 2
    → length (sheet_line table name number times f more) ≤ 736
unfolding sheet_line
line_short table name number times f more h g =
    let two = fields_length (number ∷ times ∷ []) in
    let a = length-append name (fields_text (number ∷ times ∷ [])) in
    let b = length-append (name ++ fields_text (number ∷ times ∷ [])) (cond table (cells_text f) (fields_text more)) in
    let c = length-append ((name ++ fields_text (number ∷ times ∷ [])) ++ cond table (cells_text f) (fields_text more)) (10 ∷ []) in
    omega (arith, two, a, b, c, rest_short table f more g)

pub top_short : (table : Bool) → length (top_text table) ≤ 736
unfolding top_text
top_short table =
    let a = length-append column_names numbers_text in
    let b = length-append (column_names ++ numbers_text) (10 ∷ []) in
    short 736 table _ _ (omega (arith, a, b, numbers_short)) (omega arith)

-- ---- parts of a line

module _ (n : ℕ) (l : List ℕ) (at : ℕ) where
  pub cell_none : n ≡ 0 → at < length l → Wrote l at (cell n) (set l at 9) (at + 1)
  unfolding cell
  cell_none e h = wrote_as l (set l at 9) (9 ∷ []) (cell n) at (at + 1) (sym (if_yes _ (eq-eqb n 0 e) refl)) (byte_wrote l at 9 h)

  pub cell_some : (m : List ℕ) (p : ℕ) → n ≢ 0 → Wrote l at (fields_text (n ∷ [])) m p → Wrote l at (cell n) m p
  unfolding cell
  cell_some m p e w = wrote_as l m (fields_text (n ∷ [])) (cell n) at p (sym (if_no _ (ne_eqb n 0 e) refl)) w

pub top_room : (l m k : List ℕ) (p q : ℕ) → 736 ≤ length l → Wrote l 0 column_names m p → Wrote m p numbers_text k q → q + 1 ≤ length k
top_room l m k p q h u v = omega (arith, u.place, u.size, v.place, v.size, numbers_short)

pub top_wrote : (l m k o : List ℕ) (p q r : ℕ) → 736 ≤ length l → Wrote l 0 column_names m p → Wrote m p numbers_text k q → Wrote k q (10 ∷ []) o r → Wrote l 0 (top_text true) o r
unfolding top_text
top_wrote l m k o p q r h u v w =
    let a = numbers_short in
    let b = length-append column_names numbers_text in
    wrote_then l k o (column_names ++ numbers_text) (10 ∷ []) 0 q r (omega arith) (wrote_then l m k column_names numbers_text 0 p q (omega arith) u v) w

pub top_as : (table : Bool) → table ≡ true → (l m : List ℕ) (p : ℕ) → Wrote l 0 (top_text true) m p → Wrote l 0 (top_text table) m p
top_as table e l m p w = wrote_as l m (top_text true) (top_text table) 0 p (ap top_text (sym e)) w

pub top_none : (table : Bool) → table ≡ false → (l : List ℕ) → Wrote l 0 (top_text table) l 0
unfolding top_text
top_none table e l = wrote_as l l [] (top_text table) 0 0 (ap top_text (sym e)) (wrote_none l 0)

pub head_wrote : (l name m k o : List ℕ) (at number times p q r : ℕ) → length name ≤ 8 → at + 30 ≤ length l
    → Wrote l at name m p → Wrote m p (fields_text (number ∷ [])) k q → Wrote k q (fields_text (times ∷ [])) o r
    → Wrote l at (name ++ fields_text (number ∷ times ∷ [])) o r
head_wrote l name m k o at number times p q r s h u v w =
    wrote_then l m o name (fields_text (number ∷ times ∷ [])) at p r (omega (arith, fields_length (number ∷ times ∷ []))) u
    (two_fields_wrote m k o p number times q r (omega (arith, u.place, u.size)) v w)

module _ (table : Bool) (f : ℕ → ℕ) (more l m : List ℕ) (at p : ℕ) where
  pub rest_cells : table ≡ true → Wrote l at (cells_text f) m p → Wrote l at (cond table (cells_text f) (fields_text more)) m p
  rest_cells e w = wrote_as l m (cells_text f) _ at p (sym (if_yes _ e refl)) w

  pub rest_more : table ≡ false → Wrote l at (fields_text more) m p → Wrote l at (cond table (cells_text f) (fields_text more)) m p
  rest_more e w = wrote_as l m (fields_text more) _ at p (sym (if_no _ e refl)) w

-- ---- lines

module _ (table : Bool) (name : List ℕ) (number times : ℕ) (f : ℕ → ℕ) (more : List ℕ) (s : length name ≤ 8) (g : length more ≤ 2) where
  abbrev head : List ℕ
  head = name ++ fields_text (number ∷ times ∷ [])

  abbrev rest : List ℕ
  rest = cond table (cells_text f) (fields_text more)

  head_short : length head ≤ 30
  head_short = omega (arith, length-append name (fields_text (number ∷ times ∷ [])), fields_length (number ∷ times ∷ []))

  -- the room that is left behind each part
  module _ (l m : List ℕ) (at p : ℕ) (h : at + 736 ≤ length l) (u : Wrote l at head m p) where
    pub rest_room : p + 704 ≤ length m
    rest_room = omega (arith, u.place, u.size, head_short)

    module _ (k : List ℕ) (q : ℕ) (v : Wrote m p rest k q) where
      pub end_room : q + 1 ≤ length k
      end_room = omega (arith, u.place, u.size, head_short, v.place, v.size, rest_short table f more g)

      pub line_wrote : (o : List ℕ) (r : ℕ) → Wrote k q (10 ∷ []) o r → Wrote l at (sheet_line table name number times f more) o r
      unfolding sheet_line
      line_wrote o r w =
          let a = length-append head rest in
          let b = rest_short table f more g in
          let c = head_short in
          wrote_then l k o (head ++ rest) (10 ∷ []) at q r (omega arith) (wrote_then l m k head rest at p q (omega arith) u v) w

pub line_same : (table : Bool) (name : List ℕ) (number s t : ℕ) (f g : ℕ → ℕ) (more : List ℕ) → s ≡ t → ((c : ℕ) → c < minor_cycles → f c ≡ g c)
    → sheet_line table name number s f more ≡ sheet_line table name number t g more
unfolding sheet_line cells_text
line_same table name number s t f g more e h =
    let z : each minor_cycles (λ c. cell (f c)) ≡ each minor_cycles (λ c. cell (g c)) = each_same minor_cycles _ _ (λ c l. ap cell (h c l)) in
    rw (e, z)

pub refused_room : (l m : List ℕ) (number line p : ℕ) → 736 ≤ length l → Wrote l 0 (rig_name ++ fields_text (number ∷ line ∷ [])) m p → p + 1 ≤ length m
refused_room l m number line p h u =
    omega (arith, length-append rig_name (fields_text (number ∷ line ∷ [])), fields_length (number ∷ line ∷ []), u.place, u.size)

pub refused_wrote : (l m o : List ℕ) (number line p q : ℕ) → 736 ≤ length l → Wrote l 0 (rig_name ++ fields_text (number ∷ line ∷ [])) m p → Wrote m p (10 ∷ []) o q
    → Wrote l 0 (refused_text number line) o q
unfolding line_text
refused_wrote l m o number line p q h u w =
    let a = length-append rig_name (fields_text (number ∷ line ∷ [])) in
    let b = fields_length (number ∷ line ∷ []) in
    wrote_as l o ((rig_name ++ fields_text (number ∷ line ∷ [])) ++ (10 ∷ [])) (refused_text number line) 0 q
    (append_assoc rig_name (fields_text (number ∷ line ∷ [])) (10 ∷ []))
    (wrote_then l m o (rig_name ++ fields_text (number ∷ line ∷ [])) (10 ∷ []) 0 p q (omega arith) u w)
