-- The tables of lines that are held, line after line, as the code fills them.
-- Assumes nothing.
use Rattle.std.specs.Prelude.{ℕ, ◌+◌, ◌*◌, ◌≤◌, ◌<◌, ◌≡◌, refl, Bool, true, false, cond, take}
use Rattle.std.proofs.Math.Path.{sym, ap}
use Rattle.std.proofs.Common.{◌∙◌, arith, length-set, ext_get_or}
use mathlib.Core.List.{List, []}
use Rattle.std.proofs.Math.Dec.{eqb}
use Rattle.std.proofs.Math.ListN.{length, get_or, set}
use Rattle.std.proofs.Math.Seq.{get_or-set_same, get_or-set_other}
use borrow.Author.Tests.{eqb-true, eqb-false}
use Rattle.laws.specs.Cases.{by}
use Rattle.rig.specs.declared.Row.{Row}
use Rattle.rig.specs.Forms.{rig_with}
use Rattle.rig_lines.specs.Kinds.{kind_a, kind_c, kind_m, kind_b, count_of, counts}
use Rattle.rig_lines.specs.Kind.{kind_number}
use Rattle.rig_lines.specs.Line.{Line}
use Rattle.rig_lines.specs.Whole.{number_of, is_kind, is_flag_line, how_many, tasks_of, flags_of, master_of}
use Rattle.rig_held.specs.declared.Line.{Line as HeldLine}
use Rattle.rig_held.specs.Held.{held_line, held}
use Rattle.rig_held.specs.Laws.Lines.{held_at, held_none, held_more, held_all}
use Rattle.rig_held.specs.Laws.Rules.{first_is, first_not, many_yes, many_no, many_none, many_most}
use Rattle.rig_fill.specs.OfLines.{zeros, stored, listed, task_table, condition_table, condition_place, one, line_table, row_said, rig_from, flags_from, places, table_from}
use Rattle.rig_fill.specs.Laws.Snoc.{stored_none, stored_snoc, stored_length, listed_none, listed_snoc, listed_length, set_past, places_length, places_at}

-- ---- a table by place: a line that is meant, one whose place is behind the end, one that is not meant

module _ (meant : Line → Bool) (at says : Line → ℕ) (z : List ℕ) where
  pub table_start : z ≡ stored meant at says z (held [])
  table_start = sym (ap (stored meant at says z) held_none ∙ stored_none meant at says z)

  module _ (l : List HeldLine) (i : ℕ) (d : HeldLine) (h : i < length l) (old : List ℕ) (e : old ≡ stored meant at says z (held (take i l))) where
    abbrev here : Line
    here = held_line (get_or l i d)

    more : stored meant at says z (held (take (i + 1) l)) ≡ cond (meant here) (set (stored meant at says z (held (take i l))) (at here) (says here)) (stored meant at says z (held (take i l)))
    more = ap (stored meant at says z) (held_more l i d h) ∙ stored_snoc meant at says z (held (take i l)) here

    pub table_on : meant (held_line (get_or l i d)) ≡ true → (p x : ℕ) → p ≡ at (held_line (get_or l i d)) → x ≡ says (held_line (get_or l i d)) → (new : List ℕ) → new ≡ set old p x → new ≡ stored meant at says z (held (take (i + 1) l))
    table_on m p x q s new f = f ∙ sym (more ∙ rw (m, ← e, ← q, ← s))

    pub table_past : meant (held_line (get_or l i d)) ≡ true → (p : ℕ) → p ≡ at (held_line (get_or l i d)) → length z ≤ p → (new : List ℕ) → new ≡ old → new ≡ stored meant at says z (held (take (i + 1) l))
    table_past m p q g new f =
        let b : length old ≡ length z = ap length e ∙ stored_length meant at says z (held (take i l)) in
        let k : length old ≤ at here = omega arith in
        f ∙ sym (more ∙ rw (m, ← e) (set_past old (at here) (says here) k))

    pub table_skip : meant (held_line (get_or l i d)) ≡ false → (new : List ℕ) → new ≡ old → new ≡ stored meant at says z (held (take (i + 1) l))
    table_skip m new f = f ∙ sym (more ∙ rw (m, ← e))

  -- after the last line
  pub table_all : (l : List HeldLine) (i : ℕ) → length l ≤ i → (new : List ℕ) → new ≡ stored meant at says z (held (take i l)) → new ≡ stored meant at says z (held l)
  table_all l i h new e = e ∙ ap (stored meant at says z) (held_all l i h)

-- what number f of a held line says, where it stands
pub says_at : (r : HeldLine) (k f : ℕ) → eqb (kind_number r.kind) k ≡ true → f < count_of k → get_or r.numbers f 0 ≡ number_of f (held_line r)
says_at r k f e h = sym (held_at r f k e h)

-- the place that a C line names
pub place_said : (r : HeldLine) → eqb (kind_number r.kind) kind_c ≡ true → 16 * get_or r.numbers 0 0 + get_or r.numbers 1 0 ≡ condition_place (held_line r)
unfolding count_of counts
place_said r e = rw (says_at r kind_c 0 e (omega arith), says_at r kind_c 1 e (omega arith))

-- ---- a list, one line behind the other

module _ {A : Type 0} (meant : Line → Bool) (says : Line → A) (z : List A) where
  pub list_start : z ≡ listed meant says 0 z (held [])
  list_start = sym (ap (listed meant says 0 z) held_none ∙ listed_none meant says 0 z)

  module _ (l : List HeldLine) (i : ℕ) (d : HeldLine) (h : i < length l) (old : List A) (e : old ≡ listed meant says 0 z (held (take i l))) where
    abbrev entry : Line
    entry = held_line (get_or l i d)

    grown : listed meant says 0 z (held (take (i + 1) l)) ≡ cond (meant entry) (set (listed meant says 0 z (held (take i l))) (0 + how_many meant (held (take i l))) (says entry)) (listed meant says 0 z (held (take i l)))
    grown = ap (listed meant says 0 z) (held_more l i d h) ∙ listed_snoc meant says 0 z (held (take i l)) entry

    pub list_on : meant (held_line (get_or l i d)) ≡ true → (p : ℕ) (x : A) → p ≡ how_many meant (held (take i l)) → x ≡ says (held_line (get_or l i d)) → (new : List A) → new ≡ set old p x → new ≡ listed meant says 0 z (held (take (i + 1) l))
    list_on m p x q s new f = let o : 0 + how_many meant (held (take i l)) ≡ p = omega arith in f ∙ sym (grown ∙ rw (m, ← e, o, ← s))

    pub list_past : meant (held_line (get_or l i d)) ≡ true → (p : ℕ) → p ≡ how_many meant (held (take i l)) → length z ≤ p → (new : List A) → new ≡ old → new ≡ listed meant says 0 z (held (take (i + 1) l))
    list_past m p q g new f =
        let b : length old ≡ length z = ap length e ∙ listed_length meant says 0 z (held (take i l)) in
        let k : length old ≤ 0 + how_many meant (held (take i l)) = omega arith in
        f ∙ sym (grown ∙ rw (m, ← e) (set_past old (0 + how_many meant (held (take i l))) (says entry) k))

    pub list_skip : meant (held_line (get_or l i d)) ≡ false → (new : List A) → new ≡ old → new ≡ listed meant says 0 z (held (take (i + 1) l))
    list_skip m new f = f ∙ sym (grown ∙ rw (m, ← e))

  pub list_all : (l : List HeldLine) (i : ℕ) → length l ≤ i → (new : List A) → new ≡ listed meant says 0 z (held (take i l)) → new ≡ listed meant says 0 z (held l)
  list_all l i h new e = e ∙ ap (listed meant says 0 z) (held_all l i h)

-- a B line's numbers, where they stand
pub row_says : (r : HeldLine) → eqb (kind_number r.kind) kind_b ≡ true →
    record {
      sender = get_or r.numbers 0 0;
      sender_sub = get_or r.numbers 1 0;
      receiver = get_or r.numbers 2 0;
      receiver_sub = get_or r.numbers 3 0;
      words = get_or r.numbers 4 0;
      period = get_or r.numbers 5 0;
      phase = get_or r.numbers 6 0;
    } ≡ row_said (held_line r)
unfolding row_said count_of counts
row_says r e =
    rw (
      says_at r kind_b 0 e (omega arith),
      says_at r kind_b 1 e (omega arith),
      says_at r kind_b 2 e (omega arith),
      says_at r kind_b 3 e (omega arith),
      says_at r kind_b 4 e (omega arith),
      says_at r kind_b 5 e (omega arith),
      says_at r kind_b 6 e (omega arith),
    )

-- ---- the flags of each cycle

pub record Cycled (l : List HeldLine) (t : List (List ℕ)) (inside : List ℕ) (i : ℕ) : Type 0 where
  pub long : length t ≡ 64
  pub wide : length inside ≡ 256
  pub flags : (c : ℕ) → c < 64 → get_or t c [] ≡ flags_from (held (take i l)) c
  pub many : (c : ℕ) → c < 256 → get_or inside c 0 ≡ how_many (is_flag_line c) (held (take i l))

pub cycled_start : (l : List HeldLine) (t : List (List ℕ)) (inside : List ℕ) → length t ≡ 64 → length inside ≡ 256 → ((c : ℕ) → c < 64 → get_or t c [] ≡ zeros 15) → ((c : ℕ) → get_or inside c 0 ≡ 0) → Cycled l t inside 0
cycled_start l t inside a b f z = record { long = a; wide = b; flags = λ c h. f c h ∙ list_start (is_flag_line c) (number_of 1) (zeros 15); many = λ c h. z c ∙ sym (many_none (is_flag_line c)) }

module _ (l : List HeldLine) (t : List (List ℕ)) (inside : List ℕ) (i : ℕ) (w : Cycled l t inside i) where
  module _ (d : HeldLine) (inside_l : i < length l) where
    pub cycled_skip : eqb (kind_number (get_or l i d).kind) kind_m ≡ false → Cycled l t inside (i + 1)
    cycled_skip n =
        record {
          long = w.long;
          wide = w.wide;
          flags = λ c h. list_skip (is_flag_line c) (number_of 1) (zeros 15) l i d inside_l (get_or t c []) (w.flags c h) (first_not (get_or l i d) kind_m c n) (get_or t c []) refl;
          many = λ c h. w.many c h ∙ sym (many_no (is_flag_line c) l i d inside_l (first_not (get_or l i d) kind_m c n));
        }

    module _ (e : eqb (kind_number (get_or l i d).kind) kind_m ≡ true) (x : ℕ) (q : x ≡ get_or (get_or l i d).numbers 0 0) (small : x < 256) where
      is : (c : ℕ) → is_flag_line c (held_line (get_or l i d)) ≡ eqb x c
      unfolding count_of counts
      is c = first_is (get_or l i d) kind_m c (omega arith) e ∙ ap (λ (y : ℕ). eqb y c) (sym q)

      counted : (new : List ℕ) → new ≡ set inside x (get_or inside x 0 + 1) → (c : ℕ) → c < 256 → get_or new c 0 ≡ how_many (is_flag_line c) (held (take (i + 1) l))
      counted new f c h =
          by (eqb x c)
          (λ y. let z = eqb-true x c y in
          rw (f, ← z, get_or-set_same inside x (get_or inside x 0 + 1) 0 (omega (arith, w.wide))) (ap (λ (k : ℕ). k + 1) (w.many x small) ∙ sym (many_yes (is_flag_line x) l i d inside_l (is x ∙ (ap (eqb x) z ∙ y)))))
          (λ y. let z = eqb-false x c y in
          rw (f, get_or-set_other inside x c (get_or inside x 0 + 1) 0 (λ k. z (sym k))) (w.many c h ∙ sym (many_no (is_flag_line c) l i d inside_l (is c ∙ y))))

      -- a flag that has room in its cycle; one that has not, or whose cycle there is not
      pub cycled_on : x < 64 → (n f : ℕ) → n ≡ get_or inside x 0 → f ≡ get_or (get_or l i d).numbers 1 0 → (t' : List (List ℕ)) → t' ≡ set t x (set (get_or t x []) n f) → (new : List ℕ) → new ≡ set inside x (n + 1) → Cycled l t' new (i + 1)
      unfolding count_of counts
      cycled_on h n f r s t' b new g =
          record {
            long = ap length b ∙ (length-set t x (set (get_or t x []) n f) ∙ w.long);
            wide = ap length g ∙ (length-set inside x (n + 1) ∙ w.wide);
            flags = λ c k. by (eqb x c)
                (λ y. let z = eqb-true x c y in
                rw (b, ← z, get_or-set_same t x (set (get_or t x []) n f) [] (omega (arith, w.long)))
                (list_on (is_flag_line x) (number_of 1) (zeros 15) l i d inside_l (get_or t x []) (w.flags x h) (is x ∙ (ap (eqb x) z ∙ y)) n f (r ∙ w.many x small) (s ∙ says_at (get_or l i d) kind_m 1 e (omega arith)) (set (get_or t x []) n f) refl))
                (λ y. let z = eqb-false x c y in
                rw (b, get_or-set_other t x c (set (get_or t x []) n f) [] (λ k. z (sym k)))
                (list_skip (is_flag_line c) (number_of 1) (zeros 15) l i d inside_l (get_or t c []) (w.flags c k) (is c ∙ y) (get_or t c []) refl));
            many = counted new (g ∙ ap (λ (k : ℕ). set inside x (k + 1)) r);
          }

      pub cycled_past : (n : ℕ) → n ≡ get_or inside x 0 → (x < 64 → 15 ≤ n) → (new : List ℕ) → new ≡ set inside x (n + 1) → Cycled l t new (i + 1)
      cycled_past n r full new f =
          record {
            long = w.long;
            wide = ap length f ∙ (length-set inside x (n + 1) ∙ w.wide);
            flags = λ c k. by (eqb x c)
                (λ y. let z = eqb-true x c y in
                let g : 15 ≤ n = full (omega arith) in
                list_past (is_flag_line c) (number_of 1) (zeros 15) l i d inside_l (get_or t c []) (w.flags c k) (is c ∙ y) n (r ∙ (ap (λ (j : ℕ). get_or inside j 0) z ∙ w.many c (omega arith))) g (get_or t c []) refl)
                (λ y. list_skip (is_flag_line c) (number_of 1) (zeros 15) l i d inside_l (get_or t c []) (w.flags c k) (is c ∙ y) (get_or t c []) refl);
            many = counted new (f ∙ ap (λ (k : ℕ). set inside x (k + 1)) r);
          }

  -- a count is of lines that there are
  pub cycled_room : (c : ℕ) → c < 256 → get_or inside c 0 ≤ i
  cycled_room c k = let e = w.many c k in let m = many_most (is_flag_line c) l i in omega arith

pub cycled_end : (l : List HeldLine) (t : List (List ℕ)) (inside : List ℕ) (i : ℕ) → length l ≤ i → Cycled l t inside i → t ≡ table_from (held l)
unfolding table_from
cycled_end l t inside i a w =
    ext_get_or [] t (places 64 (flags_from (held l))) (w.long ∙ sym (places_length 64 (flags_from (held l))))
    (λ c h. let g : c < 64 = omega (arith, w.long) in w.flags c g ∙ (ap (λ (rs : List Line). flags_from rs c) (held_all l i a) ∙ sym (places_at 64 (flags_from (held l)) c [] g)))

-- ---- the rig, table by table

pub rig_is : (rs : List Line) (tasks flags master lines rows : ℕ) (controller priority privileged activation present latched desired line_task line_pos line_flag : List ℕ) (row : List Row) →
    tasks ≡ tasks_of rs →
    flags ≡ flags_of rs →
    master ≡ master_of rs →
    lines ≡ how_many (is_kind kind_a) rs →
    rows ≡ how_many (is_kind kind_b) rs →
    controller ≡ task_table 1 rs →
    priority ≡ task_table 2 rs →
    privileged ≡ task_table 3 rs →
    activation ≡ task_table 4 rs →
    present ≡ condition_table one rs →
    latched ≡ condition_table (number_of 2) rs →
    desired ≡ condition_table (number_of 3) rs →
    line_task ≡ line_table 0 rs →
    line_pos ≡ line_table 1 rs →
    line_flag ≡ line_table 2 rs →
    row ≡ (rig_from rs).row →
    rig_with tasks flags master lines rows controller priority privileged activation present latched desired line_task line_pos line_flag row ≡ rig_from rs
unfolding rig_from
rig_is rs tasks flags master lines rows controller priority privileged activation present latched desired line_task line_pos line_flag row e0 e1 e2 e3 e4 e5 e6 e7 e8 e9 e10 e11 e12 e13 e14 e15 = rw (e0, e1, e2, e3, e4, e5, e6, e7, e8, e9, e10, e11, e12, e13, e14, e15)
