-- Numbers above the RIG line's, marks and counts, line after line.
-- Assumes nothing.
use Rattle.std.specs.Prelude.{ℕ, ◌+◌, ◌≤◌, ◌<◌, ◌≡◌, ◌≢◌, Bool, true, false, List, ltb, get_or, take, set}
use Rattle.std.proofs.Math.Path.{sym, ap}
use Rattle.std.proofs.Common.{◌∙◌, arith, length-set}
use Rattle.std.proofs.Math.Dec.{eqb}
use Rattle.std.proofs.Math.ListN.{length}
use borrow.Author.Tests.{eqb-true, ne_eqb, lt-ltb, le-leb, lt-leb}
use Rattle.laws.specs.Cases.{by}
use Rattle.laws.specs.All.{all}
use Rattle.laws.specs.Laws.Tables.{get_d_set}
use Rattle.rig_lines.specs.Kinds.{kind_t, kind_m, count_of, counts, sort_of, under}
use Rattle.rig_lines.specs.Kind.{kind_number}
use Rattle.rig_lines.specs.Whole.{is_task_line, is_flag_line, how_many, number_under, line_under}
use Rattle.rig_held.specs.declared.Line.{Line as HeldLine}
use Rattle.rig_held.specs.Held.{held_line, held}
use Rattle.rig_held.specs.Laws.Lines.{held_kind, held_number, held_all}
use Rattle.rig_held.specs.Laws.Rules.{many_none, many_yes, many_no, many_most, first_is, first_not}

-- ---- numbers above the RIG line's

module _ (r : HeldLine) (tasks flags : ℕ) (j : ℕ) (h : j < count_of (kind_number r.kind)) where
  number : under tasks flags (kind_number r.kind) j (get_or r.numbers j 0) ≡ number_under tasks flags (held_line r) j
  number = rw (held_number r j h, held_kind r)

  pub task_over : sort_of (kind_number r.kind) j ≡ 1 → tasks < get_or r.numbers j 0 → number_under tasks flags (held_line r) j ≡ false
  unfolding under
  task_over e g = sym number ∙ rw (e, lt-leb _ _ g)

  pub task_under : sort_of (kind_number r.kind) j ≡ 1 → get_or r.numbers j 0 ≤ tasks → number_under tasks flags (held_line r) j ≡ true
  unfolding under
  task_under e g = sym number ∙ rw (e, le-leb _ _ g)

  pub flag_over : sort_of (kind_number r.kind) j ≢ 1 → sort_of (kind_number r.kind) j ≡ 2 → flags < get_or r.numbers j 0 → number_under tasks flags (held_line r) j ≡ false
  unfolding under
  flag_over n e g = sym number ∙ rw (e, lt-leb _ _ g)

  pub flag_under : sort_of (kind_number r.kind) j ≢ 1 → sort_of (kind_number r.kind) j ≡ 2 → get_or r.numbers j 0 ≤ flags → number_under tasks flags (held_line r) j ≡ true
  unfolding under
  flag_under n e g = sym number ∙ rw (e, le-leb _ _ g)

  pub other_under : sort_of (kind_number r.kind) j ≢ 1 → sort_of (kind_number r.kind) j ≢ 2 → number_under tasks flags (held_line r) j ≡ true
  unfolding under
  other_under n m = sym number ∙ rw (ne_eqb (sort_of (kind_number r.kind) j) 1 n, ne_eqb (sort_of (kind_number r.kind) j) 2 m)

-- the same number of tests, by the kind as it was read
pub under_all : (r : HeldLine) (tasks flags m : ℕ) → m ≡ count_of (kind_number r.kind) → (b : Bool) → b ≡ all m (number_under tasks flags (held_line r)) → b ≡ line_under tasks flags (held_line r)
under_all r tasks flags m e b d = d ∙ ap (λ (k : ℕ). all k (number_under tasks flags (held_line r))) (e ∙ ap count_of (sym (held_kind r)))

-- ---- a mark for each task that has a T line; how many flags each cycle has

pub record Marked (l : List HeldLine) (has : List ℕ) (i : ℕ) : Type 0 where
  pub size : length has ≡ 256
  pub says : (t : ℕ) → t < 256 → eqb (get_or has t 0) 1 ≡ ltb 0 (how_many (is_task_line t) (held (take i l)))

pub marked_none : (l : List HeldLine) (has : List ℕ) → length has ≡ 256 → ((t : ℕ) → get_or has t 0 ≡ 0) → Marked l has 0
marked_none l has e z = record { size = e; says = λ t h. rw (z t, many_none (is_task_line t)) }

module _ (l : List HeldLine) (has : List ℕ) (i : ℕ) (w : Marked l has i) where
  module _ (d : HeldLine) (inside : i < length l) where
    pub marked_on : eqb (kind_number (get_or l i d).kind) kind_t ≡ true → (t : ℕ) → t ≡ get_or (get_or l i d).numbers 0 0 → (new : List ℕ) → new ≡ set has t 1 → Marked l new (i + 1)
    unfolding count_of counts
    marked_on e x q new n =
        record {
          size = ap length n ∙ (length-set has x 1 ∙ w.size);
          says = λ t h. let g : t < length has = omega (arith, w.size) in
              let f : is_task_line t (held_line (get_or l i d)) ≡ eqb x t = first_is (get_or l i d) kind_t t (omega arith) e ∙ ap (λ (y : ℕ). eqb y t) (sym q) in
              rw (n, get_d_set has x t 1 g) (by (eqb x t)
              (λ y. rw (y, many_yes (is_task_line t) l i d inside (f ∙ y)) (sym (lt-ltb 0 (how_many (is_task_line t) (held (take i l)) + 1) (omega arith))))
              (λ y. rw (y, many_no (is_task_line t) l i d inside (f ∙ y)) (w.says t h)));
        }

    pub marked_skip : eqb (kind_number (get_or l i d).kind) kind_t ≡ false → Marked l has (i + 1)
    marked_skip n = record { size = w.size; says = λ t h. rw (many_no (is_task_line t) l i d inside (first_not (get_or l i d) kind_t t n)) (w.says t h) }

  pub marked_all : length l ≤ i → (t : ℕ) → t < 256 → eqb (get_or has t 0) 1 ≡ ltb 0 (how_many (is_task_line t) (held l))
  marked_all a t h = rw (← held_all l i a) (w.says t h)

pub record Counted (l : List HeldLine) (many : List ℕ) (i : ℕ) : Type 0 where
  pub size : length many ≡ 256
  pub says : (c : ℕ) → c < 256 → get_or many c 0 ≡ how_many (is_flag_line c) (held (take i l))

pub counted_none : (l : List HeldLine) (many : List ℕ) → length many ≡ 256 → ((t : ℕ) → get_or many t 0 ≡ 0) → Counted l many 0
counted_none l many e z = record { size = e; says = λ t h. rw (z t, many_none (is_flag_line t)) }

module _ (l : List HeldLine) (many : List ℕ) (i : ℕ) (w : Counted l many i) where
  module _ (d : HeldLine) (inside : i < length l) where
    pub counted_on : eqb (kind_number (get_or l i d).kind) kind_m ≡ true → (c : ℕ) → c ≡ get_or (get_or l i d).numbers 0 0 → (new : List ℕ) → new ≡ set many c (get_or many c 0 + 1) → Counted l new (i + 1)
    unfolding count_of counts
    counted_on e x q new n =
        record {
          size = ap length n ∙ (length-set many x (get_or many x 0 + 1) ∙ w.size);
          says = λ c h. let g : c < length many = omega (arith, w.size) in
              let f : is_flag_line c (held_line (get_or l i d)) ≡ eqb x c = first_is (get_or l i d) kind_m c (omega arith) e ∙ ap (λ (y : ℕ). eqb y c) (sym q) in
              rw (n, get_d_set many x c (get_or many x 0 + 1) g) (by (eqb x c)
              (λ y. let z : x ≡ c = eqb-true x c y in
              rw (y, many_yes (is_flag_line c) l i d inside (f ∙ y), z) (ap (λ (k : ℕ). k + 1) (w.says c h)))
              (λ y. rw (y, many_no (is_flag_line c) l i d inside (f ∙ y)) (w.says c h)));
        }

    pub counted_skip : eqb (kind_number (get_or l i d).kind) kind_m ≡ false → Counted l many (i + 1)
    counted_skip n = record { size = w.size; says = λ c h. rw (many_no (is_flag_line c) l i d inside (first_not (get_or l i d) kind_m c n)) (w.says c h) }

  -- a count is of lines that there are
  pub counted_room : (c : ℕ) → c < 256 → get_or many c 0 ≤ i
  counted_room c k = let e = w.says c k in let m = many_most (is_flag_line c) l i in omega arith

  pub counted_all : length l ≤ i → (c : ℕ) → c < 256 → get_or many c 0 ≡ how_many (is_flag_line c) (held l)
  counted_all a c h = rw (← held_all l i a) (w.says c h)
