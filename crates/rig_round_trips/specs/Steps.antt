-- One line more: the lines of what is built then are those before it, and it.
-- Assumes nothing.
use Rattle.std.specs.Prelude.{ℕ, ◌+◌, ◌*◌, ◌/◌, ◌%◌, ◌≤◌, ◌<◌, ◌≢◌, true, List, [], ◌∷◌, ◌++◌, leb, length, set}
use Rattle.std.proofs.Math.Path.{◌≡◌, refl, sym, ap}
use Rattle.std.proofs.Common.{ap₂, ◌∙◌, length-set}
use Rattle.std.proofs.Math.Bool.{not}
use native.Mathlib.Omega.{arith}
use Rattle.std.proofs.Math.Dec.{eqb}
use Rattle.std.proofs.Math.ListN.{get_or}
use Rattle.std.proofs.Math.Seq.{get_or-set_same, get_or-set_other}
use borrow.Author.Tests.{eqb-true, eqb-false, eq-eqb, ne_eqb, lt-ltb, le-ltb, ltb-true, leb-true}
use Rattle.laws.specs.Cases.{by}
use Rattle.laws.specs.All.{all}
use Rattle.rig.specs.declared.Row.{Row}
use Rattle.rig.specs.declared.Rig.{Rig}
use Rattle.rig.specs.Rules.{no_row}
use Rattle.rig_tables.specs.Tests.{place}
use Rattle.rig_lines.specs.Kinds.{counts, count_of, keys, keys_of, lows, low_of, highs, high_of, sorts, sort_of, under, keyed, place_in_order, follows}
use Rattle.rig_lines.specs.Laws.Kinds.{within_is}
use Rattle.rig_lines.specs.Line.{Line, placed, ordered, judge}
use Rattle.rig_lines.specs.Laws.Judged.{judged_sound, shaped_count, sized_fits, fits_at}
use Rattle.rig_round_trips.specs.Built.{Marks, Built, built, numbers, under_one, above_after, with_above, with_task, with_condition, with_line, row_of, with_row, has_line, one_flag, put_flag}
use Rattle.rig_write.specs.Kept.{kept}
use Rattle.rig_write.specs.File.{line, rig_line, task_line, is_condition, condition_line, is_line, flag_line, table_flag_at, is_flag, cycle_line, is_row, row_line, bus_numbers}
use Rattle.rig_round_trips.specs.Kept.{kept_more}
use Rattle.rig_round_trips.specs.Back.{has_t, part_t, part_c, part_a, part_m, part_b, lines_built, snoc_1, snoc_2, snoc_3, snoc_4, snoc_5, cell, Upto, no_conditions, no_lines, no_flags, no_rows}

-- numbers of a known count, one by one
pub two : (ns : List ℕ) → length ns ≡ 2 → get_or ns 0 0 ∷ get_or ns 1 0 ∷ [] ≡ ns
two [] e = absurd (omega arith)
two (a ∷ []) e = absurd (omega arith)
two (a ∷ b ∷ []) e = refl
two (a ∷ b ∷ c ∷ l) e = absurd (omega arith)

pub three : (ns : List ℕ) → length ns ≡ 3 → get_or ns 0 0 ∷ get_or ns 1 0 ∷ get_or ns 2 0 ∷ [] ≡ ns
three [] e = absurd (omega arith)
three (a ∷ ns) e = ap (λ (l : List ℕ). a ∷ l) (two ns (omega arith))

pub four : (ns : List ℕ) → length ns ≡ 4 → get_or ns 0 0 ∷ get_or ns 1 0 ∷ get_or ns 2 0 ∷ get_or ns 3 0 ∷ [] ≡ ns
four [] e = absurd (omega arith)
four (a ∷ ns) e = ap (λ (l : List ℕ). a ∷ l) (three ns (omega arith))

pub five : (ns : List ℕ) → length ns ≡ 5 → get_or ns 0 0 ∷ get_or ns 1 0 ∷ get_or ns 2 0 ∷ get_or ns 3 0 ∷ get_or ns 4 0 ∷ [] ≡ ns
five [] e = absurd (omega arith)
five (a ∷ ns) e = ap (λ (l : List ℕ). a ∷ l) (four ns (omega arith))

pub seven : (ns : List ℕ) → length ns ≡ 7 → get_or ns 0 0 ∷ get_or ns 1 0 ∷ get_or ns 2 0 ∷ get_or ns 3 0 ∷ get_or ns 4 0 ∷ get_or ns 5 0 ∷ get_or ns 6 0 ∷ [] ≡ ns
seven [] e = absurd (omega arith)
seven (a ∷ []) e = absurd (omega arith)
seven (a ∷ b ∷ ns) e = ap (λ (l : List ℕ). a ∷ b ∷ l) (five ns (omega arith))

-- a faultless line after one of place p, of kind k
pub record Fine (p k : ℕ) (ns : List ℕ) : Type 0 where
  pub sort : k < 7
  pub count : length ns ≡ count_of k
  pub low : (i : ℕ) → i < count_of k → low_of k i ≤ get_or ns i 0
  pub high : (i : ℕ) → i < count_of k → get_or ns i 0 ≤ high_of k i
  pub order : follows p k (place_in_order k ns) ≡ true

pub fine : (p : ℕ) (r : Line) → r.kind < 7 → judge p r ≡ 0 → Fine p r.kind r.nums
unfolding ordered placed
fine p r h e =
    let w = judged_sound p r e in
    let c = shaped_count r w.shape in
    let f : (i : ℕ) → i < count_of r.kind → (low_of r.kind i ≤ get_or r.nums i 0) × (get_or r.nums i 0 ≤ high_of r.kind i) =
    λ i l. let z : 0 + i ≡ i = omega arith in within_is r.kind i (get_or r.nums i 0) (rw z at (fits_at r.kind 0 r.nums (sized_fits r w.size) i (omega arith))) in
    record { sort = h; count = c; low = λ i l. (f i l).0; high = λ i l. (f i l).1; order = w.order }

-- after a line that is there, a line of another kind than B comes later
pub later : (p k x : ℕ) → 0 < p → (k ≡ 6 → ⊥) → follows p k x ≡ true → p < x
unfolding follows
later p k x h n e = ltb-true p x (rw (ne_eqb p 0 (omega arith), ne_eqb k 6 n) at e)

pub later_row : (p k x : ℕ) → 0 < p → k ≡ 6 → follows p k x ≡ true → p ≤ x
unfolding follows
later_row p k x h n e = leb-true p x (rw (ne_eqb p 0 (omega arith), n) at e)

-- ---- T

module _ (p : ℕ) (g : Rig) (t : List (List ℕ)) (m : Marks) (ns : List ℕ) (a : ℕ) (u : Upto p (built g t m)) (w : Fine p 2 ns)
    (mark : a ≡ above_after m.above 2 (count_of 2) (numbers ns) g.tasks g.flags) where
  task_place : place_in_order 2 ns ≡ 33554432 + get_or ns 0 0 * 65536
  unfolding place_in_order keyed keys_of keys
  task_place = omega arith

  task_size : (1 ≤ get_or ns 0 0) × (get_or ns 0 0 ≤ 64)
  unfolding low_of high_of lows highs count_of counts
  task_size = (w.low 0 (omega arith), w.high 0 (omega arith))

  abbrev tasked : Built
  tasked = built (with_task g (get_or ns 0 0) (numbers ns)) t (has_line (with_above m a) (get_or ns 0 0))

  task_after : p < place_in_order 2 ns
  task_after = let b = u.begun in later p 2 (place_in_order 2 ns) (omega arith) (omega arith) w.order

  -- a number above the RIG line's would be marked
  task_under : a ≡ 0 → (m.above ≡ 0) × (get_or ns 0 0 ≤ g.tasks)
  unfolding above_after count_of counts all under sort_of sorts
  task_under e =
      by (leb (get_or ns 0 0) g.tasks)
      (λ q. by (all 5 (under_one g.tasks g.flags 2 (numbers ns)))
      (λ y. (sym (rw y at mark) ∙ e, leb-true _ _ q))
      (λ y. let z : ◌≡◌ {A = ℕ} 1 0 = sym (rw y at mark) ∙ e in absurd (omega arith)))
      (λ q. let y : a ≡ 1 = mark ∙ rw q in absurd (omega arith))

  task_marks : (i : ℕ) → i ≢ get_or ns 0 0 → has_t m i ≡ has_t tasked.marks i
  task_marks i n = ap (λ (x : ℕ). eqb x 1) (sym (get_or-set_other m.tline (get_or ns 0 0) i 1 0 n))

  pub task_lines : lines_built tasked ≡ lines_built (built g t m) ++ (line 2 ns ∷ [])
  unfolding lines_built count_of counts
  task_lines =
      let s = task_size in
      let q = task_place in
      let l = task_after in
      let o = u.whole in
      let c1 = o.controller in let c2 = o.priority in let c3 = o.privileged in let c4 = o.activation in let c5 = o.tline in
      let j = get_or ns 0 0 in
      let more : kept 65 (has_t tasked.marks) (task_line tasked.rig) ≡ kept 65 (has_t m) (task_line g) ++ (line 2 ns ∷ []) =
      kept_more 65 (get_or ns 0 0) (has_t m) (has_t tasked.marks) (task_line g) (task_line tasked.rig) (omega arith)
      (λ i h. task_marks i (omega arith))
      (λ i h _. rw (get_or-set_other g.controller (get_or ns 0 0) i (get_or ns 1 0) 0 (omega arith), get_or-set_other g.priority (get_or ns 0 0) i (get_or ns 2 0) 0 (omega arith), get_or-set_other g.privileged (get_or ns 0 0) i (get_or ns 3 0) 0 (omega arith), get_or-set_other g.activation (get_or ns 0 0) i (get_or ns 4 0) 0 (omega arith)))
      (λ i h k. by (has_t m i) (λ e. absurd (omega (arith, (u.tasks i e).1))) (λ e. e))
      (ap (λ (x : ℕ). eqb x 1) (get_or-set_same m.tline (get_or ns 0 0) 1 0 (omega arith)) ∙ eq-eqb 1 1 refl)
      (λ i h k. sym (task_marks i (omega arith)) ∙ by (has_t m i) (λ e. absurd (omega (arith, (u.tasks i e).1))) (λ e. e))
      ∙ ap (λ (r : Line). kept 65 (has_t m) (task_line g) ++ (r ∷ []))
      (rw (get_or-set_same g.controller (get_or ns 0 0) (get_or ns 1 0) 0 (omega arith), get_or-set_same g.priority (get_or ns 0 0) (get_or ns 2 0) 0 (omega arith), get_or-set_same g.privileged (get_or ns 0 0) (get_or ns 3 0) 0 (omega arith), get_or-set_same g.activation (get_or ns 0 0) (get_or ns 4 0) 0 (omega arith))
      (ap (line 2) (five ns w.count))) in
      snoc_1 (line 2 ns) (rig_line g) (part_t g m) (part_c g) (part_a g) (part_m t) (part_b g) (part_t tasked.rig tasked.marks) (no_conditions p (built g t m) u (omega arith)) (no_lines p (built g t m) u (omega arith)) (no_flags p (built g t m) u (omega arith)) (no_rows p (built g t m) u (omega arith)) more

  pub task_upto : Upto (place_in_order 2 ns) tasked
  task_upto =
      let s = task_size in
      let q = task_place in
      let l = task_after in
      let o = u.whole in
      let c5 = o.tline in
      record {
        whole = record {
          controller = simp length-set o.controller;
          priority = simp length-set o.priority;
          privileged = simp length-set o.privileged;
          activation = simp length-set o.activation;
          present = o.present;
          latched = o.latched;
          desired = o.desired;
          line_task = o.line_task;
          line_pos = o.line_pos;
          line_flag = o.line_flag;
          row = o.row;
          table = o.table;
          cells = o.cells;
          tline = simp length-set o.tline;
          inside = o.inside;
        };
        begun = omega arith;
        tasks = λ i e. by (eqb i (get_or ns 0 0))
            (λ y. let z = eqb-true i (get_or ns 0 0) y in (omega arith, omega arith))
            (λ y. let z = u.tasks i (task_marks i (eqb-false i (get_or ns 0 0) y) ∙ e) in (z.0, omega (arith, z.1)));
        under = λ e i h. let k = task_under e in by (eqb i (get_or ns 0 0))
            (λ y. let z = eqb-true i (get_or ns 0 0) y in omega (arith, k.1))
            (λ y. u.under k.0 i (task_marks i (eqb-false i (get_or ns 0 0) y) ∙ h));
        conditions = λ i e. omega (arith, u.conditions i e);
        lines = λ h. u.lines (omega arith);
        flags = λ c n h k e. omega (arith, u.flags c n h k e);
        inside = u.inside;
        rows = λ h. u.rows (omega arith);
      }

-- ---- C

module _ (p : ℕ) (g : Rig) (t : List (List ℕ)) (m : Marks) (ns : List ℕ) (a : ℕ) (u : Upto p (built g t m)) (w : Fine p 3 ns) (kept_mark : a ≡ 0 → m.above ≡ 0) where
  condition_rank : place_in_order 3 ns ≡ 50331648 + get_or ns 0 0 * 65536 + get_or ns 1 0 * 256
  unfolding place_in_order keyed keys_of keys
  condition_rank = omega arith

  condition_size : (1 ≤ get_or ns 0 0) × (get_or ns 0 0 ≤ 64) × (get_or ns 1 0 ≤ 15)
  unfolding low_of high_of lows highs count_of counts
  condition_size = (w.low 0 (omega arith), w.high 0 (omega arith), w.high 1 (omega arith))

  abbrev at : ℕ
  at = place (get_or ns 0 0) (get_or ns 1 0)

  abbrev conditioned : Built
  conditioned = built (with_condition g at (numbers ns)) t (with_above m a)

  condition_after : p < place_in_order 3 ns
  condition_after = let b = u.begun in later p 3 (place_in_order 3 ns) (omega arith) (omega arith) w.order

  condition_marks : (i : ℕ) → i ≢ at → is_condition g i ≡ is_condition conditioned.rig i
  condition_marks i n = ap (λ (x : ℕ). eqb x 1) (sym (get_or-set_other g.present at i 1 0 n))

  -- those that are there stand below
  condition_below : (i : ℕ) → is_condition g i ≡ true → i < at
  condition_below i e = let s = condition_size in let q = condition_rank in let l = condition_after in omega (arith, u.conditions i e)

  pub condition_lines : lines_built conditioned ≡ lines_built (built g t m) ++ (line 3 ns ∷ [])
  unfolding lines_built count_of counts
  condition_lines =
      let s = condition_size in
      let q = condition_rank in
      let l = condition_after in
      let o = u.whole in
      let c1 = o.present in let c2 = o.latched in let c3 = o.desired in
      let d : at / 16 ≡ get_or ns 0 0 = omega arith in
      let e : at % 16 ≡ get_or ns 1 0 = omega arith in
      let more : part_c conditioned.rig ≡ part_c g ++ (line 3 ns ∷ []) =
      kept_more 1040 at (is_condition g) (is_condition conditioned.rig) (condition_line g) (condition_line conditioned.rig) (omega arith)
      (λ i h. condition_marks i (omega arith))
      (λ i h _. rw (get_or-set_other g.latched at i (get_or ns 2 0) 0 (omega arith), get_or-set_other g.desired at i (get_or ns 3 0) 0 (omega arith)))
      (λ i h k. by (is_condition g i) (λ y. absurd (omega (arith, condition_below i y))) (λ y. y))
      (ap (λ (x : ℕ). eqb x 1) (get_or-set_same g.present at 1 0 (omega arith)) ∙ eq-eqb 1 1 refl)
      (λ i h k. sym (condition_marks i (omega arith)) ∙ by (is_condition g i) (λ y. absurd (omega (arith, condition_below i y))) (λ y. y))
      ∙ ap (λ (r : Line). part_c g ++ (r ∷ []))
      (rw (d, e, get_or-set_same g.latched at (get_or ns 2 0) 0 (omega arith), get_or-set_same g.desired at (get_or ns 3 0) 0 (omega arith)) (ap (line 3) (four ns w.count))) in
      snoc_2 (line 3 ns) (rig_line g) (part_t g m) (part_c g) (part_a g) (part_m t) (part_b g) (part_c conditioned.rig) (no_lines p (built g t m) u (omega arith)) (no_flags p (built g t m) u (omega arith)) (no_rows p (built g t m) u (omega arith)) more

  pub condition_upto : Upto (place_in_order 3 ns) conditioned
  condition_upto =
      let s = condition_size in
      let q = condition_rank in
      let l = condition_after in
      let o = u.whole in
      record {
        whole = record {
          controller = o.controller;
          priority = o.priority;
          privileged = o.privileged;
          activation = o.activation;
          present = simp length-set o.present;
          latched = simp length-set o.latched;
          desired = simp length-set o.desired;
          line_task = o.line_task;
          line_pos = o.line_pos;
          line_flag = o.line_flag;
          row = o.row;
          table = o.table;
          cells = o.cells;
          tline = o.tline;
          inside = o.inside;
        };
        begun = omega arith;
        tasks = λ i e. let z = u.tasks i e in (z.0, omega (arith, z.1));
        under = λ e i h. u.under (kept_mark e) i h;
        conditions = λ i e. by (eqb i at)
            (λ y. let z = eqb-true i at y in omega arith)
            (λ y. omega (arith, u.conditions i (condition_marks i (eqb-false i at y) ∙ e)));
        lines = λ h. u.lines (omega arith);
        flags = λ c n h k e. omega (arith, u.flags c n h k e);
        inside = u.inside;
        rows = λ h. u.rows (omega arith);
      }

-- ---- A

module _ (p : ℕ) (g : Rig) (t : List (List ℕ)) (m : Marks) (ns : List ℕ) (a : ℕ) (u : Upto p (built g t m)) (w : Fine p 4 ns) (kept_mark : a ≡ 0 → m.above ≡ 0) (room : g.lines < 1024) where
  line_size : (get_or ns 0 0 ≤ 64) × (get_or ns 1 0 ≤ 15) × (get_or ns 2 0 ≤ 128)
  unfolding high_of highs count_of counts
  line_size = (w.high 0 (omega arith), w.high 1 (omega arith), w.high 2 (omega arith))

  line_rank : (67108864 ≤ place_in_order 4 ns) × (place_in_order 4 ns < 83886080)
  unfolding place_in_order keyed keys_of keys
  line_rank = let s = line_size in (omega arith, omega arith)

  abbrev lined : Built
  lined = built (with_line g g.lines (numbers ns)) t (with_above m a)

  line_after : p < place_in_order 4 ns
  line_after = let b = u.begun in later p 4 (place_in_order 4 ns) (omega arith) (omega arith) w.order

  pub line_lines : lines_built lined ≡ lines_built (built g t m) ++ (line 4 ns ∷ [])
  unfolding lines_built count_of counts
  line_lines =
      let q = line_rank in
      let l = line_after in
      let o = u.whole in
      let c1 = o.line_task in let c2 = o.line_pos in let c3 = o.line_flag in
      let more : part_a lined.rig ≡ part_a g ++ (line 4 ns ∷ []) =
      kept_more 1024 g.lines (is_line g) (is_line lined.rig) (flag_line g) (flag_line lined.rig) room
      (λ i h. lt-ltb i g.lines h ∙ sym (lt-ltb i (g.lines + 1) (omega arith)))
      (λ i h _. rw (get_or-set_other g.line_task g.lines i (get_or ns 0 0) 0 (omega arith), get_or-set_other g.line_pos g.lines i (get_or ns 1 0) 0 (omega arith), get_or-set_other g.line_flag g.lines i (get_or ns 2 0) 0 (omega arith)))
      (λ i h k. le-ltb i g.lines h)
      (lt-ltb g.lines (g.lines + 1) (omega arith))
      (λ i h k. le-ltb i (g.lines + 1) (omega arith))
      ∙ ap (λ (r : Line). part_a g ++ (r ∷ []))
      (rw (get_or-set_same g.line_task g.lines (get_or ns 0 0) 0 (omega arith), get_or-set_same g.line_pos g.lines (get_or ns 1 0) 0 (omega arith), get_or-set_same g.line_flag g.lines (get_or ns 2 0) 0 (omega arith)) (ap (line 4) (three ns w.count))) in
      snoc_3 (line 4 ns) (rig_line g) (part_t g m) (part_c g) (part_a g) (part_m t) (part_b g) (part_a lined.rig) (no_flags p (built g t m) u (omega arith)) (no_rows p (built g t m) u (omega arith)) more

  pub line_upto : Upto (place_in_order 4 ns) lined
  line_upto =
      let q = line_rank in
      let l = line_after in
      let o = u.whole in
      record {
        whole = record {
          controller = o.controller;
          priority = o.priority;
          privileged = o.privileged;
          activation = o.activation;
          present = o.present;
          latched = o.latched;
          desired = o.desired;
          line_task = simp length-set o.line_task;
          line_pos = simp length-set o.line_pos;
          line_flag = simp length-set o.line_flag;
          row = o.row;
          table = o.table;
          cells = o.cells;
          tline = o.tline;
          inside = o.inside;
        };
        begun = omega arith;
        tasks = λ i e. let z = u.tasks i e in (z.0, omega (arith, z.1));
        under = λ e i h. u.under (kept_mark e) i h;
        conditions = λ i e. omega (arith, u.conditions i e);
        lines = λ h. absurd (omega arith);
        flags = λ c n h k e. omega (arith, u.flags c n h k e);
        inside = u.inside;
        rows = λ h. u.rows (omega arith);
      }

-- ---- B

module _ (p : ℕ) (g : Rig) (t : List (List ℕ)) (m : Marks) (ns : List ℕ) (a : ℕ) (u : Upto p (built g t m)) (w : Fine p 6 ns) (kept_mark : a ≡ 0 → m.above ≡ 0) (room : g.rows < 64) where
  row_rank : place_in_order 6 ns ≡ 100663296
  unfolding place_in_order keyed keys_of keys
  row_rank = refl

  abbrev rowed : Built
  rowed = built (with_row g g.rows (row_of (numbers ns))) t (with_above m a)

  row_after : p ≤ place_in_order 6 ns
  row_after = let b = u.begun in later_row p 6 (place_in_order 6 ns) (omega arith) refl w.order

  pub row_lines : lines_built rowed ≡ lines_built (built g t m) ++ (line 6 ns ∷ [])
  unfolding lines_built count_of counts row_of
  row_lines =
      let o = u.whole in
      let c1 = o.row in
      let more : part_b rowed.rig ≡ part_b g ++ (line 6 ns ∷ []) =
      kept_more 64 g.rows (is_row g) (is_row rowed.rig) (row_line g) (row_line rowed.rig) room
      (λ i h. lt-ltb i g.rows h ∙ sym (lt-ltb i (g.rows + 1) (omega arith)))
      (λ i h _. ap (λ (b : Row). line 6 (bus_numbers b)) (sym (get_or-set_other g.row g.rows i (row_of (numbers ns)) no_row (omega arith))))
      (λ i h k. le-ltb i g.rows h)
      (lt-ltb g.rows (g.rows + 1) (omega arith))
      (λ i h k. le-ltb i (g.rows + 1) (omega arith))
      ∙ ap (λ (r : Line). part_b g ++ (r ∷ []))
      (ap (λ (b : Row). line 6 (bus_numbers b)) (get_or-set_same g.row g.rows (row_of (numbers ns)) no_row (omega arith)) ∙ ap (line 6) (seven ns w.count)) in
      snoc_5 (line 6 ns) (rig_line g) (part_t g m) (part_c g) (part_a g) (part_m t) (part_b g) (part_b rowed.rig) more

  pub row_upto : Upto (place_in_order 6 ns) rowed
  row_upto =
      let q = row_rank in
      let l = row_after in
      let o = u.whole in
      record {
        whole = record {
          controller = o.controller;
          priority = o.priority;
          privileged = o.privileged;
          activation = o.activation;
          present = o.present;
          latched = o.latched;
          desired = o.desired;
          line_task = o.line_task;
          line_pos = o.line_pos;
          line_flag = o.line_flag;
          row = simp length-set o.row;
          table = o.table;
          cells = o.cells;
          tline = o.tline;
          inside = o.inside;
        };
        begun = omega arith;
        tasks = λ i e. let z = u.tasks i e in (z.0, omega (arith, z.1));
        under = λ e i h. u.under (kept_mark e) i h;
        conditions = λ i e. omega (arith, u.conditions i e);
        lines = λ h. absurd (omega arith);
        flags = λ c n h k e. omega (arith, u.flags c n h k e);
        inside = u.inside;
        rows = λ h. absurd (omega arith);
      }

-- ---- M

-- a flag put at one place changes no other
module _ (t : List (List ℕ)) (c n f : ℕ) (a : c < length t) (b : n < length (get_or t c [])) where
  pub cell_here : cell (put_flag t c n f) c n ≡ f
  cell_here = rw (get_or-set_same t c (set (get_or t c []) n f) [] a) (get_or-set_same (get_or t c []) n f 0 b)

  pub cell_else : (d i : ℕ) → ((d ≡ c) × (i ≡ n) → ⊥) → cell (put_flag t c n f) d i ≡ cell t d i
  cell_else d i k =
      by (eqb d c)
      (λ e. let z = eqb-true d c e in
      let y : i ≢ n = λ q. k (z, q) in
      rw (z, get_or-set_same t c (set (get_or t c []) n f) [] a) (get_or-set_other (get_or t c []) n i f 0 y))
      (λ e. rw (get_or-set_other t c d (set (get_or t c []) n f) [] (eqb-false d c e)))

  pub cell_long : (d : ℕ) → length (get_or (put_flag t c n f) d []) ≡ length (get_or t d [])
  cell_long d =
      by (eqb d c)
      (λ e. let z = eqb-true d c e in rw (z, get_or-set_same t c (set (get_or t c []) n f) [] a, length-set))
      (λ e. rw (get_or-set_other t c d (set (get_or t c []) n f) [] (eqb-false d c e)))

module _ (p : ℕ) (g : Rig) (t : List (List ℕ)) (m : Marks) (ns : List ℕ) (a : ℕ) (u : Upto p (built g t m)) (w : Fine p 5 ns) (kept_mark : a ≡ 0 → m.above ≡ 0)
    (room : get_or m.inside (get_or ns 0 0) 0 < 15) where
  flag_size : (get_or ns 0 0 ≤ 63) × (1 ≤ get_or ns 1 0) × (get_or ns 1 0 ≤ 128)
  unfolding low_of high_of lows highs count_of counts
  flag_size = (w.high 0 (omega arith), w.low 1 (omega arith), w.high 1 (omega arith))

  flag_rank : place_in_order 5 ns ≡ 83886080 + get_or ns 0 0 * 65536 + get_or ns 1 0 * 256
  unfolding place_in_order keyed keys_of keys
  flag_rank = omega arith

  abbrev c : ℕ
  c = get_or ns 0 0

  abbrev n : ℕ
  n = get_or m.inside (get_or ns 0 0) 0

  abbrev j : ℕ
  j = 15 * get_or ns 0 0 + get_or m.inside (get_or ns 0 0) 0

  abbrev flagged : Built
  flagged = built g (put_flag t c n (get_or ns 1 0)) (one_flag (with_above m a) c n)

  flag_after : p < place_in_order 5 ns
  flag_after = let b = u.begun in later p 5 (place_in_order 5 ns) (omega arith) (omega arith) w.order

  in_table : c < length t
  in_table = let o = u.whole.table in let s = flag_size in omega arith

  in_cycle_lem : n < length (get_or t c [])
  in_cycle_lem = let s = flag_size in let o = u.whole.cells c (omega arith) in omega arith

  -- from that place on there was none
  none_from : (i : ℕ) → j ≤ i → i < 960 → table_flag_at t i ≡ 0
  none_from i h k =
      let s = flag_size in let q = flag_rank in let l = flag_after in
      by (eqb (i / 15) c)
      (λ e. u.inside (i / 15) (i % 15) (omega arith) (omega arith) (let z = eqb-true (i / 15) c e in rw z (omega arith)))
      (λ e. let z = eqb-false (i / 15) c e in
      by (eqb (table_flag_at t i) 0)
      (λ y. eqb-true (table_flag_at t i) 0 y)
      (λ y. absurd (let x = u.flags (i / 15) (i % 15) (omega arith) (omega arith) (eqb-false (table_flag_at t i) 0 y) in omega arith)))

  elsewhere : (i : ℕ) → i ≢ j → table_flag_at flagged.table i ≡ table_flag_at t i
  elsewhere i h = cell_else t c n (get_or ns 1 0) in_table in_cycle_lem (i / 15) (i % 15) (λ z. h (let x = z.0 in let y = z.1 in omega arith))

  here : table_flag_at flagged.table j ≡ get_or ns 1 0
  here =
      let d : j / 15 ≡ c = omega arith in
      let e : j % 15 ≡ n = omega arith in
      rw (d, e) (cell_here t c n (get_or ns 1 0) in_table in_cycle_lem)

  pub flag_lines : lines_built flagged ≡ lines_built (built g t m) ++ (line 5 ns ∷ [])
  unfolding lines_built count_of counts
  flag_lines =
      let s = flag_size in
      let q = flag_rank in
      let l = flag_after in
      let d : j / 15 ≡ c = omega arith in
      let more : part_m flagged.table ≡ part_m t ++ (line 5 ns ∷ []) =
      kept_more 960 j (is_flag t) (is_flag flagged.table) (cycle_line t) (cycle_line flagged.table) (omega arith)
      (λ i h. ap (λ (x : ℕ). not (eqb x 0)) (sym (elsewhere i (omega arith))))
      (λ i h _. ap (λ (x : ℕ). line 5 (i / 15 ∷ x ∷ [])) (sym (elsewhere i (omega arith))))
      (λ i h k. ap (λ (x : ℕ). not (eqb x 0)) (none_from i h k))
      (ap (λ (x : ℕ). not (eqb x 0)) here ∙ rw (ne_eqb (get_or ns 1 0) 0 (omega arith)))
      (λ i h k. ap (λ (x : ℕ). not (eqb x 0)) (elsewhere i (omega arith) ∙ none_from i (omega arith) k))
      ∙ ap (λ (r : Line). part_m t ++ (r ∷ []))
      (ap₂ (λ (x y : ℕ). line 5 (x ∷ y ∷ [])) d here ∙ ap (line 5) (two ns w.count)) in
      snoc_4 (line 5 ns) (rig_line g) (part_t g m) (part_c g) (part_a g) (part_m t) (part_b g) (part_m flagged.table) (no_rows p (built g t m) u (omega arith)) more

  pub flag_upto : Upto (place_in_order 5 ns) flagged
  flag_upto =
      let s = flag_size in
      let q = flag_rank in
      let l = flag_after in
      let o = u.whole in
      let ins = o.inside in
      record {
        whole = record {
          controller = o.controller;
          priority = o.priority;
          privileged = o.privileged;
          activation = o.activation;
          present = o.present;
          latched = o.latched;
          desired = o.desired;
          line_task = o.line_task;
          line_pos = o.line_pos;
          line_flag = o.line_flag;
          row = o.row;
          table = simp length-set o.table;
          cells = λ d h. cell_long t c n (get_or ns 1 0) in_table in_cycle_lem d ∙ o.cells d h;
          tline = o.tline;
          inside = simp length-set o.inside;
        };
        begun = omega arith;
        tasks = λ i e. let z = u.tasks i e in (z.0, omega (arith, z.1));
        under = λ e i h. u.under (kept_mark e) i h;
        conditions = λ i e. omega (arith, u.conditions i e);
        lines = λ h. absurd (omega arith);
        flags = λ d i h k e. by (eqb d c)
            (λ y. let z = eqb-true d c y in omega arith)
            (λ y. let z = eqb-false d c y in
            let x = u.flags d i h k (λ r. e (cell_else t c n (get_or ns 1 0) in_table in_cycle_lem d i (λ v. z v.0) ∙ r)) in omega arith);
        inside = λ d i h k e. by (eqb d c)
            (λ y. let z = eqb-true d c y in
            let f : n + 1 ≤ i = rw (z, get_or-set_same m.inside c (n + 1) 0 (omega arith)) at e in
            cell_else t c n (get_or ns 1 0) in_table in_cycle_lem d i (λ v. let x = v.1 in omega arith) ∙ u.inside d i h k (rw z (omega arith)))
            (λ y. let z = eqb-false d c y in
            let f : get_or m.inside d 0 ≤ i = rw (get_or-set_other m.inside c d (n + 1) 0 z) at e in
            cell_else t c n (get_or ns 1 0) in_table in_cycle_lem d i (λ v. z v.0) ∙ u.inside d i h k f);
        rows = λ h. u.rows (omega arith);
      }
