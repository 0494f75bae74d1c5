-- WRITING WHAT WAS READ GIVES THE SAME BYTES.
--     same_bytes    of an accepted file, the file of its rig is that file
--     one_file      two accepted files with one rig are one file
-- Assumes nothing.
use Rattle.std.specs.Prelude.{ℕ, zero, suc, ◌+◌, ◌≤◌, ◌<◌, ◌≡◌, ◌≢◌, true, List, [], ◌∷◌, ◌++◌, eqb, leb, length, get_or}
use Rattle.std.proofs.Math.Path.{refl, ap}
use Rattle.std.proofs.Common.{sym, ap₂, ◌∙◌, subst, append_assoc, append-nil, add-one, eqb-true, le-leb, leb-true}
use Rattle.std.proofs.lemmas.Bool.{false≢true}
use native.Mathlib.Omega.{arith}
use Rattle.std.proofs.lemmas.List.{get_or-replicate, length-replicate}
use Rattle.laws.specs.Cases.{by}
use Rattle.laws.specs.All.{all}
use Rattle.laws.specs.Laws.All.{all_at, all_of_at, and_left, and_right}
use Rattle.laws.specs.First.{first_false}
use Rattle.laws.specs.Laws.First.{first_all}
use Rattle.rig.specs.declared.Cycle.{Cycle}
use Rattle.rig.specs.declared.Rig.{Rig}
use Rattle.rig.specs.Rules.{no_row}
use Rattle.rig_tables.specs.Tests.{place}
use Rattle.rig.specs.Forms.{cycles_of, table_of}
use Rattle.rig_lines.specs.Kinds.{counts, count_of, keys, keys_of, lows, low_of, highs, high_of, keyed, place_in_order}
use Rattle.rig_lines.specs.Line.{Line, placed, judge}
use Rattle.rig_lines.specs.Laws.Judged.{Faultless, judged_sound, shaped_known}
use Rattle.rig_lines.specs.Text.{text}
use Rattle.rig_lines.specs.File.{lines_of}
use Rattle.rig_lines.proofs.Laws.RoundTrip.{written, some_line}
use Rattle.rig_round_trips.specs.Built.{Marks, Built, built, numbers, no_marks, no_table, nothing, under_one, above_after, with_above, with_task, with_condition, with_line, with_row, row_of, has_line, one_flag, put_flag, store, build}
use Rattle.rig_build.specs.declared.Answer.{Answer}
use Rattle.rig_fill.specs.OfLines.{zeros}
use Rattle.laws.specs.Laws.Tables.{zeros_at}
use Rattle.rig_round_trips.specs.Cases.{by_cases}
use Rattle.rig_round_trips.specs.MarkTests.{marked_one, mark_tests}
use Rattle.rig_round_trips.specs.Marked.{not_rig, tasks_most, begun, after_rig, marks_say}
use Rattle.rig_lines.specs.Whole.{line_tests}
use Rattle.rig_lines.proofs.Laws.Order.{first_rig}
use Rattle.rig_fill.specs.OfLines.{rig_from, table_from}
use Rattle.rig_build.specs.Read.{broken_rule, read_computed}
use Rattle.rig_round_trips.specs.Bridge.{built_rig, built_table}
use Rattle.rig_build.specs.Laws.Exactly.{all_right, number_none}
use Rattle.rig_write.specs.File.{line, rig_line, is_task, task_line, lines_from, file_of}
use Rattle.rig_round_trips.specs.Kept.{kept_same}
use Rattle.rig_round_trips.specs.Back.{has_t, part_c, part_a, part_m, part_b, lines_built, Upto, no_tasks, no_conditions, no_lines, no_flags, no_rows}
use Rattle.rig_round_trips.specs.Steps.{Fine, fine, four, task_lines, task_upto, condition_lines, condition_upto, line_lines, line_upto, row_lines, row_upto, flag_lines, flag_upto}

above_kept : (old k n : ℕ) (v : ℕ → ℕ) (tasks flags : ℕ) → above_after old k n v tasks flags ≡ 0 → old ≡ 0
unfolding above_after
above_kept old k n v tasks flags e =
    by (all n (under_one tasks flags k v)) (λ t. rw t at e) (λ t. let z : ◌≡◌ {A = ℕ} 1 0 = rw t at e in absurd (omega arith))

-- ---- one line more

module _ (p : ℕ) (b : Built) (ns : List ℕ) (u : Upto p b) where
  Result : ℕ → Built → Type 0
  Result k x = x.marks.lines ≡ 0 → x.marks.rows ≡ 0 → x.marks.crowded ≡ 0 → (lines_built x ≡ lines_built b ++ (line k ns ∷ [])) × Upto (place_in_order k ns) x

  mark : ℕ → ℕ
  mark k = above_after b.marks.above k (count_of k) (numbers ns) b.rig.tasks b.rig.flags

  kept_mark : (k : ℕ) → mark k ≡ 0 → b.marks.above ≡ 0
  unfolding mark
  kept_mark k e = above_kept b.marks.above k (count_of k) (numbers ns) b.rig.tasks b.rig.flags e

  -- a kind that is known is written for the variable
  known : (c k : ℕ) (x : ℕ → Built) → k ≡ c → (Fine p c ns → Result c (x (mark c))) → Fine p k ns → Result k (x (mark k))
  known c k x e f = subst (λ (i : ℕ). Fine p i ns → Result i (x (mark i))) (sym e) f

  step : (k : ℕ) → (k ≡ 1 → ⊥) → 0 < k → Fine p k ns → Result k (store b k (numbers ns))
  unfolding store Result mark known
  step k n z w =
      by_cases (Result k) k b.rig b.table (with_above b.marks (mark k)) (numbers ns)
      (record {
        counts = λ e. absurd (n e);
        task = λ e. known 2 k (λ a. built (with_task b.rig (get_or ns 0 0) (numbers ns)) b.table (has_line (with_above b.marks a) (get_or ns 0 0))) e
            (λ f _ _ _. (task_lines p b.rig b.table b.marks ns (mark 2) u f refl, task_upto p b.rig b.table b.marks ns (mark 2) u f refl)) w;
        condition = λ e. known 3 k (λ a. built (with_condition b.rig (place (get_or ns 0 0) (get_or ns 1 0)) (numbers ns)) b.table (with_above b.marks a)) e
            (λ f _ _ _. (condition_lines p b.rig b.table b.marks ns (mark 3) u f (kept_mark 3), condition_upto p b.rig b.table b.marks ns (mark 3) u f (kept_mark 3))) w;
        line = λ e h. known 4 k (λ a. built (with_line b.rig b.rig.lines (numbers ns)) b.table (with_above b.marks a)) e
            (λ f _ _ _. (line_lines p b.rig b.table b.marks ns (mark 4) u f (kept_mark 4) h, line_upto p b.rig b.table b.marks ns (mark 4) u f (kept_mark 4) h)) w;
        many = λ _ _ e _ _. absurd (omega arith);
        flag = λ e h. known 5 k (λ a. built b.rig (put_flag b.table (get_or ns 0 0) (get_or b.marks.inside (get_or ns 0 0) 0) (get_or ns 1 0)) (one_flag (with_above b.marks a) (get_or ns 0 0) (get_or b.marks.inside (get_or ns 0 0) 0))) e
            (λ f _ _ _. (flag_lines p b.rig b.table b.marks ns (mark 5) u f (kept_mark 5) h, flag_upto p b.rig b.table b.marks ns (mark 5) u f (kept_mark 5) h)) w;
        crowded = λ _ _ _ _ e. absurd (omega arith);
        row = λ n4 n5 n2 n1 n3 h. known 6 k (λ a. built (with_row b.rig b.rig.rows (row_of (numbers ns))) b.table (with_above b.marks a)) (six k z w.sort n1 n2 n3 n4 n5)
            (λ f _ _ _. (row_lines p b.rig b.table b.marks ns (mark 6) u f (kept_mark 6) h, row_upto p b.rig b.table b.marks ns (mark 6) u f (kept_mark 6) h)) w;
        rows = λ _ _ _ _ _ _ _ e _. absurd (omega arith);
      })
    where
      six : (k : ℕ) → 0 < k → k < 7 → (k ≡ 1 → ⊥) → (k ≡ 2 → ⊥) → (k ≡ 3 → ⊥) → (k ≡ 4 → ⊥) → (k ≡ 5 → ⊥) → k ≡ 6
      six k z f a b c d e = omega arith

-- ---- marks that stay

back_lines : (b : Built) (k : ℕ) (v : ℕ → ℕ) → (store b k v).marks.lines ≡ 0 → b.marks.lines ≡ 0
unfolding store
back_lines b k v =
    by_cases (λ x. x.marks.lines ≡ 0 → b.marks.lines ≡ 0) k b.rig b.table (with_above b.marks (above_after b.marks.above k (count_of k) v b.rig.tasks b.rig.flags)) v
    (record {
      counts = λ _ e. e;
      task = λ _ e. e;
      condition = λ _ e. e;
      line = λ _ _ e. e;
      many = λ _ _ e. absurd (omega arith);
      flag = λ _ _ e. e;
      crowded = λ _ _ e. e;
      row = λ _ _ _ _ _ _ e. e;
      rows = λ _ _ _ _ _ _ e. e;
    })

back_rows : (b : Built) (k : ℕ) (v : ℕ → ℕ) → (store b k v).marks.rows ≡ 0 → b.marks.rows ≡ 0
unfolding store
back_rows b k v =
    by_cases (λ x. x.marks.rows ≡ 0 → b.marks.rows ≡ 0) k b.rig b.table (with_above b.marks (above_after b.marks.above k (count_of k) v b.rig.tasks b.rig.flags)) v
    (record {
      counts = λ _ e. e;
      task = λ _ e. e;
      condition = λ _ e. e;
      line = λ _ _ e. e;
      many = λ _ _ e. e;
      flag = λ _ _ e. e;
      crowded = λ _ _ e. e;
      row = λ _ _ _ _ _ _ e. e;
      rows = λ _ _ _ _ _ _ e. absurd (omega arith);
    })

back_crowded : (b : Built) (k : ℕ) (v : ℕ → ℕ) → (store b k v).marks.crowded ≡ 0 → b.marks.crowded ≡ 0
unfolding store
back_crowded b k v =
    by_cases (λ x. x.marks.crowded ≡ 0 → b.marks.crowded ≡ 0) k b.rig b.table (with_above b.marks (above_after b.marks.above k (count_of k) v b.rig.tasks b.rig.flags)) v
    (record {
      counts = λ _ e. e;
      task = λ _ e. e;
      condition = λ _ e. e;
      line = λ _ _ e. e;
      many = λ _ _ e. e;
      flag = λ _ _ e. e;
      crowded = λ _ _ e. absurd (omega arith);
      row = λ _ _ _ _ _ _ e. e;
      rows = λ _ _ _ _ _ _ e. e;
    })

-- nothing that only the lines show is marked
record Clean (b : Built) : Type 0 where
  lines : b.marks.lines ≡ 0
  rows : b.marks.rows ≡ 0
  crowded : b.marks.crowded ≡ 0

clean_before : (rs : List Line) (b : Built) → Clean (build b rs) → Clean b
unfolding build
clean_before [] b w = w
clean_before (r ∷ rs) b w =
    let i = clean_before rs (store b r.kind (numbers r.nums)) w in
    record {
      lines = back_lines b r.kind (numbers r.nums) i.lines;
      rows = back_rows b r.kind (numbers r.nums) i.rows;
      crowded = back_crowded b r.kind (numbers r.nums) i.crowded;
    }

-- ---- all lines

lines_back : (rs : List Line) (p : ℕ) (b : Built) → Upto p b → Faultless p rs → Clean (build b rs) →
    (lines_built (build b rs) ≡ lines_built b ++ rs) × (q : ℕ) × Upto q (build b rs)
unfolding build Result placed
lines_back [] p b u w c = (sym (append-nil (lines_built b)), p, u)
lines_back (r ∷ rs) p b u w c =
    let n = not_rig p r u.begun w.1 in
    let k = shaped_known r (judged_sound p r w.1).shape in
    let f = fine p r w.0 w.1 in
    let x = store b r.kind (numbers r.nums) in
    let d = clean_before rs (store b r.kind (numbers r.nums)) c in
    let s = step p b r.nums u r.kind n k f d.lines d.rows d.crowded in
    let i = lines_back rs (place_in_order r.kind r.nums) (store b r.kind (numbers r.nums)) s.1 w.2 c in
    (i.0 ∙ (ap (λ (l : List Line). l ++ rs) s.0 ∙ append_assoc (lines_built b) (r ∷ []) rs), i.1, i.2)

-- ---- the first line

none_of : (x : ℕ) → x ≡ 0 → eqb x 1 ≡ true → ⊥
none_of x e t = let z = eqb-true x 1 t in omega arith

first_upto : (ns : List ℕ) (p : ℕ) → p ≡ 16777216 → Upto p (begun (numbers ns))
unfolding no_marks no_table
first_upto ns p e =
    record {
      whole = record {
        controller = length-replicate {A = ℕ} 65 0;
        priority = length-replicate {A = ℕ} 65 0;
        privileged = length-replicate {A = ℕ} 65 0;
        activation = length-replicate {A = ℕ} 65 0;
        present = length-replicate {A = ℕ} 1040 0;
        latched = length-replicate {A = ℕ} 1040 0;
        desired = length-replicate {A = ℕ} 1040 0;
        line_task = length-replicate {A = ℕ} 1024 0;
        line_pos = length-replicate {A = ℕ} 1024 0;
        line_flag = length-replicate {A = ℕ} 1024 0;
        row = length-replicate 64 no_row;
        table = length-replicate 64 (zeros 15);
        cells = λ c h. ap length (get_or-replicate 64 c (zeros 15) [] h) ∙ length-replicate {A = ℕ} 15 0;
        tline = length-replicate {A = ℕ} 65 0;
        inside = length-replicate {A = ℕ} 64 0;
      };
      begun = omega arith;
      tasks = λ t h. absurd (none_of (get_or (zeros 65) t 0) (zeros_at 65 t) h);
      under = λ _ t h. absurd (none_of (get_or (zeros 65) t 0) (zeros_at 65 t) h);
      conditions = λ i h. absurd (none_of (get_or (zeros 1040) i 0) (zeros_at 1040 i) h);
      lines = λ _. refl;
      flags = λ c n h k f. absurd (f (ap (λ (l : List ℕ). get_or l n 0) (get_or-replicate 64 c (zeros 15) [] h) ∙ zeros_at 15 n));
      inside = λ c n h k _. ap (λ (l : List ℕ). get_or l n 0) (get_or-replicate 64 c (zeros 15) [] h) ∙ zeros_at 15 n;
      rows = λ _. refl;
    }

first_lines : (r : Line) → judge 0 r ≡ 0 → r.kind < 7 → r.kind ≡ 1 → lines_built (begun (numbers r.nums)) ≡ r ∷ []
unfolding lines_built low_of high_of lows highs count_of counts
first_lines r e h d =
    let f = fine 0 r h e in
    let c : length r.nums ≡ 4 = f.count ∙ ap count_of d in
    let l : 1 ≤ get_or r.nums 0 0 = rw d at (f.low 0 (rw d (omega arith))) in
    let g : get_or r.nums 0 0 ≤ 1 = rw d at (f.high 0 (rw d (omega arith))) in
    let q : get_or r.nums 0 0 ≡ 1 = omega arith in
    let u = first_upto r.nums 16777216 refl in
    let x : line 1 (1 ∷ get_or r.nums 1 0 ∷ get_or r.nums 2 0 ∷ get_or r.nums 3 0 ∷ []) ≡ r =
    ap (λ (y : ℕ). line 1 (y ∷ get_or r.nums 1 0 ∷ get_or r.nums 2 0 ∷ get_or r.nums 3 0 ∷ [])) (sym q) ∙ (ap (line 1) (four r.nums c) ∙ ap (λ (y : ℕ). line y r.nums) (sym d)) in
    rw (
      no_tasks 16777216 (begun (numbers r.nums)) u (omega arith),
      no_conditions 16777216 (begun (numbers r.nums)) u (omega arith),
      no_lines 16777216 (begun (numbers r.nums)) u (omega arith),
      no_flags 16777216 (begun (numbers r.nums)) u (omega arith),
      no_rows 16777216 (begun (numbers r.nums)) u (omega arith),
    ) (ap (λ (y : Line). y ∷ []) x)

-- ---- the theorem

-- the cycles as row structs and as an array of arrays are the same
pub table_back : (t : List (List ℕ)) → table_of (cycles_of t) ≡ t
unfolding table_of cycles_of
table_back [] = refl
table_back (x ∷ xs) = ap (λ (l : List (List ℕ)). x ∷ l) (unfold table_of cycles_of in table_back xs)

-- the five tests of the marks hold where no rule of the lines is broken
tests_hold : (m : Marks) (tasks : ℕ) → first_false 1 (mark_tests m tasks) ≡ 0 →
    (m.above ≡ 0) × (m.lines ≡ 0) × (m.rows ≡ 0) × (all tasks (marked_one m.tline) ≡ true) × (m.crowded ≡ 0)
unfolding mark_tests
tests_hold m tasks e =
    let a = first_all 1 (eqb m.above 0 ∷ eqb m.lines 0 ∷ eqb m.rows 0 ∷ all tasks (marked_one m.tline) ∷ eqb m.crowded 0 ∷ []) (omega arith) e in
    let f = all_of_at (eqb m.above 0 ∷ eqb m.lines 0 ∷ eqb m.rows 0 ∷ all tasks (marked_one m.tline) ∷ eqb m.crowded 0 ∷ []) a in
    (eqb-true m.above 0 (f 0), eqb-true m.lines 0 (f 1), eqb-true m.rows 0 (f 2), f 3, eqb-true m.crowded 0 (f 4))

-- a task has its T line exactly when it is one of the rig's
lines_from_lem : (p : ℕ) (b : Built) → Upto p b → b.marks.above ≡ 0 → all b.rig.tasks (marked_one b.marks.tline) ≡ true → lines_built b ≡ lines_from b.rig b.table
unfolding lines_built lines_from
lines_from_lem p b u a t =
    ap (λ (l : List Line). rig_line b.rig ∷ (l ++ (part_c b.rig ++ (part_a b.rig ++ (part_m b.table ++ part_b b.rig)))))
    (kept_same 65 (has_t b.marks) (is_task b.rig) (task_line b.rig) (task_line b.rig) same (λ i h e. refl))
  where
    there : (i : ℕ) → is_task b.rig i ≡ true → has_t b.marks i ≡ true
    there zero e = let z = leb-true 1 0 (and_left (leb 1 0) (leb 0 b.rig.tasks) e) in absurd (omega arith)
    there (suc i) e =
        let z = leb-true (suc i) b.rig.tasks (and_right (leb 1 (suc i)) (leb (suc i) b.rig.tasks) e) in
        rw add-one at (all_at b.rig.tasks (marked_one b.marks.tline) t i (omega arith))

    back : (i : ℕ) → has_t b.marks i ≡ true → is_task b.rig i ≡ true
    back i e = rw (le-leb 1 i (u.tasks i e).0, le-leb i b.rig.tasks (u.under a i e))

    same : (i : ℕ) → i < 65 → has_t b.marks i ≡ is_task b.rig i
    same i _ =
        by (has_t b.marks i)
        (λ e. e ∙ sym (back i e))
        (λ e. e ∙ sym (by (is_task b.rig i) (λ d. absurd (false≢true (sym e ∙ there i d))) (λ d. d)))

-- of an accepted file: no rule of its lines is broken
rule_none : (n : ℕ) (g : Rig) (cycles : List Cycle) → broken_rule n g cycles ≡ 0 → n ≡ 0
unfolding broken_rule
rule_none n g cycles e = by (eqb n 0) (λ t. eqb-true n 0 t) (λ t. rw t at e)

module _ (r : Line) (rs : List Line) (f : Faultless 0 (r ∷ rs)) (none : first_false 1 (line_tests (r ∷ rs)) ≡ 0) where
  kind : r.kind ≡ 1
  kind = first_rig r f.1

  from : build nothing (r ∷ rs) ≡ build (begun (numbers r.nums)) rs
  unfolding build
  from = ap (λ (b : Built). build b rs) (after_rig r.kind (numbers r.nums) kind)

  first_place : placed r ≡ 16777216
  unfolding placed place_in_order keyed keys_of keys
  first_place = rw kind

  pub lines_kept : lines_from (build nothing (r ∷ rs)).rig (build nothing (r ∷ rs)).table ≡ r ∷ rs
  lines_kept =
      let m = marks_say r rs kind f.2 (tasks_most 0 r f.1 kind) in
      let h = tests_hold (build nothing (r ∷ rs)).marks (build nothing (r ∷ rs)).rig.tasks (ap (first_false 1) m ∙ none) in
      let d : Clean (build nothing (r ∷ rs)) = record { lines = h.1; rows = h.2; crowded = h.4 } in
      let c : Clean (build (begun (numbers r.nums)) rs) = subst Clean from d in
      let w = lines_back rs (placed r) (begun (numbers r.nums)) (first_upto r.nums (placed r) first_place) f.2 c in
      let u : Upto w.1 (build nothing (r ∷ rs)) = subst (λ (x : Built). Upto w.1 x) (sym from) w.2 in
      sym (lines_from_lem w.1 (build nothing (r ∷ rs)) u h.0 h.3)
      ∙ (ap lines_built from ∙ (w.0 ∙ ap (λ (l : List Line). l ++ rs) (first_lines r f.1 f.0 kind)))

-- "an accepted file read and written again is the same bytes"
pub same_bytes : (s : List ℕ) → (read_computed s).no ≡ 0 → file_of (read_computed s).rig (table_of (read_computed s).cycles) ≡ s
unfolding file_of
same_bytes s e =
    let n = number_none s e in
    let a = all_right s n.0 n.1 n.2 in
    let w = written s n.1 in
    let l = some_line s n.1 in
    let z : first_false 1 (line_tests (lines_of s)) ≡ 0 = rule_none (first_false 1 (line_tests (lines_of s))) (rig_from (lines_of s)) (cycles_of (table_from (lines_of s))) n.2 in
    let f : Faultless 0 (l.0 ∷ l.1) = subst (Faultless 0) l.2 w.1 in
    let o : first_false 1 (line_tests (l.0 ∷ l.1)) ≡ 0 = subst (λ (x : List Line). first_false 1 (line_tests x) ≡ 0) l.2 z in
    let k = lines_kept l.0 l.1 f o in
    let g : (read_computed s).rig ≡ (build nothing (l.0 ∷ l.1)).rig =
    ap (λ (x : Answer). x.rig) a ∙ (ap rig_from l.2 ∙ sym (built_rig l.0 l.1 f o)) in
    let t : table_of (read_computed s).cycles ≡ (build nothing (l.0 ∷ l.1)).table =
    ap (λ (x : Answer). table_of x.cycles) a ∙ (table_back (table_from (lines_of s)) ∙ (ap table_from l.2 ∙ sym (built_table l.0 l.1 f o))) in
    ap₂ (λ (x : Rig) (y : List (List ℕ)). text (lines_from x y)) g t ∙ (ap text k ∙ (ap text (sym l.2) ∙ sym w.0))

-- "every right rig has exactly one file": two accepted files with one rig and its cycles are one file
pub one_file : (s t : List ℕ) → (read_computed s).no ≡ 0 → (read_computed t).no ≡ 0 → (read_computed s).rig ≡ (read_computed t).rig → (read_computed s).cycles ≡ (read_computed t).cycles → s ≡ t
one_file s t a b g c = sym (same_bytes s a) ∙ (ap₂ (λ (x : Rig) (y : List Cycle). file_of x (table_of y)) g c ∙ same_bytes t b)
