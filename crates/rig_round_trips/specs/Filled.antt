-- The lines of a right rig build that rig.
-- Assumes nothing.
use Prim.Native.Nat.{ℕ, zero, suc, ◌+◌, ◌-◌, ◌*◌, ◌/◌, ◌%◌, ◌≤◌, ◌<◌, min}
use Rattle.std.specs.Prelude.{◌≡◌, ◌≢◌, Bool, cond, eqb, leb, replicate}
use Rattle.std.proofs.Math.Path.{refl, sym, ap, ap₂, subst}
use Rattle.std.proofs.Common.{◌∙◌, get_or-set_same, ext_get_or}
use Rattle.std.proofs.Math.Bool.{true, false, not, true≢false, false≢true}
use mathlib.Core.List.{List, [], ◌∷◌, ◌++◌}
use native.Mathlib.Omega.{arith}
use Rattle.std.proofs.Math.Dec.{ltb}
use Rattle.std.proofs.Math.ListN.{length, get_or, set, length-set, length-replicate}
use Rattle.std.proofs.lemmas.List.{get_or-replicate, length-map}
use Rattle.std.proofs.Math.Seq.{get_or-set_other}
use borrow.Author.Tests.{eqb-true, eqb-false, ne_eqb, lt-ltb, le-ltb, le-leb, ltb-true, ltb-false, leb-true}
use Rattle.laws.specs.Cases.{by}
use Rattle.laws.specs.All.{all}
use Rattle.laws.specs.Laws.All.{and_left, and_right}
use Rattle.rig.specs.declared.Cycle.{Cycle}
use Rattle.rig.specs.declared.Rig.{Rig}
use Rattle.rig.specs.Rules.{no_row, no_cycle, Right}
use Rattle.rig_tables.specs.Tests.{place}
use Rattle.rig_whole.specs.Laws.Tree.{controllers_low}
use Rattle.rig.specs.Forms.{cycle_flags, table_of}
use Rattle.rig_lines.specs.Kinds.{counts, count_of, sorts, sort_of, under}
use Rattle.rig_lines.specs.Line.{Line}
use Rattle.rig_fill.specs.OfLines.{zeros}
use Rattle.rig_round_trips.specs.Built.{Built, built, numbers, no_marks, no_table, under_one, above_after, row_of, put_flag, by_kind, store, build}
use Rattle.laws.specs.Laws.Tables.{zeros_at}
use Rattle.rig_round_trips.specs.Marked.{begun}
use Rattle.rig_write.specs.Kept.{kept}
use Rattle.rig_write.specs.File.{rig_line, is_task, task_line, is_condition, condition_line, is_line, flag_line, table_flag_at, is_flag, cycle_line, is_row, row_line}
use Rattle.rig_write.specs.Laws.Sized.{mapped_at}
use Rattle.rig_round_trips.specs.Back.{cell}
use Rattle.rig_round_trips.specs.Steps.{cell_here, cell_else, cell_long}
use Rattle.rig_round_trips.specs.Ordered.{flag_before, flag_is}

-- ---- a table that is filled from its front

unfoldable fill : {A : Type 0} → A → ℕ → List A → List A
fill d zero l = replicate (length l) d
fill d (suc i) [] = []
fill d (suc i) (x ∷ xs) = x ∷ fill d i xs

fill_set : {A : Type 0} (d : A) (i : ℕ) (l : List A) → i < length l → set (fill d i l) i (get_or l i d) ≡ fill d (suc i) l
unfolding fill
fill_set d i [] h = absurd (omega arith)
fill_set d zero (x ∷ xs) h = refl
fill_set d (suc i) (x ∷ xs) h = ap (λ l. x ∷ l) (fill_set d i xs (omega arith))

fill_skip : {A : Type 0} (d : A) (i : ℕ) (l : List A) → i < length l → get_or l i d ≡ d → fill d i l ≡ fill d (suc i) l
unfolding fill
fill_skip d i [] h e = absurd (omega arith)
fill_skip d zero (x ∷ xs) h e = ap (λ y. y ∷ replicate (length xs) d) (sym e)
fill_skip d (suc i) (x ∷ xs) h e = ap (λ l. x ∷ l) (fill_skip d i xs (omega arith) e)

fill_all : {A : Type 0} (d : A) (n : ℕ) (l : List A) → length l ≤ n → fill d n l ≡ l
unfolding fill
fill_all d zero [] h = refl
fill_all d zero (x ∷ xs) h = absurd (omega arith)
fill_all d (suc n) [] h = refl
fill_all d (suc n) (x ∷ xs) h = ap (λ l. x ∷ l) (fill_all d n xs (omega arith))

fill_none : {A : Type 0} (d : A) (n : ℕ) (l : List A) → length l ≡ n → fill d 0 l ≡ replicate n d
unfolding fill
fill_none d n l e = ap (λ (k : ℕ). replicate k d) e

build_append : (b : Built) (xs ys : List Line) → build b (xs ++ ys) ≡ build (build b xs) ys
unfolding build
build_append b [] ys = refl
build_append b (x ∷ xs) ys = build_append (store b x.kind (numbers x.nums)) xs ys

build_nil : (b : Built) → build b [] ≡ b
unfolding build
build_nil b = refl

build_one : (b : Built) (r : Line) → build b (r ∷ []) ≡ store b r.kind (numbers r.nums)
unfolding build
build_one b r = refl

-- a loop over lines by number: where a line is stored, and where there is none
build_kept : (S : ℕ → Built) (n : ℕ) (q : ℕ → Bool) (f : ℕ → Line) →
    ((i : ℕ) → i < n → q i ≡ true → store (S i) (f i).kind (numbers (f i).nums) ≡ S (suc i)) → ((i : ℕ) → i < n → q i ≡ false → S i ≡ S (suc i)) →
    build (S 0) (kept n q f) ≡ S n
unfolding kept
build_kept S zero q f y n = build_nil (S 0)
build_kept S (suc k) q f y n = go (build_kept S k q f (λ j h. y j (omega arith)) (λ j h. n j (omega arith))) (q k) refl
  where
    go : build (S 0) (kept k q f) ≡ S k → (t : Bool) → q k ≡ t → build (S 0) (kept k q f ++ cond t (f k ∷ []) []) ≡ S (suc k)
    go before true e = build_append (S 0) (kept k q f) (f k ∷ []) ∙ (ap (λ (b : Built). build b (f k ∷ [])) before ∙ (build_one (S k) (f k) ∙ y k (omega arith) e))
    go before false e = build_append (S 0) (kept k q f) [] ∙ (ap (λ (b : Built). build b []) before ∙ (build_nil (S k) ∙ n k (omega arith) e))

-- ---- no number is above the RIG line's

clean : (k n tasks flags : ℕ) (v : ℕ → ℕ) → all n (under_one tasks flags k v) ≡ true → above_after 0 k n v tasks flags ≡ 0
unfolding above_after
clean k n tasks flags v e = rw e

module _ (g : Rig) (cycles : List Cycle) (r : Right g cycles) where
  abbrev table : List (List ℕ)
  table = table_of cycles

  -- T lines so far
  unfoldable pub marked : ℕ → List ℕ
  marked zero = zeros 65
  marked (suc i) = cond (is_task g i) (set (marked i) i 1) (marked i)

  -- flags so far, and how many each cycle has
  unfoldable pub tabled : ℕ → List (List ℕ)
  tabled zero = no_table
  tabled (suc i) = cond (is_flag (table_of cycles) i) (put_flag (tabled i) (i / 15) (i % 15) (table_flag_at (table_of cycles) i)) (tabled i)

  unfoldable pub inside : ℕ → List ℕ
  inside zero = zeros 64
  inside (suc i) = cond (is_flag (table_of cycles) i) (set (inside i) (i / 15) (i % 15 + 1)) (inside i)

  -- what stands after so many places of each kind
  stage : ℕ → ℕ → ℕ → ℕ → ℕ → Built
  stage a b c d e =
      built
      (record {
        tasks = g.tasks;
        flags = g.flags;
        master = g.master;
        lines = min c g.lines;
        rows = min e g.rows;
        controller = fill 0 a g.controller;
        priority = fill 0 a g.priority;
        privileged = fill 0 a g.privileged;
        activation = fill 0 a g.activation;
        present = fill 0 b g.present;
        latched = fill 0 b g.latched;
        desired = fill 0 b g.desired;
        line_task = fill 0 c g.line_task;
        line_pos = fill 0 c g.line_pos;
        line_flag = fill 0 c g.line_flag;
        row = fill no_row e g.row;
      })
      (tabled d)
      (record { above = 0; lines = 0; rows = 0; crowded = 0; tline = marked a; inside = inside d })

  -- T
  task_in : (t : ℕ) → is_task g t ≡ true → (1 ≤ t) × (t ≤ g.tasks)
  task_in t e = (leb-true _ _ (and_left (leb 1 t) (leb t g.tasks) e), leb-true _ _ (and_right (leb 1 t) (leb t g.tasks) e))

  task_clean : (t : ℕ) → t < 65 → is_task g t ≡ true → above_after 0 2 (count_of 2) (numbers (task_line g t).nums) g.tasks g.flags ≡ 0
  task_clean t h e =
      let w = task_in t e in
      let n = r.task_count in
      let c = controllers_low g n.1 r.controllers t w.0 (omega arith) in
      let a = r.activation_numbers t h in
      clean 2 (count_of 2) g.tasks g.flags (numbers (task_line g t).nums)
      (unfold all count_of counts under sort_of sorts in rw (le-leb t g.tasks w.1, le-leb (get_or g.controller t 0) g.tasks (omega arith), le-leb (get_or g.activation t 0) g.flags a))

  tasks_stage : build (stage 0 0 0 0 0) (kept 65 (is_task g) (task_line g)) ≡ stage 65 0 0 0 0
  unfolding stage store by_kind marked tabled inside row_of
  tasks_stage =
      let s = r.shaped in
      build_kept (λ a. stage a 0 0 0 0) 65 (is_task g) (task_line g)
      (λ i h e. let c1 = s.controller in let c2 = s.priority in let c3 = s.privileged in let c4 = s.activation in
      rw (task_clean i h e, e, fill_set 0 i g.controller (omega arith), fill_set 0 i g.priority (omega arith), fill_set 0 i g.privileged (omega arith), fill_set 0 i g.activation (omega arith)))
      (λ i h e. let c1 = s.controller in let c2 = s.priority in let c3 = s.privileged in let c4 = s.activation in
      let z = r.task_zeros i h (no_task i e) in
      rw (e, fill_skip 0 i g.controller (omega arith) z.controller, fill_skip 0 i g.priority (omega arith) z.priority, fill_skip 0 i g.privileged (omega arith) z.privileged, fill_skip 0 i g.activation (omega arith) z.activation))
    where
      no_task : (i : ℕ) → is_task g i ≡ false → (1 ≤ i) × (i ≤ g.tasks) → ⊥
      no_task i e w = true≢false (sym (rw (le-leb 1 i w.0, le-leb i g.tasks w.1)) ∙ e)

  -- C
  condition_in : (i : ℕ) → i < 1040 → is_condition g i ≡ true → i / 16 ≤ g.tasks
  condition_in i h e =
      let d = eqb-true (get_or g.present i 0) 1 e in
      let w = r.condition_numbers i h (λ z. let y : ◌≡◌ {A = ℕ} 1 0 = sym d ∙ z in omega arith) in
      let x = w.1 in omega arith

  condition_clean : (i : ℕ) → i < 1040 → is_condition g i ≡ true → above_after 0 3 (count_of 3) (numbers (condition_line g i).nums) g.tasks g.flags ≡ 0
  condition_clean i h e =
      clean 3 (count_of 3) g.tasks g.flags (numbers (condition_line g i).nums)
      (unfold all count_of counts under sort_of sorts in rw (le-leb (i / 16) g.tasks (condition_in i h e)))

  conditions_stage : build (stage 65 0 0 0 0) (kept 1040 (is_condition g) (condition_line g)) ≡ stage 65 1040 0 0 0
  unfolding stage store by_kind marked tabled inside row_of
  conditions_stage =
      let s = r.shaped in
      build_kept (λ b. stage 65 b 0 0 0) 1040 (is_condition g) (condition_line g)
      (λ i h e. let c1 = s.present in let c2 = s.latched in let c3 = s.desired in
      let d : place (i / 16) (i % 16) ≡ i = omega arith in
      let p = fill_set 0 i g.present (omega arith) in
      let q : set (fill 0 i g.present) i 1 ≡ fill 0 (suc i) g.present = ap (λ (x : ℕ). set (fill 0 i g.present) i x) (sym (eqb-true (get_or g.present i 0) 1 e)) ∙ p in
      rw (condition_clean i h e, d, q, fill_set 0 i g.latched (omega arith), fill_set 0 i g.desired (omega arith)))
      (λ i h e. let c1 = s.present in let c2 = s.latched in let c3 = s.desired in
      let v = r.conditions i h in
      let a = v.present in let b = v.latched in let c = v.desired in
      let n = eqb-false (get_or g.present i 0) 1 e in
      rw (fill_skip 0 i g.present (omega arith) (omega arith), fill_skip 0 i g.latched (omega arith) (omega arith), fill_skip 0 i g.desired (omega arith) (omega arith)))

  -- A
  line_clean : (i : ℕ) → is_line g i ≡ true → above_after 0 4 (count_of 4) (numbers (flag_line g i).nums) g.tasks g.flags ≡ 0
  line_clean i e =
      let w = r.lines i (ltb-true i g.lines e) in
      let a = w.task in let b = w.flag in
      clean 4 (count_of 4) g.tasks g.flags (numbers (flag_line g i).nums)
      (unfold all count_of counts under sort_of sorts in rw (le-leb (get_or g.line_task i 0) g.tasks a.1, le-leb (get_or g.line_flag i 0) g.flags b.1))

  lines_stage : build (stage 65 1040 0 0 0) (kept 1024 (is_line g) (flag_line g)) ≡ stage 65 1040 1024 0 0
  unfolding stage store by_kind marked tabled inside row_of
  lines_stage =
      let s = r.shaped in
      build_kept (λ c. stage 65 1040 c 0 0) 1024 (is_line g) (flag_line g)
      (λ i h e. let c1 = s.line_task in let c2 = s.line_pos in let c3 = s.line_flag in
      let l = ltb-true i g.lines e in
      let d : min i g.lines ≡ i = omega arith in
      let n : i + 1 ≡ min (suc i) g.lines = omega arith in
      rw (line_clean i e, d, lt-ltb i 1024 h, n, fill_set 0 i g.line_task (omega arith), fill_set 0 i g.line_pos (omega arith), fill_set 0 i g.line_flag (omega arith)))
      (λ i h e. let c1 = s.line_task in let c2 = s.line_pos in let c3 = s.line_flag in
      let l = ltb-false i g.lines e in
      let z = r.line_zeros i h l in
      let n : min i g.lines ≡ min (suc i) g.lines = omega arith in
      rw (n, fill_skip 0 i g.line_task (omega arith) z.task, fill_skip 0 i g.line_pos (omega arith) z.position, fill_skip 0 i g.line_flag (omega arith) z.flag))

  -- M
  inside_long : (i : ℕ) → length (inside i) ≡ 64
  unfolding inside
  inside_long zero = length-replicate {A = ℕ} 64 0
  inside_long (suc i) = by (is_flag (table_of cycles) i) (λ e. rw e (simp length-set (inside_long i))) (λ e. rw e (inside_long i))

  -- a cycle of which nothing was read has no flag yet
  inside_none : (i c : ℕ) → i ≤ 15 * c → c < 64 → get_or (inside i) c 0 ≡ 0
  unfolding inside
  inside_none zero c h k = zeros_at 64 c
  inside_none (suc i) c h k =
      by (is_flag (table_of cycles) i)
      (λ e. rw (e, get_or-set_other (inside i) (i / 15) c (i % 15 + 1) 0 (omega arith)) (inside_none i c (omega arith) k))
      (λ e. rw e (inside_none i c (omega arith) k))

  -- a flag comes behind as many as stand before it in its cycle
  inside_at : (i : ℕ) → i < 960 → is_flag (table_of cycles) i ≡ true → get_or (inside i) (i / 15) 0 ≡ i % 15
  unfolding inside
  inside_at zero h e = inside_none 0 0 (omega arith) (omega arith)
  inside_at (suc i) h e =
      by (eqb (suc i % 15) 0)
      (λ q. let z = eqb-true (suc i % 15) 0 q in inside_none (suc i) (suc i / 15) (omega arith) (omega arith) ∙ sym z)
      (λ q. let z = eqb-false (suc i % 15) 0 q in
      let c : suc i / 15 ≡ i / 15 = omega arith in
      let n : suc i % 15 ≡ i % 15 + 1 = omega arith in
      let f : cell (table_of cycles) (i / 15) (i % 15 + 1) ≢ 0 = λ y. false≢true (sym (ap (λ (x : ℕ). not (eqb x 0)) (ap₂ (λ (a b : ℕ). cell (table_of cycles) a b) c n ∙ y)) ∙ e) in
      let b = flag_before g cycles r (i / 15) (i % 15) (omega arith) (omega arith) f in
      let t : is_flag (table_of cycles) i ≡ true = rw (ne_eqb (table_flag_at (table_of cycles) i) 0 b.0) in
      let l = inside_long i in
      rw (t, c, n) (get_or-set_same (inside i) (i / 15) (i % 15 + 1) 0 (omega arith)))

  flag_clean : (i : ℕ) → i < 960 → above_after 0 5 (count_of 5) (numbers (cycle_line (table_of cycles) i).nums) g.tasks g.flags ≡ 0
  flag_clean i h =
      let a = flag_is g cycles r (i / 15) (i % 15) (omega arith) in
      let b = r.cycle_numbers (i / 15) (omega arith) (i % 15) (omega arith) in
      clean 5 (count_of 5) g.tasks g.flags (numbers (cycle_line (table_of cycles) i).nums)
      (unfold all count_of counts under sort_of sorts in rw (le-leb (table_flag_at (table_of cycles) i) g.flags (omega arith)))

  cycles_stage : build (stage 65 1040 1024 0 0) (kept 960 (is_flag (table_of cycles)) (cycle_line (table_of cycles))) ≡ stage 65 1040 1024 960 0
  unfolding stage store by_kind marked tabled inside row_of
  cycles_stage =
      build_kept (λ d. stage 65 1040 1024 d 0) 960 (is_flag (table_of cycles)) (cycle_line (table_of cycles))
      (λ i h e. let n = inside_at i h e in
      let l : ltb (i % 15) 15 ≡ true = lt-ltb (i % 15) 15 (omega arith) in
      rw (flag_clean i h, n, l, e))
      (λ i h e. rw e)

  -- B
  row_clean : (i : ℕ) → above_after 0 6 (count_of 6) (numbers (row_line g i).nums) g.tasks g.flags ≡ 0
  row_clean i = clean 6 (count_of 6) g.tasks g.flags (numbers (row_line g i).nums) (unfold all count_of counts under sort_of sorts in refl)

  rows_stage : build (stage 65 1040 1024 960 0) (kept 64 (is_row g) (row_line g)) ≡ stage 65 1040 1024 960 64
  unfolding stage store by_kind marked tabled inside row_of
  rows_stage =
      let s = r.shaped.row in
      build_kept (λ e. stage 65 1040 1024 960 e) 64 (is_row g) (row_line g)
      (λ i h e. let l = ltb-true i g.rows e in
      let d : min i g.rows ≡ i = omega arith in
      let n : i + 1 ≡ min (suc i) g.rows = omega arith in
      let w : row_of (numbers (row_line g i).nums) ≡ get_or g.row i no_row = refl in
      rw (row_clean i, d, lt-ltb i 64 h, n, w, fill_set no_row i g.row (omega arith)))
      (λ i h e. let l = ltb-false i g.rows e in
      let n : min i g.rows ≡ min (suc i) g.rows = omega arith in
      rw (n, fill_skip no_row i g.row (omega arith) (r.row_zeros i h l)))

  -- ---- the table is whole at the end

  tabled_whole : (i : ℕ) → i ≤ 960 → (length (tabled i) ≡ 64) × ((c : ℕ) → c < 64 → length (get_or (tabled i) c []) ≡ 15)
  unfolding tabled no_table
  tabled_whole zero h = (length-replicate 64 (zeros 15), λ c k. ap length (get_or-replicate 64 c (zeros 15) [] k) ∙ length-replicate {A = ℕ} 15 0)
  tabled_whole (suc i) h =
      let w = tabled_whole i (omega arith) in
      let a = w.0 in
      let b = w.1 (i / 15) (omega arith) in
      by (is_flag (table_of cycles) i)
      (λ e. rw e (simp length-set w.0, λ c k. cell_long (tabled i) (i / 15) (i % 15) (table_flag_at (table_of cycles) i) (omega arith) (omega arith) c ∙ w.1 c k))
      (λ e. rw e w)

  tabled_none : (c n : ℕ) → c < 64 → cell (tabled 0) c n ≡ 0
  unfolding tabled no_table
  tabled_none c n k = ap (λ (x : List ℕ). get_or x n 0) (get_or-replicate 64 c (zeros 15) [] k) ∙ zeros_at 15 n

  tabled_cell : (i : ℕ) → i ≤ 960 → (c n : ℕ) → c < 64 → n < 15 → cell (tabled i) c n ≡ cond (ltb (15 * c + n) i) (cell (table_of cycles) c n) 0
  unfolding tabled
  tabled_cell zero h c n k l = tabled_none c n k ∙ rw (le-ltb (15 * c + n) 0 (omega arith))
  tabled_cell (suc i) h c n k l =
      let w = tabled_whole i (omega arith) in
      let a = w.0 in
      let b = w.1 (i / 15) (omega arith) in
      let x = tabled_cell i (omega arith) c n k l in
      by (eqb (15 * c + n) i)
      (λ q. let z = eqb-true (15 * c + n) i q in
      let d : i / 15 ≡ c = omega arith in
      let m : i % 15 ≡ n = omega arith in
      let t : ltb (15 * c + n) (suc i) ≡ true = lt-ltb (15 * c + n) (suc i) (omega arith) in
      let f : table_flag_at (table_of cycles) i ≡ cell (table_of cycles) c n = ap₂ (λ (u v : ℕ). cell (table_of cycles) u v) d m in
      by (is_flag (table_of cycles) i)
      (λ e. rw (e, t) (ap₂ (λ (u v : ℕ). cell (put_flag (tabled i) (i / 15) (i % 15) (table_flag_at (table_of cycles) i)) u v) (sym d) (sym m) ∙ (cell_here (tabled i) (i / 15) (i % 15) (table_flag_at (table_of cycles) i) (omega arith) (omega arith) ∙ f)))
      (λ e. let y : table_flag_at (table_of cycles) i ≡ 0 = none (table_flag_at (table_of cycles) i) e in
      let v : ltb (15 * c + n) i ≡ false = le-ltb (15 * c + n) i (omega arith) in
      rw (e, t) (x ∙ (rw v (sym y ∙ f)))))
      (λ q. let z = eqb-false (15 * c + n) i q in
      let t : ltb (15 * c + n) i ≡ ltb (15 * c + n) (suc i) = same_test (15 * c + n) i z in
      by (is_flag (table_of cycles) i)
      (λ e. rw (e, ← t) (cell_else (tabled i) (i / 15) (i % 15) (table_flag_at (table_of cycles) i) (omega arith) (omega arith) c n (λ v. let v0 = v.0 in let v1 = v.1 in omega arith) ∙ x))
      (λ e. rw (e, ← t) x))
    where
      none : (f : ℕ) → not (eqb f 0) ≡ false → f ≡ 0
      none f e = by (eqb f 0) (λ t. eqb-true f 0 t) (λ t. absurd (true≢false (rw t at e)))

      same_test : (a i : ℕ) → a ≢ i → ltb a i ≡ ltb a (suc i)
      same_test a i n = by (ltb a i) (λ e. let y = ltb-true a i e in e ∙ sym (lt-ltb a (suc i) (omega arith))) (λ e. let y = ltb-false a i e in e ∙ sym (le-ltb a (suc i) (omega arith)))

  table_whole : (length (table_of cycles) ≡ 64) × ((c : ℕ) → c < 64 → length (get_or (table_of cycles) c []) ≡ 15)
  unfolding table_of
  table_whole =
      let s = r.shaped.sixty_four in
      (length-map cycles cycle_flags ∙ s, λ c h. ap length (mapped_at cycle_flags cycles c [] no_cycle (omega arith)) ∙ r.shaped.fifteen c h)

  tabled_all : tabled 960 ≡ table_of cycles
  tabled_all =
      let a = tabled_whole 960 (omega arith) in
      let b = table_whole in
      ext_get_or [] (tabled 960) (table_of cycles) (a.0 ∙ sym b.0)
      (λ c h. let k : c < 64 = let z = a.0 in omega arith in
      ext_get_or 0 (get_or (tabled 960) c []) (get_or (table_of cycles) c []) (a.1 c k ∙ sym (b.1 c k))
      (λ n l. let m : n < 15 = let z = a.1 c k in omega arith in
      tabled_cell 960 (omega arith) c n k m ∙ rw (lt-ltb (15 * c + n) 960 (omega arith))))

  -- every task has its mark
  marked_long : (i : ℕ) → length (marked i) ≡ 65
  unfolding marked
  marked_long zero = length-replicate {A = ℕ} 65 0
  marked_long (suc i) = by (is_task g i) (λ e. rw e (simp length-set (marked_long i))) (λ e. rw e (marked_long i))

  marked_at : (i t : ℕ) → i ≤ 65 → t < i → is_task g t ≡ true → get_or (marked i) t 0 ≡ 1
  unfolding marked
  marked_at zero t h k e = absurd (omega arith)
  marked_at (suc i) t h k e =
      let l = marked_long i in
      by (eqb t i)
      (λ q. let z = eqb-true t i q in
      let y : is_task g i ≡ true = subst (λ (x : ℕ). is_task g x ≡ true) z e in
      rw (y, z) (get_or-set_same (marked i) i 1 0 (omega arith)))
      (λ q. let z = eqb-false t i q in
      by (is_task g i)
      (λ y. rw (y, get_or-set_other (marked i) i t 1 0 z) (marked_at i t (omega arith) (omega arith) e))
      (λ y. rw y (marked_at i t (omega arith) (omega arith) e)))

  -- ---- all stages

  first_stage : begun (numbers (rig_line g).nums) ≡ stage 0 0 0 0 0
  unfolding stage no_marks marked tabled inside
  first_stage =
      let s = r.shaped in
      let a : min 0 g.lines ≡ 0 = omega arith in
      let b : min 0 g.rows ≡ 0 = omega arith in
      rw (
        a,
        b,
        fill_none 0 65 g.controller s.controller,
        fill_none 0 65 g.priority s.priority,
        fill_none 0 65 g.privileged s.privileged,
        fill_none 0 65 g.activation s.activation,
        fill_none 0 1040 g.present s.present,
        fill_none 0 1040 g.latched s.latched,
        fill_none 0 1040 g.desired s.desired,
        fill_none 0 1024 g.line_task s.line_task,
        fill_none 0 1024 g.line_pos s.line_pos,
        fill_none 0 1024 g.line_flag s.line_flag,
        fill_none no_row 64 g.row s.row,
      )

  abbrev pub done : Built
  done = built g (table_of cycles) (record { above = 0; lines = 0; rows = 0; crowded = 0; tline = marked 65; inside = inside 960 })

  last_stage : stage 65 1040 1024 960 64 ≡ done
  unfolding stage
  last_stage =
      let s = r.shaped in
      let n = r.line_count in let m = r.row_count in
      let c1 = s.controller in let c2 = s.priority in let c3 = s.privileged in let c4 = s.activation in
      let d1 = s.present in let d2 = s.latched in let d3 = s.desired in
      let e1 = s.line_task in let e2 = s.line_pos in let e3 = s.line_flag in let f1 = s.row in
      let a : min 1024 g.lines ≡ g.lines = omega arith in
      let b : min 64 g.rows ≡ g.rows = omega arith in
      rw (
        a,
        b,
        tabled_all,
        fill_all 0 65 g.controller (omega arith),
        fill_all 0 65 g.priority (omega arith),
        fill_all 0 65 g.privileged (omega arith),
        fill_all 0 65 g.activation (omega arith),
        fill_all 0 1040 g.present (omega arith),
        fill_all 0 1040 g.latched (omega arith),
        fill_all 0 1040 g.desired (omega arith),
        fill_all 0 1024 g.line_task (omega arith),
        fill_all 0 1024 g.line_pos (omega arith),
        fill_all 0 1024 g.line_flag (omega arith),
        fill_all no_row 64 g.row (omega arith),
      )

  abbrev pub others : List Line
  others =
      kept 65 (is_task g) (task_line g) ++ (kept 1040 (is_condition g) (condition_line g) ++ (kept 1024 (is_line g) (flag_line g) ++ (kept 960 (is_flag (table_of cycles)) (cycle_line (table_of cycles)) ++ kept 64 (is_row g) (row_line g))))

  pub rig_built : build (begun (numbers (rig_line g).nums)) others ≡ done
  rig_built =
      ap (λ (b : Built). build b others) first_stage
      ∙ (build_append (stage 0 0 0 0 0) (kept 65 (is_task g) (task_line g)) _
      ∙ (ap (λ (b : Built). build b (kept 1040 (is_condition g) (condition_line g) ++ (kept 1024 (is_line g) (flag_line g) ++ (kept 960 (is_flag (table_of cycles)) (cycle_line (table_of cycles)) ++ kept 64 (is_row g) (row_line g))))) tasks_stage
      ∙ (build_append (stage 65 0 0 0 0) (kept 1040 (is_condition g) (condition_line g)) _
      ∙ (ap (λ (b : Built). build b (kept 1024 (is_line g) (flag_line g) ++ (kept 960 (is_flag (table_of cycles)) (cycle_line (table_of cycles)) ++ kept 64 (is_row g) (row_line g)))) conditions_stage
      ∙ (build_append (stage 65 1040 0 0 0) (kept 1024 (is_line g) (flag_line g)) _
      ∙ (ap (λ (b : Built). build b (kept 960 (is_flag (table_of cycles)) (cycle_line (table_of cycles)) ++ kept 64 (is_row g) (row_line g))) lines_stage
      ∙ (build_append (stage 65 1040 1024 0 0) (kept 960 (is_flag (table_of cycles)) (cycle_line (table_of cycles))) _
      ∙ (ap (λ (b : Built). build b (kept 64 (is_row g) (row_line g))) cycles_stage ∙ (rows_stage ∙ last_stage)))))))))

  pub all_marked : (i : ℕ) → i < g.tasks → get_or (marked 65) (i + 1) 0 ≡ 1
  all_marked i h =
      let n = r.task_count in
      marked_at 65 (i + 1) (omega arith) (omega arith) (rw (le-leb 1 (i + 1) (omega arith), le-leb (i + 1) g.tasks (omega arith)))
