-- The lines of what lines build are those lines: on numbers alone.
-- Assumes nothing.
use Rattle.std.specs.Prelude.{ℕ, ◌+◌, ◌*◌, ◌/◌, ◌%◌, ◌≤◌, ◌<◌, ◌≡◌, ◌≢◌, Bool, true, List, [], ◌∷◌, ◌++◌, eqb, length, get_or}
use Rattle.std.proofs.Common.{sym, ap, ◌∙◌, append_assoc, append-nil, arith, le-ltb}
use Rattle.std.proofs.lemmas.Bool.{eqb-false}
use Rattle.laws.specs.Cases.{by}
use Rattle.rig.specs.declared.Rig.{Rig}
use Rattle.rig_lines.specs.Line.{Line}
use Rattle.rig_round_trips.specs.Built.{Marks, Built}
use Rattle.rig_write.specs.Kept.{kept}
use Rattle.rig_write.specs.File.{rig_line, task_line, is_condition, condition_line, is_line, flag_line, table_flag_at, is_flag, cycle_line, is_row, row_line}
use Rattle.rig_round_trips.specs.Kept.{kept_none}

-- a task that has a T line so far
abbrev pub has_t : Marks → ℕ → Bool
has_t m t = eqb (get_or m.tline t 0) 1

-- the lines of each kind
abbrev pub part_t : Rig → Marks → List Line
part_t g m = kept 65 (has_t m) (task_line g)

abbrev pub part_c : Rig → List Line
part_c g = kept 1040 (is_condition g) (condition_line g)

abbrev pub part_a : Rig → List Line
part_a g = kept 1024 (is_line g) (flag_line g)

abbrev pub part_m : List (List ℕ) → List Line
part_m t = kept 960 (is_flag t) (cycle_line t)

abbrev pub part_b : Rig → List Line
part_b g = kept 64 (is_row g) (row_line g)

-- the lines of what was built so far
unfoldable pub lines_built : Built → List Line
lines_built b =
    rig_line b.rig ∷
    (kept 65 (has_t b.marks) (task_line b.rig) ++
    (kept 1040 (is_condition b.rig) (condition_line b.rig) ++
    (kept 1024 (is_line b.rig) (flag_line b.rig) ++
    (kept 960 (is_flag b.table) (cycle_line b.table) ++
    kept 64 (is_row b.rig) (row_line b.rig)))))

-- one line more behind a part, where the parts behind it are empty
module _ {A : Type 0} (r : A) where
  pub snoc_5 : (x : A) (a b c d e f : List A) → f ≡ e ++ (r ∷ []) → x ∷ (a ++ (b ++ (c ++ (d ++ f)))) ≡ (x ∷ (a ++ (b ++ (c ++ (d ++ e))))) ++ (r ∷ [])
  snoc_5 x a b c d e f q = rw q (ap (λ (l : List A). x ∷ l) (sym (append_assoc a (b ++ (c ++ (d ++ e))) (r ∷ []) ∙ ap (λ (l : List A). a ++ l) (append_assoc b (c ++ (d ++ e)) (r ∷ []) ∙ ap (λ (l : List A). b ++ l) (append_assoc c (d ++ e) (r ∷ []) ∙ ap (λ (l : List A). c ++ l) (append_assoc d e (r ∷ [])))))))

  pub snoc_4 : (x : A) (a b c d e f : List A) → e ≡ [] → f ≡ d ++ (r ∷ []) → x ∷ (a ++ (b ++ (c ++ (f ++ e)))) ≡ (x ∷ (a ++ (b ++ (c ++ (d ++ e))))) ++ (r ∷ [])
  snoc_4 x a b c d e f z q = rw (z, append-nil f, append-nil d) (snoc_3' x a b c d f q)
    where
      snoc_3' : (x : A) (a b c d f : List A) → f ≡ d ++ (r ∷ []) → x ∷ (a ++ (b ++ (c ++ f))) ≡ (x ∷ (a ++ (b ++ (c ++ d)))) ++ (r ∷ [])
      snoc_3' x a b c d f q = rw q (ap (λ (l : List A). x ∷ l) (sym (append_assoc a (b ++ (c ++ d)) (r ∷ []) ∙ ap (λ (l : List A). a ++ l) (append_assoc b (c ++ d) (r ∷ []) ∙ ap (λ (l : List A). b ++ l) (append_assoc c d (r ∷ []))))))

  pub snoc_3 : (x : A) (a b c d e f : List A) → d ≡ [] → e ≡ [] → f ≡ c ++ (r ∷ []) → x ∷ (a ++ (b ++ (f ++ (d ++ e)))) ≡ (x ∷ (a ++ (b ++ (c ++ (d ++ e))))) ++ (r ∷ [])
  snoc_3 x a b c d e f y z q = rw (y, z, append-nil f, append-nil c) (go x a b c f q)
    where
      go : (x : A) (a b c f : List A) → f ≡ c ++ (r ∷ []) → x ∷ (a ++ (b ++ f)) ≡ (x ∷ (a ++ (b ++ c))) ++ (r ∷ [])
      go x a b c f q = rw q (ap (λ (l : List A). x ∷ l) (sym (append_assoc a (b ++ c) (r ∷ []) ∙ ap (λ (l : List A). a ++ l) (append_assoc b c (r ∷ [])))))

  pub snoc_2 : (x : A) (a b c d e f : List A) → c ≡ [] → d ≡ [] → e ≡ [] → f ≡ b ++ (r ∷ []) → x ∷ (a ++ (f ++ (c ++ (d ++ e)))) ≡ (x ∷ (a ++ (b ++ (c ++ (d ++ e))))) ++ (r ∷ [])
  snoc_2 x a b c d e f w y z q = rw (w, y, z, append-nil f, append-nil b) (go x a b f q)
    where
      go : (x : A) (a b f : List A) → f ≡ b ++ (r ∷ []) → x ∷ (a ++ f) ≡ (x ∷ (a ++ b)) ++ (r ∷ [])
      go x a b f q = rw q (ap (λ (l : List A). x ∷ l) (sym (append_assoc a b (r ∷ []))))

  pub snoc_1 : (x : A) (a b c d e f : List A) → b ≡ [] → c ≡ [] → d ≡ [] → e ≡ [] → f ≡ a ++ (r ∷ []) → x ∷ (f ++ (b ++ (c ++ (d ++ e)))) ≡ (x ∷ (a ++ (b ++ (c ++ (d ++ e))))) ++ (r ∷ [])
  snoc_1 x a b c d e f v w y z q = rw (v, w, y, z, append-nil f, append-nil a) (ap (λ (l : List A). x ∷ l) q)

-- the tables have their lengths
pub record Whole (b : Built) : Type 0 where
  pub controller : length b.rig.controller ≡ 65
  pub priority : length b.rig.priority ≡ 65
  pub privileged : length b.rig.privileged ≡ 65
  pub activation : length b.rig.activation ≡ 65
  pub present : length b.rig.present ≡ 1040
  pub latched : length b.rig.latched ≡ 1040
  pub desired : length b.rig.desired ≡ 1040
  pub line_task : length b.rig.line_task ≡ 1024
  pub line_pos : length b.rig.line_pos ≡ 1024
  pub line_flag : length b.rig.line_flag ≡ 1024
  pub row : length b.rig.row ≡ 64
  pub table : length b.table ≡ 64
  pub cells : (c : ℕ) → c < 64 → length (get_or b.table c []) ≡ 15
  pub tline : length b.marks.tline ≡ 65
  pub inside : length b.marks.inside ≡ 64

abbrev pub cell : List (List ℕ) → ℕ → ℕ → ℕ
cell t c n = get_or (get_or t c []) n 0

-- nothing of a later place than p is there
pub record Upto (p : ℕ) (b : Built) : Type 0 where
  pub whole : Whole b
  pub begun : 16777216 ≤ p
  pub tasks : (t : ℕ) → has_t b.marks t ≡ true → (1 ≤ t) × (33554432 + t * 65536 ≤ p)
  pub under : b.marks.above ≡ 0 → (t : ℕ) → has_t b.marks t ≡ true → t ≤ b.rig.tasks
  pub conditions : (i : ℕ) → is_condition b.rig i ≡ true → 50331648 + (i / 16) * 65536 + (i % 16) * 256 ≤ p
  pub lines : p < 67108864 → b.rig.lines ≡ 0
  pub flags : (c n : ℕ) → c < 64 → n < 15 → cell b.table c n ≢ 0 → 83886080 + c * 65536 ≤ p
  pub inside : (c n : ℕ) → c < 64 → n < 15 → get_or b.marks.inside c 0 ≤ n → cell b.table c n ≡ 0
  pub rows : p < 100663296 → b.rig.rows ≡ 0

module _ (p : ℕ) (b : Built) (u : Upto p b) where
  pub no_tasks : p < 33554432 → kept 65 (has_t b.marks) (task_line b.rig) ≡ []
  no_tasks h = kept_none 65 (has_t b.marks) (task_line b.rig) (λ i _. by (has_t b.marks i) (λ e. absurd (omega (arith, (u.tasks i e).1))) (λ e. e))

  pub no_conditions : p < 50331648 → kept 1040 (is_condition b.rig) (condition_line b.rig) ≡ []
  no_conditions h = kept_none 1040 (is_condition b.rig) (condition_line b.rig) (λ i _. by (is_condition b.rig i) (λ e. absurd (omega (arith, u.conditions i e))) (λ e. e))

  pub no_lines : p < 67108864 → kept 1024 (is_line b.rig) (flag_line b.rig) ≡ []
  no_lines h = kept_none 1024 (is_line b.rig) (flag_line b.rig) (λ i _. le-ltb i b.rig.lines (omega (arith, u.lines h)))

  pub no_flags : p < 83886080 → kept 960 (is_flag b.table) (cycle_line b.table) ≡ []
  no_flags h =
      kept_none 960 (is_flag b.table) (cycle_line b.table)
      (λ i l. by (eqb (table_flag_at b.table i) 0)
      (λ e. rw e)
      (λ e. absurd (omega (arith, u.flags (i / 15) (i % 15) (omega arith) (omega arith) (eqb-false (table_flag_at b.table i) 0 e)))))

  pub no_rows : p < 100663296 → kept 64 (is_row b.rig) (row_line b.rig) ≡ []
  no_rows h = kept_none 64 (is_row b.rig) (row_line b.rig) (λ i _. le-ltb i b.rig.rows (omega (arith, u.rows h)))
