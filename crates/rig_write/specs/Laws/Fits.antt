-- "rig file up to 40,960 bytes": the file of a right rig always fits.
-- Assumes nothing.
use Rattle.std.specs.Prelude.{ℕ, zero, suc, ◌+◌, ◌*◌, ◌/◌, ◌%◌, ◌≤◌, ◌<◌, ◌≡◌, Bool, true, cond, List, [], ◌∷◌, ◌++◌, map, ltb, length}
use Rattle.std.proofs.Common.{ap, ◌∙◌, append-nil, arith, length-append, ltb-true, ltb-false, lt-ltb}
use Rattle.laws.specs.Cases.{by}
use Rattle.laws.specs.Laws.All.{and_left, and_right}
use Rattle.rig.specs.declared.Cycle.{Cycle}
use Rattle.rig.specs.declared.Rig.{Rig}
use Rattle.rig.specs.Rules.{Right}
use Rattle.rig.specs.Forms.{table_of}
use Rattle.decimal.specs.Decimal.{dec}
use Rattle.decimal.specs.Laws.{dec_small, dec_tens}
use Rattle.text.specs.Split.{led}
use Rattle.rig_lines.specs.Kinds.{counts, highs, count_of, high_of, within, name_of}
use Rattle.rig_lines.specs.Laws.Kinds.{within_is, within_small}
use Rattle.rig_lines.specs.Line.{Line, fits}
use Rattle.rig_lines.specs.Laws.Judged.{shaped_count, sized_fits}
use Rattle.rig_lines.specs.Text.{line_bytes, text}
use Rattle.rig_write.specs.Kept.{kept, ended}
use Rattle.rig_write.specs.Laws.Kept.{text_append}
use Rattle.rig_write.specs.File.{rig_line, is_task, task_line, is_condition, condition_line, is_line, flag_line, is_flag, cycle_line, is_row, row_line, file_of}
use Rattle.rig_write.specs.Laws.Chain.{tasks_text, conditions_text, lines_text, cycles_text, rows_text, from_cycles, from_lines, from_conditions, from_tasks, file_parts}
use Rattle.rig_write.specs.Laws.Sized.{Good, rig_good, task_good, condition_good, line_good, cycle_good, row_good}

-- how many digits a number below 1,000 has
unfoldable pub digits : ℕ → ℕ
digits n = cond (ltb n 10) 1 (cond (ltb n 100) 2 3)

dec_digits : (n : ℕ) → n ≤ 255 → length (dec n) ≡ digits n
unfolding digits
dec_digits n h =
    by (ltb n 10)
    (λ a. rw a (ap length (dec_small n (ltb-true n 10 a))))
    (λ a. let a₁ = ltb-false n 10 a in
    let e : length (dec n) ≡ length (dec (n / 10)) + 1 = ap length (dec_tens n a₁ (omega arith)) ∙ length-append (dec (n / 10)) ((48 + n % 10) ∷ []) in
    by (ltb n 100)
    (λ b. let b₁ = ltb-true n 100 b in
    let d : length (dec (n / 10)) ≡ 1 = ap length (dec_small (n / 10) (omega arith)) in
    rw (a, b) (omega arith))
    (λ b. let b₁ = ltb-false n 100 b in
    let d : length (dec (n / 10)) ≡ length (dec (n / 10 / 10)) + 1 = ap length (dec_tens (n / 10) (omega arith) (omega arith)) ∙ length-append (dec (n / 10 / 10)) ((48 + n / 10 % 10) ∷ []) in
    let c : length (dec (n / 10 / 10)) ≡ 1 = ap length (dec_small (n / 10 / 10) (omega arith)) in
    rw (a, b) (omega arith)))

digits_le : (n m : ℕ) → n ≤ m → digits n ≤ digits m
unfolding digits
digits_le n m h =
    by (ltb m 10)
    (λ a. let a₁ = ltb-true m 10 a in rw (a, lt-ltb n 10 (omega arith)) (omega arith))
    (λ a. by (ltb m 100)
    (λ b. let b₁ = ltb-true m 100 b in
    by (ltb n 10) (λ c. rw (a, b, c) (omega arith)) (λ c. rw (a, b, c, lt-ltb n 100 (omega arith)) (omega arith)))
    (λ b. by (ltb n 10) (λ c. rw (a, b, c) (omega arith)) (λ c. by (ltb n 100) (λ d. rw (a, b, c, d) (omega arith)) (λ d. rw (a, b, c, d) (omega arith)))))

-- the longest that m numbers of a line of kind k can be, from the f-th on, each with its tab
unfoldable pub longest : ℕ → ℕ → ℕ → ℕ
longest k f zero = 0
longest k f (suc m) = suc (digits (high_of k f)) + longest k (f + 1) m

numbers_length : (k f : ℕ) (ns : List ℕ) → fits k f ns ≡ true → length (led 9 (map dec ns)) ≤ longest k f (length ns)
unfolding fits led longest
numbers_length k f [] e = omega arith
numbers_length k f (n ∷ ns) e =
    let w = and_left (within k f n) (fits k (f + 1) ns) e in
    let b = (within_is k f n w).1 in
    let s = within_small k f n w in
    let d = dec_digits n s in
    let l = digits_le n (high_of k f) b in
    let i = numbers_length k (f + 1) ns (and_right (within k f n) (fits k (f + 1) ns) e) in
    let a = length-append (dec n) (led 9 (map dec ns)) in
    omega arith

pub line_length : (r : Line) → Good r → length (ended r) ≤ length (name_of r.kind) + longest r.kind 0 (count_of r.kind) + 1
unfolding line_bytes
line_length r w =
    let c = shaped_count r w.shape in
    let i : length (led 9 (map dec r.nums)) ≤ longest r.kind 0 (count_of r.kind) = rw c at (numbers_length r.kind 0 r.nums (sized_fits r w.size)) in
    let a = length-append (name_of r.kind ++ led 9 (map dec r.nums)) (10 ∷ []) in
    let b = length-append (name_of r.kind) (led 9 (map dec r.nums)) in
    omega arith

-- lines by number: none is longer than w
pub kept_length : (n w : ℕ) (p : ℕ → Bool) (f : ℕ → Line) → ((i : ℕ) → i < n → p i ≡ true → length (ended (f i)) ≤ w) → length (text (kept n p f)) ≤ n * w
unfolding kept text
kept_length zero w p f h = omega arith
kept_length (suc n) w p f h =
    let i = kept_length n w p f (λ j l e. h j (omega arith) e) in
    let z : suc n * w ≡ n * w + w = omega arith in
    by (p n)
    (λ e. let k = h n (omega arith) e in
    let a : length (text (kept n p f ++ (f n ∷ []))) ≡ length (text (kept n p f)) + length (ended (f n)) =
    ap length (text_append (kept n p f) (f n ∷ [])) ∙ length-append (text (kept n p f)) (ended (f n)) in
    rw e (omega arith))
    (λ e. rw (e, append-nil) (omega arith))

module _ (g : Rig) (cycles : List Cycle) (r : Right g cycles) where
  rig_length : length (ended (rig_line g)) ≤ 16
  unfolding longest digits high_of highs count_of counts name_of
  rig_length = line_length (rig_line g) (rig_good g cycles r)

  tasks_length : length (tasks_text g) ≤ 65 * 18
  unfolding longest digits high_of highs count_of counts name_of
  tasks_length = kept_length 65 18 (is_task g) (task_line g) (λ i _ e. line_length (task_line g i) (task_good g cycles r i e))

  conditions_length : length (conditions_text g) ≤ 1040 * 12
  unfolding longest digits high_of highs count_of counts name_of
  conditions_length = kept_length 1040 12 (is_condition g) (condition_line g) (λ i h e. line_length (condition_line g i) (condition_good g cycles r i h e))

  lines_length : length (lines_text g) ≤ 1024 * 12
  unfolding longest digits high_of highs count_of counts name_of
  lines_length = kept_length 1024 12 (is_line g) (flag_line g) (λ i _ e. line_length (flag_line g i) (line_good g cycles r i e))

  cycles_length : length (cycles_text (table_of cycles)) ≤ 960 * 9
  unfolding longest digits high_of highs count_of counts name_of
  cycles_length = kept_length 960 9 (is_flag (table_of cycles)) (cycle_line (table_of cycles)) (λ i h e. line_length (cycle_line (table_of cycles) i) (cycle_good g cycles r i h e))

  rows_length : length (rows_text g) ≤ 64 * 23
  unfolding longest digits high_of highs count_of counts name_of
  rows_length = kept_length 64 23 (is_row g) (row_line g) (λ i _ e. line_length (row_line g i) (row_good g cycles r i e))

  pub file_fits : length (file_of g (table_of cycles)) ≤ 40960
  file_fits =
      let a = rig_length in let b = tasks_length in let c = conditions_length in let d = lines_length in let e = cycles_length in let f = rows_length in
      let l0 = length-append (ended (rig_line g)) (from_tasks g (table_of cycles)) in
      let l1 = length-append (tasks_text g) (from_conditions g (table_of cycles)) in
      let l2 = length-append (conditions_text g) (from_lines g (table_of cycles)) in
      let l3 = length-append (lines_text g) (from_cycles g (table_of cycles)) in
      let l4 = length-append (cycles_text (table_of cycles)) (rows_text g) in
      rw (← file_parts g (table_of cycles)) (omega arith)
