-- A line of no kind has no numbers and is counted and stored nowhere: a file's answer is that of its lines of the six kinds.
-- Assumes nothing.
use Rattle.std.specs.Prelude.{ℕ, zero, suc, ◌+◌, ◌*◌, ◌≤◌, ◌<◌, ◌≡◌, refl, Bool, true, false, cond, List, [], ◌∷◌, ◌++◌, length, get_or, set, take, drop, leb, ltb, eqb, replicate}
use Rattle.std.proofs.Common.{sym, ap, ◌∙◌, arith, add-one, eqb-true, lt-ltb, ltb-true, ltb-false, true≢false}
use Rattle.std.proofs.lemmas.Bool.{eqb-false}
use Rattle.std.proofs.lemmas.List.{take-take, length-append, length-take-le, length-drop, get_or-take, get_or-drop}
use Rattle.std.proofs.Math.ListN.{get_or-eq_default}
use Rattle.laws.specs.All.{all}
use Rattle.laws.specs.Cases.{by}
use Rattle.laws.specs.Laws.All.{all_zero, all_same}
use Rattle.rig.specs.Rules.{no_row}
use Rattle.rig_lines.specs.declared.Kind.{Kind}
use Rattle.rig_lines.specs.Kind.{kind_number}
use Rattle.rig_lines.specs.Laws.Kind.{kind_known, only_rig}
use Rattle.rig_lines.specs.Kinds.{kind_rig, is_known, kind_t, kind_c, kind_a, kind_m, kind_b, count_of, counts}
use Rattle.rig_lines.specs.Line.{Line}
use Rattle.rig_lines.specs.Whole.{number_of, is_kind, is_task_line, is_flag_line, how_many, every, tasks_of, flags_of, master_of, line_under, has_task, few_flags, line_tests}
use Rattle.rig_held.specs.declared.Line.{Line as HeldLine}
use Rattle.rig_held.specs.Held.{held_line, held, Begins}
use Rattle.rig_held.specs.Laws.Lines.{count_most, held_put}
use Rattle.rig_fill.specs.OfLines.{zeros, stored, listed, condition_place, one, row_said, rig_from, flags_from, places, table_from}
use Rattle.rig_build.specs.Bytes.{line_in, lines_in, known}
use Rattle.rig_build.specs.Read.{whole_file}
use Rattle.rig_build.specs.Laws.Answers.{nine}

-- ---- a line of no kind

not_known : (k : ℕ) → is_known k ≡ false → 0 < k → k < 7 → ⊥
not_known k n l h = true≢false (sym (rw (lt-ltb 0 k l, lt-ltb k 7 h)) ∙ n)

module _ (r : Line) (n : is_known r.kind ≡ false) where
  no_kind : (k : ℕ) → 0 < k → k < 7 → is_kind k r ≡ false
  no_kind k l h = by (eqb r.kind k) (λ t. let q : r.kind ≡ k = eqb-true _ _ t in absurd (not_known r.kind n (omega (arith, q)) (omega (arith, q)))) (λ f. f)

  no_numbers : count_of r.kind ≡ 0
  unfolding count_of counts
  no_numbers =
      by (ltb r.kind 7)
      (λ t. by (eqb r.kind 0)
      (λ z. let q : r.kind ≡ 0 = eqb-true _ _ z in rw q)
      (λ z. absurd (not_known r.kind n (omega (arith, eqb-false r.kind 0 z)) (ltb-true r.kind 7 t))))
      (λ f. get_or-eq_default counts 0 (ltb-false r.kind 7 f))

  no_under : (tasks flags : ℕ) → line_under tasks flags r ≡ true
  no_under tasks flags = rw no_numbers (all_zero _)

  no_task : (t : ℕ) → is_task_line t r ≡ false
  no_task t = rw (no_kind kind_t (omega arith) (omega arith))

  no_flag : (c : ℕ) → is_flag_line c r ≡ false
  no_flag c = rw (no_kind kind_m (omega arith) (omega arith))

-- ---- what such lines change: nothing

-- a test that they do not pass
abbrev PassedByKnown : (Line → Bool) → Type 0
PassedByKnown p = (r : Line) → is_known r.kind ≡ false → p r ≡ false

of_kind : (k : ℕ) → 0 < k → k < 7 → PassedByKnown (is_kind k)
of_kind k l h r n = no_kind r n k l h

many_known : (p : Line → Bool) → PassedByKnown p → (rs : List Line) → how_many p (known rs) ≡ how_many p rs
unfolding how_many known
many_known p un [] = refl
many_known p un (r ∷ rs) =
    by (is_known r.kind)
    (λ t. rw (t, many_known p un rs))
    (λ f. rw (f, un r f, many_known p un rs))

every_known : (tasks flags : ℕ) (rs : List Line) → every (line_under tasks flags) (known rs) ≡ every (line_under tasks flags) rs
unfolding every known
every_known tasks flags [] = refl
every_known tasks flags (r ∷ rs) =
    by (is_known r.kind)
    (λ t. rw (t, every_known tasks flags rs))
    (λ f. rw (f, no_under r f tasks flags, every_known tasks flags rs))

stored_known : (meant : Line → Bool) → PassedByKnown meant → (at says : Line → ℕ) (l : List ℕ) (rs : List Line) → stored meant at says l (known rs) ≡ stored meant at says l rs
unfolding stored known
stored_known meant un at says l [] = refl
stored_known meant un at says l (r ∷ rs) =
    by (is_known r.kind)
    (λ t. rw t (stored_known meant un at says (cond (meant r) (set l (at r) (says r)) l) rs))
    (λ f. rw (f, un r f) (stored_known meant un at says l rs))

listed_known : {A : Type 0} (meant : Line → Bool) → PassedByKnown meant → (says : Line → A) (i : ℕ) (l : List A) (rs : List Line) → listed meant says i l (known rs) ≡ listed meant says i l rs
unfolding listed known
listed_known meant un says i l [] = refl
listed_known meant un says i l (r ∷ rs) =
    by (is_known r.kind)
    (λ t. rw t (by (meant r)
    (λ m. rw m (listed_known meant un says (i + 1) (set l i (says r)) rs))
    (λ m. rw m (listed_known meant un says i l rs))))
    (λ f. rw (f, un r f) (listed_known meant un says i l rs))

places_same : {A : Type 0} (n : ℕ) (f g : ℕ → A) → ((c : ℕ) → f c ≡ g c) → places n f ≡ places n g
unfolding places
places_same zero f g e = refl
places_same (suc n) f g e = rw (places_same n f g e, e n)

table_known : (rs : List Line) → table_from (known rs) ≡ table_from rs
unfolding table_from
table_known rs = places_same 64 (flags_from (known rs)) (flags_from rs) (λ c. listed_known (is_flag_line c) (λ r n. no_flag r n c) (number_of 1) 0 (zeros 15) rs)

-- the first is of a kind, as the RIG line is
module _ (r : Line) (rs : List Line) (is : is_known r.kind ≡ true) where
  first_known : known (r ∷ rs) ≡ r ∷ known rs
  unfolding known
  first_known = rw is

  tasks_known : tasks_of (known (r ∷ rs)) ≡ tasks_of (r ∷ rs)
  unfolding tasks_of
  tasks_known = rw first_known

  flags_known : flags_of (known (r ∷ rs)) ≡ flags_of (r ∷ rs)
  unfolding flags_of
  flags_known = rw first_known

  master_known : master_of (known (r ∷ rs)) ≡ master_of (r ∷ rs)
  unfolding master_of
  master_known = rw first_known

  has_known : all (tasks_of (r ∷ rs)) (has_task (known (r ∷ rs))) ≡ all (tasks_of (r ∷ rs)) (has_task (r ∷ rs))
  has_known = all_same _ _ _ (λ i h. ap (ltb 0) (many_known (is_task_line (suc i)) (λ q n. no_task q n (suc i)) (r ∷ rs)))

  few_known : all 64 (few_flags (known (r ∷ rs))) ≡ all 64 (few_flags (r ∷ rs))
  few_known = all_same _ _ _ (λ c h. ap (λ (n : ℕ). leb n 15) (many_known (is_flag_line c) (λ q n. no_flag q n c) (r ∷ rs)))

  tests_known : line_tests (known (r ∷ rs)) ≡ line_tests (r ∷ rs)
  unfolding line_tests
  tests_known = rw (tasks_known, flags_known, every_known (tasks_of (r ∷ rs)) (flags_of (r ∷ rs)) (r ∷ rs), many_known (is_kind kind_a) (of_kind kind_a (omega arith) (omega arith)) (r ∷ rs), many_known (is_kind kind_b) (of_kind kind_b (omega arith) (omega arith)) (r ∷ rs), has_known, few_known)

  rig_known : rig_from (known (r ∷ rs)) ≡ rig_from (r ∷ rs)
  unfolding rig_from
  rig_known =
      let t = of_kind kind_t (omega arith) (omega arith) in
      let c = of_kind kind_c (omega arith) (omega arith) in
      let a = of_kind kind_a (omega arith) (omega arith) in
      let b = of_kind kind_b (omega arith) (omega arith) in
      let task = λ (f : ℕ). stored_known (is_kind kind_t) t (number_of 0) (number_of f) (zeros 65) (r ∷ rs) in
      let condition = λ (says : Line → ℕ). stored_known (is_kind kind_c) c condition_place says (zeros 1040) (r ∷ rs) in
      let line = λ (f : ℕ). listed_known (is_kind kind_a) a (number_of f) 0 (zeros 1024) (r ∷ rs) in
      rw (tasks_known, flags_known, master_known, many_known (is_kind kind_a) a (r ∷ rs), many_known (is_kind kind_b) b (r ∷ rs), task 1, task 2, task 3, task 4, condition one, condition (number_of 2), condition (number_of 3), line 0, line 1, line 2, listed_known (is_kind kind_b) b row_said 0 (replicate 64 no_row) (r ∷ rs))

  -- the answer is that of the lines of the six kinds
  pub whole_known : whole_file (known (r ∷ rs)) ≡ whole_file (r ∷ rs)
  unfolding whole_file
  whole_known = rw (tests_known, rig_known, table_known (r ∷ rs))

-- ---- the lines that stand in bytes

known_more : (rs : List Line) (r : Line) → known (rs ++ (r ∷ [])) ≡ cond (is_known r.kind) (known rs ++ (r ∷ [])) (known rs)
unfolding known
known_more [] r = by (is_known r.kind) (λ t. rw t) (λ f. rw f)
known_more (q ∷ rs) r =
    by (is_known q.kind)
    (λ t. rw (t, known_more rs r) (by (is_known r.kind) (λ y. rw y) (λ n. rw n)))
    (λ f. rw f (known_more rs r))

pub known_none : (l : List ℕ) → held [] ≡ known (lines_in l 0)
unfolding held lines_in known
known_none l = refl

-- nine numbers, read one by one behind a line's kind
pub nine_in : (l : List ℕ) (a : ℕ) → a + 10 ≤ length l →
    get_or l (a + 1) 0 ∷ get_or l (a + 2) 0 ∷ get_or l (a + 3) 0 ∷ get_or l (a + 4) 0 ∷ get_or l (a + 5) 0 ∷ get_or l (a + 6) 0 ∷ get_or l (a + 7) 0 ∷ get_or l (a + 8) 0 ∷ get_or l (a + 9) 0 ∷ [] ≡ take 9 (drop (a + 1) l)
nine_in l a h =
    let long : length (take 9 (drop (a + 1) l)) ≡ 9 = length-take-le 9 (drop (a + 1) l) (omega (arith, length-drop (a + 1) l)) in
    let at = λ (j m : ℕ) (k : j < 9) (e : a + 1 + j ≡ m). get_or-take 9 (drop (a + 1) l) j 0 k ∙ (get_or-drop (a + 1) l j 0 ∙ ap (λ (x : ℕ). get_or l x 0) e) in
    rw (← at 0 (a + 1) (omega arith) (omega arith), ← at 1 (a + 2) (omega arith) (omega arith), ← at 2 (a + 3) (omega arith) (omega arith), ← at 3 (a + 4) (omega arith) (omega arith), ← at 4 (a + 5) (omega arith) (omega arith), ← at 5 (a + 6) (omega arith) (omega arith), ← at 6 (a + 7) (omega arith) (omega arith), ← at 7 (a + 8) (omega arith) (omega arith), ← at 8 (a + 9) (omega arith) (omega arith)) (nine (take 9 (drop (a + 1) l)) long)

-- one line more, of a kind or not
module _ (l : List ℕ) (i : ℕ) (h : List HeldLine) (so : held h ≡ known (lines_in l i)) where
  pub known_on : (k : Kind) (v : List ℕ) → kind_number k ≡ get_or l (10 * i) 0 → v ≡ take 9 (drop (10 * i + 1) l) →
      held (h ++ (record { kind = k; numbers = v } ∷ [])) ≡ known (lines_in l (i + 1))
  unfolding held_line line_in lines_in
  known_on k v e f =
      let n = kind_known k in
      let c = count_most (kind_number k) in
      let t = take-take (count_of (kind_number k)) 9 (drop (10 * i + 1) l) (omega arith) in
      rw (add-one, held_put h (record { kind = k; numbers = v }), so, known_more (lines_in l i) (line_in l i), ← e, lt-ltb 0 (kind_number k) n.0, lt-ltb (kind_number k) 7 n.1, f, t)

  pub known_off : is_known (get_or l (10 * i) 0) ≡ false → held h ≡ known (lines_in l (i + 1))
  unfolding line_in lines_in
  known_off n = rw (add-one, known_more (lines_in l i) (line_in l i), n) so

pub few_on : (h : List HeldLine) (r : HeldLine) (i : ℕ) → length h ≤ i → length (h ++ (r ∷ [])) ≤ i + 1
few_on h r i n = omega (arith, n, length-append h (r ∷ []))

-- the first line is the RIG line
begins_more : (h : List HeldLine) (r : HeldLine) → Begins h → Begins (h ++ (r ∷ []))
begins_more [] r b = absurd b
begins_more (q ∷ h) r b = b

pub begins_on : (l : List ℕ) (i : ℕ) (h : List HeldLine) (k : Kind) (v : List ℕ) → get_or l 0 0 ≡ kind_rig → length h ≤ i → (1 ≤ i → Begins h) → kind_number k ≡ get_or l (10 * i) 0 → Begins (h ++ (record { kind = k; numbers = v } ∷ []))
begins_on l zero [] k v rig n b e = only_rig k (e ∙ rig)
begins_on l zero (q ∷ h) k v rig n b e = absurd (omega arith)
begins_on l (suc i) h k v rig n b e = begins_more h (record { kind = k; numbers = v }) (b (omega arith))

pub begins_off : (l : List ℕ) (i : ℕ) (h : List HeldLine) → get_or l 0 0 ≡ kind_rig → (1 ≤ i → Begins h) → is_known (get_or l (10 * i) 0) ≡ false → Begins h
begins_off l zero h rig b n = absurd (true≢false (sym (ap (λ (x : ℕ). is_known x) rig) ∙ n))
begins_off l (suc i) h rig b n = b (omega arith)

lines_first : (l : List ℕ) (n : ℕ) → (rs : List Line) × (lines_in l (suc n) ≡ line_in l 0 ∷ rs)
unfolding lines_in
lines_first l zero = ([], refl)
lines_first l (suc n) = let w = lines_first l n in (w.0 ++ (line_in l (suc n) ∷ []), rw w.1)

pub whole_in : (l : List ℕ) (n : ℕ) → 1 ≤ n → get_or l 0 0 ≡ kind_rig → whole_file (known (lines_in l n)) ≡ whole_file (lines_in l n)
unfolding line_in
whole_in l zero h e = absurd (omega arith)
whole_in l (suc n) h e = let w = lines_first l n in rw w.1 (whole_known (line_in l 0) w.0 (rw e))
