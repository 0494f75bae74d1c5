-- EXACTLY WHEN a file is refused by 1, 2, 3 or 4, and by which line.
--     too_long, faulty, whole_broken_lem, all_right    the four ways of a file, of which each is in one
--     number_line, number_four, number_none        a number is answered only in its case
--     line_exactly, line_in_words, long_exactly, four_exactly,
--     none_exactly                                 .. and always then
--     accepted_right                               an accepted file's rig is right
--     first_line, next_line, no_end                which line is the first faulty one
--     empty_file_lem, no_last_end, no_end_refused      the empty file, one line without LF, any file that does not end in LF
-- Assumes nothing.
use Rattle.std.specs.Prelude.{ℕ, zero, suc, ◌+◌, ◌≤◌, ◌<◌, ◌≡◌, refl, ◌≢◌, ◌↔◌, Bool, true, false, cond, ◌&&◌, List, [], ◌∷◌, ◌++◌, eqb, ltb, length}
use Rattle.std.proofs.Common.{sym, ap, subst, ◌∙◌, arith}
use borrow.Author.Tests.{ne_eqb, eqb-false, lt-ltb, le-ltb, ltb-true, ltb-false}
use Rattle.laws.specs.Cases.{by}
use Rattle.laws.specs.First.{first_false}
use Rattle.text.specs.Split.{split}
use Rattle.text.specs.Laws.Split.{Free, split_last}
use Rattle.rig.specs.declared.Cycle.{Cycle}
use Rattle.rig.specs.declared.Rig.{Rig}
use Rattle.rig.specs.Rules.{Right}
use Rattle.rig.specs.Forms.{cycles_of}
use Rattle.rig_whole.specs.Tests.{first_broken}
use Rattle.rig_whole.specs.Laws.Whole.{broken_none}
use Rattle.rig_lines.specs.Line.{Line, line_of, shaped, sized, ordered, placed, judge}
use Rattle.rig_lines.specs.File.{Fault, fault, first_fault, fault_of, lines_of}
use Rattle.rig_lines.specs.Words.{FirstFaulty}
use Rattle.rig_lines.proofs.Laws.FirstFaulty.{first_faulty}
use Rattle.rig_lines.proofs.Laws.RoundTrip.{last_byte}
use Rattle.rig_lines.specs.Whole.{line_tests}
use Rattle.rig_fill.specs.OfLines.{rig_from, table_from}
use Rattle.rig_build.specs.declared.Answer.{Answer}
use Rattle.rig_build.specs.Read.{file_refused, file_accepted, behind, broken_rule, judged, whole_file, by_lines, read_computed}

-- the whole-file rule that a file breaks, 0 for none
abbrev pub rule_of : List ℕ → ℕ
rule_of s = broken_rule (first_false 1 (line_tests (lines_of s))) (rig_from (lines_of s)) (cycles_of (table_from (lines_of s)))

pub too_long : (s : List ℕ) → 40960 < length s → read_computed s ≡ file_refused 2 0 0
unfolding read_computed
too_long s h = rw (lt-ltb 40960 (length s) h)

module _ (s : List ℕ) (short : length s ≤ 40960) where
  read_lines : read_computed s ≡ by_lines s
  unfolding read_computed
  read_lines = rw (le-ltb 40960 (length s) short)

  pub faulty : (j line : ℕ) → fault_of s ≡ fault (suc j) line → read_computed s ≡ file_refused (suc j) line 0
  unfolding by_lines
  faulty j line e = read_lines ∙ rw (e, ne_eqb (suc j) 0 (omega arith))

  module _ (clean : (fault_of s).no ≡ 0) where
    read_whole : read_computed s ≡ whole_file (lines_of s)
    unfolding by_lines
    read_whole = read_lines ∙ rw clean

    pub whole_broken_lem : (k : ℕ) → rule_of s ≡ suc k → read_computed s ≡ file_refused 4 0 (suc k)
    unfolding whole_file judged
    whole_broken_lem k e = read_whole ∙ rw (e, ne_eqb (suc k) 0 (omega arith))

    pub all_right : rule_of s ≡ 0 → read_computed s ≡ file_accepted (rig_from (lines_of s)) (cycles_of (table_from (lines_of s)))
    unfolding whole_file judged
    all_right e = read_whole ∙ rw e

-- no line is refused by more than 3
judge_small : (p : ℕ) (r : Line) → judge p r ≤ 3
unfolding judge
judge_small p r = go (shaped r) (sized r) (ordered p r)
  where
    go : (a b c : Bool) → cond {A = ℕ} a (cond b (cond c 0 3) 2) 1 ≤ 3
    go true true true = omega arith
    go true true false = omega arith
    go true false c = omega arith
    go false b c = omega arith

fault_small : (ps : List (List ℕ)) (n p : ℕ) → (first_fault n p ps).no ≤ 3
unfolding first_fault
fault_small [] n p = omega arith
fault_small (l ∷ []) n p = by (eqb (length l) 0 && ltb 1 n) (λ e. rw e (omega arith)) (λ e. rw e (omega arith))
fault_small (l ∷ m ∷ ms) n p =
    by (eqb (judge p (line_of l)) 0) (λ e. rw e (fault_small (m ∷ ms) (n + 1) (placed (line_of l)))) (λ e. rw e (judge_small p (line_of l)))

-- the four ways of a file
pub data Way (s : List ℕ) : Type 0 where
  long : 40960 < length s → Way s
  line : (j n : ℕ) → length s ≤ 40960 → fault_of s ≡ fault (suc j) n → j < 3 → Way s
  whole : (k : ℕ) → length s ≤ 40960 → (fault_of s).no ≡ 0 → rule_of s ≡ suc k → Way s
  right : length s ≤ 40960 → (fault_of s).no ≡ 0 → rule_of s ≡ 0 → Way s

pub way : (s : List ℕ) → Way s
way s =
    by (ltb 40960 (length s))
    (λ e. long (ltb-true _ _ e))
    (λ e. of_line_lem (ltb-false 40960 (length s) e) (fault_of s).no refl)
  where
    of_rule : length s ≤ 40960 → (fault_of s).no ≡ 0 → (k : ℕ) → rule_of s ≡ k → Way s
    of_rule h c zero e = right h c e
    of_rule h c (suc k) e = whole k h c e

    of_line_lem : length s ≤ 40960 → (j : ℕ) → (fault_of s).no ≡ j → Way s
    of_line_lem h zero e = of_rule h e (rule_of s) refl
    of_line_lem h (suc j) e =
        line j (fault_of s).line h (ap (λ (c : ℕ). fault c (fault_of s).line) e) (let z : (fault_of s).no ≤ 3 = (unfold fault_of in fault_small (split 10 s) 1 0) in omega arith)

-- "4: a whole-file rule is broken (line 0)", "4 only if no line is faulty": only then (always then: `whole_broken_lem`)
pub number_four : (s : List ℕ) → (read_computed s).no ≡ 4 → (length s ≤ 40960) × ((fault_of s).no ≡ 0) × (rule_of s ≢ 0) × ((read_computed s).line ≡ 0)
number_four s e = go (way s)
  where
    go : Way s → (length s ≤ 40960) × ((fault_of s).no ≡ 0) × (rule_of s ≢ 0) × ((read_computed s).line ≡ 0)
    go (long h) = let z : ◌≡◌ {A = ℕ} 2 4 = sym (ap (λ (a : Answer). a.no) (too_long s h)) ∙ e in absurd (omega arith)
    go (line j n h f k) = let z : suc j ≡ 4 = sym (ap (λ (a : Answer). a.no) (faulty s h j n f)) ∙ e in absurd (omega arith)
    go (whole k h c r) = (h, c, (λ q. let z : ◌≡◌ {A = ℕ} (suc k) 0 = sym r ∙ q in omega arith), ap (λ (a : Answer). a.line) (whole_broken_lem s h c k r))
    go (right h c r) = let z : ◌≡◌ {A = ℕ} 0 4 = sym (ap (λ (a : Answer). a.no) (all_right s h c r)) ∙ e in absurd (omega arith)

-- a file is accepted only when it is not too long, has no faulty line and breaks no rule (always then: `all_right`)
pub number_none : (s : List ℕ) → (read_computed s).no ≡ 0 → (length s ≤ 40960) × ((fault_of s).no ≡ 0) × (rule_of s ≡ 0)
number_none s e = go (way s)
  where
    go : Way s → (length s ≤ 40960) × ((fault_of s).no ≡ 0) × (rule_of s ≡ 0)
    go (long h) = let z : ◌≡◌ {A = ℕ} 2 0 = sym (ap (λ (a : Answer). a.no) (too_long s h)) ∙ e in absurd (omega arith)
    go (line j n h f k) = let z : suc j ≡ 0 = sym (ap (λ (a : Answer). a.no) (faulty s h j n f)) ∙ e in absurd (omega arith)
    go (whole k h c r) = let z : ◌≡◌ {A = ℕ} 4 0 = sym (ap (λ (a : Answer). a.no) (whole_broken_lem s h c k r)) ∙ e in absurd (omega arith)
    go (right h c r) = (h, c, r)

-- 1, 2 and 3 at a line: only when that line is the first faulty one, and the number is its own (always then: `faulty`)
pub number_line : (s : List ℕ) (j n : ℕ) → (read_computed s).no ≡ suc j → (read_computed s).line ≡ suc n → (length s ≤ 40960) × (fault_of s ≡ fault (suc j) (suc n))
number_line s j n e l = go (way s)
  where
    go : Way s → (length s ≤ 40960) × (fault_of s ≡ fault (suc j) (suc n))
    go (long h) = let z : ◌≡◌ {A = ℕ} 0 (suc n) = sym (ap (λ (a : Answer). a.line) (too_long s h)) ∙ l in absurd (omega arith)
    go (line i m h f k) =
        let r = faulty s h i m f in
        let a : suc i ≡ suc j = sym (ap (λ (x : Answer). x.no) r) ∙ e in
        let b : m ≡ suc n = sym (ap (λ (x : Answer). x.line) r) ∙ l in
        (h, f ∙ (ap (λ (c : ℕ). fault c m) a ∙ ap (λ (c : ℕ). fault (suc j) c) b))
    go (whole k h c r) = let z : ◌≡◌ {A = ℕ} 0 (suc n) = sym (ap (λ (a : Answer). a.line) (whole_broken_lem s h c k r)) ∙ l in absurd (omega arith)
    go (right h c r) = let z : ◌≡◌ {A = ℕ} 0 (suc j) = sym (ap (λ (a : Answer). a.no) (all_right s h c r)) ∙ e in absurd (omega arith)

-- a faulty line is line 1 or a later one
fault_place : (ps : List (List ℕ)) (n p : ℕ) → (first_fault n p ps).no ≢ 0 → n ≤ (first_fault n p ps).line
unfolding first_fault
fault_place [] n p h = omega arith
fault_place (l ∷ []) n p h = go (eqb (length l) 0 && ltb 1 n) h
  where
    go : (b : Bool) → (cond b (fault 0 0) (fault 1 n)).no ≢ 0 → n ≤ (cond b (fault 0 0) (fault 1 n)).line
    go true k = absurd (k refl)
    go false k = omega arith
fault_place (l ∷ m ∷ ms) n p h = go (eqb (judge p (line_of l)) 0) h (λ k. fault_place (m ∷ ms) (n + 1) (placed (line_of l)) k)
  where
    go : (b : Bool) → (cond b (first_fault (n + 1) (placed (line_of l)) (m ∷ ms)) (fault (judge p (line_of l)) n)).no ≢ 0
        → ((first_fault (n + 1) (placed (line_of l)) (m ∷ ms)).no ≢ 0 → n + 1 ≤ (first_fault (n + 1) (placed (line_of l)) (m ∷ ms)).line)
        → n ≤ (cond b (first_fault (n + 1) (placed (line_of l)) (m ∷ ms)) (fault (judge p (line_of l)) n)).line
    go true k i = let z = i k in omega arith
    go false k i = omega arith

pub file_place : (s : List ℕ) → (fault_of s).no ≢ 0 → 1 ≤ (fault_of s).line
unfolding fault_of
file_place s h = fault_place (split 10 s) 1 0 h

-- the answer to a file, its number and line: exactly when
module _ (s : List ℕ) where
  -- "1: a line .. has the wrong shape, or no LF", "2: a number is outside its size", "3: a record is out of order or repeated"
  pub line_exactly : (j n : ℕ) → (((read_computed s).no ≡ suc j) × ((read_computed s).line ≡ suc n)) ↔ ((length s ≤ 40960) × (fault_of s ≡ fault (suc j) (suc n)))
  line_exactly j n = (
    λ e. number_line s j n e.0 e.1,
    λ w. let r = faulty s w.0 j (suc n) w.1 in (ap (λ (a : Answer). a.no) r, ap (λ (a : Answer). a.line) r),
  )

  -- the same in the paper's words (rig_lines/Words): nothing is wrong with the lines before line n, and j is that line's smallest number
  pub line_in_words : (j n : ℕ) → (((read_computed s).no ≡ suc j) × ((read_computed s).line ≡ suc n)) ↔ ((length s ≤ 40960) × FirstFaulty s n (suc j))
  line_in_words j n = (
    λ e. let w = (line_exactly j n).0 e in (w.0, (first_faulty s j n).0 w.1),
    λ w. (line_exactly j n).1 (w.0, (first_faulty s j n).1 w.1),
  )

  -- "2: .. file too long (line 0, tested first)"
  pub long_exactly : (((read_computed s).no ≡ 2) × ((read_computed s).line ≡ 0)) ↔ (40960 < length s)
  long_exactly = (λ e. go e.0 e.1 (way s), λ h. let r = too_long s h in (ap (λ (a : Answer). a.no) r, ap (λ (a : Answer). a.line) r))
    where
      go : (read_computed s).no ≡ 2 → (read_computed s).line ≡ 0 → Way s → 40960 < length s
      go e l (long h) = h
      go e l (line j n h f k) =
          let z : n ≡ 0 = sym (ap (λ (a : Answer). a.line) (faulty s h j n f)) ∙ l in
          let o : (fault_of s).no ≢ 0 = λ x. let y : ◌≡◌ {A = ℕ} (suc j) 0 = sym (ap (λ (a : Fault). a.no) f) ∙ x in omega arith in
          let p : 1 ≤ (fault_of s).line = file_place s o in
          let q : (fault_of s).line ≡ n = ap (λ (a : Fault). a.line) f in
          absurd (omega arith)
      go e l (whole k h c r) = let z : ◌≡◌ {A = ℕ} 4 2 = sym (ap (λ (a : Answer). a.no) (whole_broken_lem s h c k r)) ∙ e in absurd (omega arith)
      go e l (right h c r) = let z : ◌≡◌ {A = ℕ} 0 2 = sym (ap (λ (a : Answer). a.no) (all_right s h c r)) ∙ e in absurd (omega arith)

  -- "4: a whole-file rule is broken (line 0)", "4 only if no line is faulty"
  pub four_exactly : ((read_computed s).no ≡ 4) ↔ ((length s ≤ 40960) × ((fault_of s).no ≡ 0) × (rule_of s ≢ 0))
  four_exactly = (λ e. let w = number_four s e in (w.0, w.1, w.2), λ w. go w.0 w.1 (rule_of s) refl w.2)
    where
      go : length s ≤ 40960 → (fault_of s).no ≡ 0 → (k : ℕ) → rule_of s ≡ k → rule_of s ≢ 0 → (read_computed s).no ≡ 4
      go h c zero e n = absurd (n e)
      go h c (suc k) e n = ap (λ (a : Answer). a.no) (whole_broken_lem s h c k e)

  pub none_exactly : ((read_computed s).no ≡ 0) ↔ ((length s ≤ 40960) × ((fault_of s).no ≡ 0) × (rule_of s ≡ 0))
  none_exactly = (λ e. number_none s e, λ w. ap (λ (a : Answer). a.no) (all_right s w.0 w.1 w.2))

-- ---- an accepted file's rig is right

behind_none : (n : ℕ) → behind n ≡ 0 → n ≡ 0
unfolding behind
behind_none zero e = refl
behind_none (suc n) e = absurd (omega arith)

rig_none : (n : ℕ) (g : Rig) (cycles : List Cycle) → broken_rule n g cycles ≡ 0 → first_broken g cycles ≡ 0
unfolding broken_rule
rig_none n g cycles e =
    by (eqb n 0)
    (λ t. behind_none (first_broken g cycles) (rw t at e))
    (λ t. let z : n ≡ 0 = rw t at e in absurd (eqb-false n 0 t z))

pub accepted_right : (s : List ℕ) → (read_computed s).no ≡ 0 → Right (read_computed s).rig (read_computed s).cycles
accepted_right s e =
    let n = number_none s e in
    let g = rig_from (lines_of s) in
    let cycles = cycles_of (table_from (lines_of s)) in
    let r = (broken_none g cycles).0 (rig_none (first_false 1 (line_tests (lines_of s))) g cycles n.2) in
    subst (λ (a : Answer). Right a.rig a.cycles) (sym (all_right s n.0 n.1 n.2)) r

-- the first faulty line: the lines before it are judged 0, it is not, and what stands after the last LF is no line
pub first_line : (n p : ℕ) (l m : List ℕ) (ms : List (List ℕ)) → judge p (line_of l) ≢ 0 → first_fault n p (l ∷ m ∷ ms) ≡ fault (judge p (line_of l)) n
unfolding first_fault
first_line n p l m ms h = rw (ne_eqb (judge p (line_of l)) 0 h)

pub next_line : (n p : ℕ) (l m : List ℕ) (ms : List (List ℕ)) → judge p (line_of l) ≡ 0 → first_fault n p (l ∷ m ∷ ms) ≡ first_fault (n + 1) (placed (line_of l)) (m ∷ ms)
unfolding first_fault
next_line n p l m ms h = rw h

pub no_end : (n p : ℕ) (l : List ℕ) → length l ≢ 0 → first_fault n p (l ∷ []) ≡ fault 1 n
unfolding first_fault
no_end n p l h = rw (ne_eqb (length l) 0 h)

-- "1: .. empty file (line 1)"
pub empty_file_lem : read_computed [] ≡ file_refused 1 1 0
unfolding read_computed by_lines fault_of first_fault split
empty_file_lem = refl

-- "1: a line .. has .. no LF": a file of one line that does not end in LF
pub no_last_end : (s : List ℕ) → length s ≤ 40960 → length s ≢ 0 → Free 10 s → read_computed s ≡ file_refused 1 1 0
unfolding fault_of
no_last_end s h n f = faulty s h 0 1 (ap (first_fault 1 0) (split_last 10 s f) ∙ no_end 1 0 s n)

-- .. and any file whose last byte is not LF is refused
pub no_end_refused : (u : List ℕ) (b : ℕ) → b ≢ 10 → (read_computed (u ++ (b ∷ []))).no ≢ 0
no_end_refused u b n e = n (last_byte u b (number_none (u ++ (b ∷ [])) e).1)
