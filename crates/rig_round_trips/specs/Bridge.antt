-- What the lines build one after the other is the rig of the lines, and the table of its cycles.
--     built_rig, built_table    of a file's lines that are right and break no rule over all of them
-- Assumes nothing.
use Rattle.std.specs.Prelude.{ℕ, ◌+◌, ◌≤◌, ◌<◌, ◌≡◌, Bool, true, false, cond, eqb, length, get_or, set, replicate}
use Rattle.std.proofs.Math.Path.{refl, sym, ap, subst}
use Rattle.std.proofs.Common.{ap₂, ◌∙◌, length-set, get_or-set_same, get_or-set_other, ext_get_or, eqb-true, eq-eqb, ne_eqb}
use mathlib.Core.List.{List, [], ◌∷◌, ◌++◌, append_assoc, append-nil}
use native.Mathlib.Omega.{arith}
use Rattle.std.proofs.lemmas.List.{length-replicate, get_or-replicate}
use Rattle.std.proofs.lemmas.Bool.{eqb-false}
use Rattle.laws.specs.Cases.{by}
use Rattle.laws.specs.First.{first_false}
use Rattle.laws.specs.Laws.Tables.{zeros_at}
use Rattle.rig.specs.declared.Rig.{Rig}
use Rattle.rig_tables.specs.Tests.{place}
use Rattle.rig.specs.Rules.{no_row}
use Rattle.rig_lines.specs.Kinds.{count_of}
use Rattle.rig_lines.specs.Line.{Line, placed, judge}
use Rattle.rig_lines.specs.Whole.{number_of, is_kind, is_flag_line, how_many, tasks_of, flags_of, master_of, line_tests}
use Rattle.rig_lines.specs.Laws.Judged.{Faultless, judged_sound, shaped_known}
use Rattle.rig_lines.proofs.Laws.Order.{first_rig}
use Rattle.rig_lines.specs.Laws.Whole.{many_snoc, line_rules}
use Rattle.rig_fill.specs.OfLines.{zeros, stored, listed, task_table, condition_table, line_table, one, row_said, rig_from, flags_from, places, table_from}
use Rattle.rig_fill.specs.Laws.Snoc.{stored_snoc, listed_snoc, places_length, places_at}
use Rattle.rig_round_trips.specs.Built as model
use Rattle.rig_round_trips.specs.Built.{Marks, Built, built, numbers, no_marks, no_table, nothing, above_after, with_above, with_task, with_condition, with_line, with_row, one_flag, put_flag, store, build}
use Rattle.rig_round_trips.specs.Cases.{by_cases}
use Rattle.rig_round_trips.specs.Marked.{cycle_most, place_low, rig_place, not_rig, begun, after_rig}

-- ---- the rig of one line more

module _ (q : Line) (rs : List Line) (r : Line) where
  tasks_stay : tasks_of ((q ∷ rs) ++ (r ∷ [])) ≡ tasks_of (q ∷ rs)
  unfolding tasks_of
  tasks_stay = refl

  flags_stay : flags_of ((q ∷ rs) ++ (r ∷ [])) ≡ flags_of (q ∷ rs)
  unfolding flags_of
  flags_stay = refl

  master_stays : master_of ((q ∷ rs) ++ (r ∷ [])) ≡ master_of (q ∷ rs)
  unfolding master_of
  master_stays = refl

  -- what each kind of line does to the rig
  after : Rig
  after =
      record {
        tasks = tasks_of (q ∷ rs);
        flags = flags_of (q ∷ rs);
        master = master_of (q ∷ rs);
        lines = cond (is_kind 4 r) (how_many (is_kind 4) (q ∷ rs) + 1) (how_many (is_kind 4) (q ∷ rs));
        rows = cond (is_kind 6 r) (how_many (is_kind 6) (q ∷ rs) + 1) (how_many (is_kind 6) (q ∷ rs));
        controller = cond (is_kind 2 r) (set (task_table 1 (q ∷ rs)) (number_of 0 r) (number_of 1 r)) (task_table 1 (q ∷ rs));
        priority = cond (is_kind 2 r) (set (task_table 2 (q ∷ rs)) (number_of 0 r) (number_of 2 r)) (task_table 2 (q ∷ rs));
        privileged = cond (is_kind 2 r) (set (task_table 3 (q ∷ rs)) (number_of 0 r) (number_of 3 r)) (task_table 3 (q ∷ rs));
        activation = cond (is_kind 2 r) (set (task_table 4 (q ∷ rs)) (number_of 0 r) (number_of 4 r)) (task_table 4 (q ∷ rs));
        present = cond (is_kind 3 r) (set (condition_table one (q ∷ rs)) (place (number_of 0 r) (number_of 1 r)) 1) (condition_table one (q ∷ rs));
        latched = cond (is_kind 3 r) (set (condition_table (number_of 2) (q ∷ rs)) (place (number_of 0 r) (number_of 1 r)) (number_of 2 r)) (condition_table (number_of 2) (q ∷ rs));
        desired = cond (is_kind 3 r) (set (condition_table (number_of 3) (q ∷ rs)) (place (number_of 0 r) (number_of 1 r)) (number_of 3 r)) (condition_table (number_of 3) (q ∷ rs));
        line_task = cond (is_kind 4 r) (set (line_table 0 (q ∷ rs)) (0 + how_many (is_kind 4) (q ∷ rs)) (number_of 0 r)) (line_table 0 (q ∷ rs));
        line_pos = cond (is_kind 4 r) (set (line_table 1 (q ∷ rs)) (0 + how_many (is_kind 4) (q ∷ rs)) (number_of 1 r)) (line_table 1 (q ∷ rs));
        line_flag = cond (is_kind 4 r) (set (line_table 2 (q ∷ rs)) (0 + how_many (is_kind 4) (q ∷ rs)) (number_of 2 r)) (line_table 2 (q ∷ rs));
        row = cond (is_kind 6 r) (set (listed (is_kind 6) row_said 0 (replicate 64 no_row) (q ∷ rs)) (0 + how_many (is_kind 6) (q ∷ rs)) (row_said r)) (listed (is_kind 6) row_said 0 (replicate 64 no_row) (q ∷ rs));
      }

  rig_snoc : rig_from ((q ∷ rs) ++ (r ∷ [])) ≡ after
  unfolding rig_from after
  rig_snoc =
      rw (
        tasks_stay,
        flags_stay,
        master_stays,
        many_snoc (is_kind 4) (q ∷ rs) r,
        many_snoc (is_kind 6) (q ∷ rs) r,
        stored_snoc (is_kind 2) (number_of 0) (number_of 1) (zeros 65) (q ∷ rs) r,
        stored_snoc (is_kind 2) (number_of 0) (number_of 2) (zeros 65) (q ∷ rs) r,
        stored_snoc (is_kind 2) (number_of 0) (number_of 3) (zeros 65) (q ∷ rs) r,
        stored_snoc (is_kind 2) (number_of 0) (number_of 4) (zeros 65) (q ∷ rs) r,
        stored_snoc (is_kind 3) (λ x. place (number_of 0 x) (number_of 1 x)) one (zeros 1040) (q ∷ rs) r,
        stored_snoc (is_kind 3) (λ x. place (number_of 0 x) (number_of 1 x)) (number_of 2) (zeros 1040) (q ∷ rs) r,
        stored_snoc (is_kind 3) (λ x. place (number_of 0 x) (number_of 1 x)) (number_of 3) (zeros 1040) (q ∷ rs) r,
        listed_snoc (is_kind 4) (number_of 0) 0 (zeros 1024) (q ∷ rs) r,
        listed_snoc (is_kind 4) (number_of 1) 0 (zeros 1024) (q ∷ rs) r,
        listed_snoc (is_kind 4) (number_of 2) 0 (zeros 1024) (q ∷ rs) r,
        listed_snoc (is_kind 6) row_said 0 (replicate 64 no_row) (q ∷ rs) r,
      )

  rig_task : r.kind ≡ 2 → with_task (rig_from (q ∷ rs)) (get_or r.nums 0 0) (numbers r.nums) ≡ rig_from ((q ∷ rs) ++ (r ∷ []))
  unfolding rig_from after
  rig_task d = sym (rig_snoc ∙ rw d)

  rig_condition : r.kind ≡ 3 → with_condition (rig_from (q ∷ rs)) (place (get_or r.nums 0 0) (get_or r.nums 1 0)) (numbers r.nums) ≡ rig_from ((q ∷ rs) ++ (r ∷ []))
  unfolding rig_from after
  rig_condition d = sym (rig_snoc ∙ rw d)

  rig_line_lem : r.kind ≡ 4 → with_line (rig_from (q ∷ rs)) (how_many (is_kind 4) (q ∷ rs)) (numbers r.nums) ≡ rig_from ((q ∷ rs) ++ (r ∷ []))
  unfolding rig_from after
  rig_line_lem d = let z : 0 + how_many (is_kind 4) (q ∷ rs) ≡ how_many (is_kind 4) (q ∷ rs) = omega arith in sym (rig_snoc ∙ rw (d, z))

  rig_flag : r.kind ≡ 5 → rig_from (q ∷ rs) ≡ rig_from ((q ∷ rs) ++ (r ∷ []))
  unfolding rig_from after
  rig_flag d = sym (rig_snoc ∙ rw d)

  rig_row : r.kind ≡ 6 → with_row (rig_from (q ∷ rs)) (how_many (is_kind 6) (q ∷ rs)) (model.row_of (numbers r.nums)) ≡ rig_from ((q ∷ rs) ++ (r ∷ []))
  unfolding rig_from after row_said model.row_of
  rig_row d = let z : 0 + how_many (is_kind 6) (q ∷ rs) ≡ how_many (is_kind 6) (q ∷ rs) = omega arith in sym (rig_snoc ∙ rw (d, z))

-- ---- the cycles of one line more

not_flag : (r : Line) → (r.kind ≡ 5 → ⊥) → (c : ℕ) → is_flag_line c r ≡ false
not_flag r n c = rw (ne_eqb r.kind 5 n)

is_flag_lem : (r : Line) → r.kind ≡ 5 → (c : ℕ) → is_flag_line c r ≡ eqb (get_or r.nums 0 0) c
is_flag_lem r d c = rw d

flags_no : (rs : List Line) (r : Line) (c : ℕ) → is_flag_line c r ≡ false → flags_from (rs ++ (r ∷ [])) c ≡ flags_from rs c
flags_no rs r c e = listed_snoc (is_flag_line c) (number_of 1) 0 (zeros 15) rs r ∙ rw e

flags_yes : (rs : List Line) (r : Line) (c : ℕ) → is_flag_line c r ≡ true → flags_from (rs ++ (r ∷ [])) c ≡ set (flags_from rs c) (how_many (is_flag_line c) rs) (get_or r.nums 1 0)
flags_yes rs r c e = let z : 0 + how_many (is_flag_line c) rs ≡ how_many (is_flag_line c) rs = omega arith in listed_snoc (is_flag_line c) (number_of 1) 0 (zeros 15) rs r ∙ rw (e, z)

-- tables of the same length that agree at each place
table_ext : (t : List (List ℕ)) (rs : List Line) → length t ≡ 64 → ((c : ℕ) → c < 64 → get_or t c [] ≡ flags_from rs c) → t ≡ table_from rs
unfolding table_from
table_ext t rs l h =
    ext_get_or [] t (places 64 (flags_from rs)) (l ∙ sym (places_length 64 (flags_from rs)))
    (λ i g. let k : i < 64 = omega (arith, l) in h i k ∙ sym (places_at 64 (flags_from rs) i [] k))

table_at : (rs : List Line) (c : ℕ) → c < 64 → get_or (table_from rs) c [] ≡ flags_from rs c
unfolding table_from
table_at rs c h = places_at 64 (flags_from rs) c [] h

table_long : (rs : List Line) → length (table_from rs) ≡ 64
unfolding table_from
table_long rs = places_length 64 (flags_from rs)

table_stays : (rs : List Line) (r : Line) → (r.kind ≡ 5 → ⊥) → table_from rs ≡ table_from (rs ++ (r ∷ []))
table_stays rs r n = table_ext (table_from rs) (rs ++ (r ∷ [])) (table_long rs) (λ c h. table_at rs c h ∙ sym (flags_no rs r c (not_flag r n c)))

table_flag : (rs : List Line) (r : Line) → r.kind ≡ 5 → get_or r.nums 0 0 < 64 →
    put_flag (table_from rs) (get_or r.nums 0 0) (how_many (is_flag_line (get_or r.nums 0 0)) rs) (get_or r.nums 1 0) ≡ table_from (rs ++ (r ∷ []))
table_flag rs r d k =
    table_ext (set (table_from rs) x new) (rs ++ (r ∷ [])) (length-set (table_from rs) x new ∙ table_long rs)
    (λ c h. by (eqb x c)
    (λ t. let z = eqb-true x c t in
    rw (← z, get_or-set_same (table_from rs) x new [] (omega (arith, table_long rs))) (ap (λ (l : List ℕ). set l (how_many (is_flag_line x) rs) (get_or r.nums 1 0)) (table_at rs x k)
    ∙ sym (flags_yes rs r x (is_flag_lem r d x ∙ eq-eqb x x refl))))
    (λ t. let z = eqb-false x c t in
    get_or-set_other (table_from rs) x c new [] (λ e. z (sym e)) ∙ (table_at rs c h ∙ sym (flags_no rs r c (is_flag_lem r d c ∙ t)))))
  where
    x : ℕ
    x = get_or r.nums 0 0

    new : List ℕ
    new = set (get_or (table_from rs) x []) (how_many (is_flag_line x) rs) (get_or r.nums 1 0)

-- ---- one line more

-- what was built of the lines so far is their rig
record So (done : List Line) (b : Built) : Type 0 where
  rig : b.rig ≡ rig_from done
  table : b.table ≡ table_from done
  many : (c : ℕ) → c < 64 → get_or b.marks.inside c 0 ≡ how_many (is_flag_line c) done
  long : length b.marks.inside ≡ 64

many_no : (rs : List Line) (r : Line) (c : ℕ) → is_flag_line c r ≡ false → how_many (is_flag_line c) rs ≡ how_many (is_flag_line c) (rs ++ (r ∷ []))
many_no rs r c e = sym (many_snoc (is_flag_line c) rs r ∙ rw e)

-- the rules that leave room
record Room (rs : List Line) : Type 0 where
  lines : how_many (is_kind 4) rs ≤ 1024
  rows : how_many (is_kind 6) rs ≤ 64
  flags : (c : ℕ) → c < 64 → how_many (is_flag_line c) rs ≤ 15

module _ (p : ℕ) (q : Line) (rs : List Line) (r : Line) (b : Built) (w : So (q ∷ rs) b) (begins : 16777216 ≤ p) (known : r.kind < 7) (right : judge p r ≡ 0) (room : Room ((q ∷ rs) ++ (r ∷ []))) where
  abbrev x : ℕ
  x = get_or r.nums 0 0

  lines_now : b.rig.lines ≡ how_many (is_kind 4) (q ∷ rs)
  unfolding rig_from
  lines_now = ap (λ (g : Rig). g.lines) w.rig

  rows_now : b.rig.rows ≡ how_many (is_kind 6) (q ∷ rs)
  unfolding rig_from
  rows_now = ap (λ (g : Rig). g.rows) w.rig

  marks_now : (m : Marks) → m.inside ≡ b.marks.inside → (r.kind ≡ 5 → ⊥) → (c : ℕ) → c < 64 → get_or m.inside c 0 ≡ how_many (is_flag_line c) ((q ∷ rs) ++ (r ∷ []))
  marks_now m e n c h = ap (λ (l : List ℕ). get_or l c 0) e ∙ (w.many c h ∙ many_no (q ∷ rs) r c (not_flag r n c))

  other : (r.kind ≡ 5 → ⊥) → (g : Rig) → g ≡ rig_from ((q ∷ rs) ++ (r ∷ [])) → (m : Marks) → m.inside ≡ b.marks.inside → So ((q ∷ rs) ++ (r ∷ [])) (built g b.table m)
  other n g e m d =
      record {
        rig = e;
        table = w.table ∙ table_stays (q ∷ rs) r n;
        many = marks_now m d n;
        long = ap length d ∙ w.long;
      }

  flag_case : r.kind ≡ 5 → (m : Marks) → m.inside ≡ b.marks.inside → get_or m.inside x 0 < 15 →
      So ((q ∷ rs) ++ (r ∷ [])) (built b.rig (put_flag b.table x (get_or m.inside x 0) (get_or r.nums 1 0)) (one_flag m x (get_or m.inside x 0)))
  flag_case d m e h =
      let k : x < 64 = omega (arith, cycle_most p r right d) in
      let n : get_or m.inside x 0 ≡ how_many (is_flag_line x) (q ∷ rs) = ap (λ (l : List ℕ). get_or l x 0) e ∙ w.many x k in
      record {
        rig = w.rig ∙ rig_flag q rs r d;
        table = ap₂ (λ (t : List (List ℕ)) (i : ℕ). put_flag t x i (get_or r.nums 1 0)) w.table n ∙ table_flag (q ∷ rs) r d k;
        many = λ c g. by (eqb x c)
            (λ t. let z = eqb-true x c t in
            rw (← z, get_or-set_same m.inside x (get_or m.inside x 0 + 1) 0 (omega (arith, ap length e, w.long)))
            (ap (λ (i : ℕ). i + 1) n ∙ sym (many_snoc (is_flag_line x) (q ∷ rs) r ∙ rw (is_flag_lem r d x, eq-eqb x x refl))))
            (λ t. let z = eqb-false x c t in
            get_or-set_other m.inside x c (get_or m.inside x 0 + 1) 0 (λ o. z (sym o))
            ∙ (ap (λ (l : List ℕ). get_or l c 0) e ∙ (w.many c g ∙ many_no (q ∷ rs) r c (is_flag_lem r d c ∙ t))));
        long = length-set m.inside x (get_or m.inside x 0 + 1) ∙ (ap length e ∙ w.long);
      }

  full : r.kind ≡ 5 → (m : Marks) → m.inside ≡ b.marks.inside → 15 ≤ get_or m.inside x 0 → ⊥
  full d m e h =
      let k : x < 64 = omega (arith, cycle_most p r right d) in
      let n : get_or m.inside x 0 ≡ how_many (is_flag_line x) (q ∷ rs) = ap (λ (l : List ℕ). get_or l x 0) e ∙ w.many x k in
      let o : how_many (is_flag_line x) ((q ∷ rs) ++ (r ∷ [])) ≡ how_many (is_flag_line x) (q ∷ rs) + 1 = many_snoc (is_flag_line x) (q ∷ rs) r ∙ rw (is_flag_lem r d x, eq-eqb x x refl) in
      let z = room.flags x k in
      omega arith

  one_more : So ((q ∷ rs) ++ (r ∷ [])) (store b r.kind (numbers r.nums))
  unfolding store
  one_more =
      let n = shaped_known r (judged_sound p r right).shape in
      by_cases (So ((q ∷ rs) ++ (r ∷ []))) r.kind b.rig b.table
      (with_above b.marks (above_after b.marks.above r.kind (count_of r.kind) (numbers r.nums) b.rig.tasks b.rig.flags)) (numbers r.nums)
      (record {
        counts = λ d. absurd (not_rig p r begins right d);
        task = λ d. other (λ e. omega arith) _ (ap (λ (g : Rig). with_task g x (numbers r.nums)) w.rig ∙ rig_task q rs r d) _ refl;
        condition = λ d. other (λ e. omega arith) _ (ap (λ (g : Rig). with_condition g (place x (get_or r.nums 1 0)) (numbers r.nums)) w.rig ∙ rig_condition q rs r d) _ refl;
        line = λ d _. other (λ e. omega arith) _ (ap₂ (λ (g : Rig) (i : ℕ). with_line g i (numbers r.nums)) w.rig lines_now ∙ rig_line_lem q rs r d) _ refl;
        many = λ d h. absurd (let o : how_many (is_kind 4) ((q ∷ rs) ++ (r ∷ [])) ≡ how_many (is_kind 4) (q ∷ rs) + 1 = many_snoc (is_kind 4) (q ∷ rs) r ∙ rw d in omega (arith, lines_now, room.lines));
        flag = λ d h. flag_case d _ refl h;
        crowded = λ d h. absurd (full d b.marks refl h);
        row = λ n4 n5 n2 n1 n3 h. other n5 _ (ap₂ (λ (g : Rig) (i : ℕ). with_row g i (model.row_of (numbers r.nums))) w.rig rows_now ∙ rig_row q rs r (six n known n1 n2 n3 n4 n5)) _ refl;
        rows = λ n4 n5 n2 n1 n3 h. absurd (let d = six n known n1 n2 n3 n4 n5 in let o : how_many (is_kind 6) ((q ∷ rs) ++ (r ∷ [])) ≡ how_many (is_kind 6) (q ∷ rs) + 1 = many_snoc (is_kind 6) (q ∷ rs) r ∙ rw d in omega (arith, rows_now, room.rows));
      })
    where
      six : {c : ℕ} → 0 < c → c < 7 → (c ≡ 1 → ⊥) → (c ≡ 2 → ⊥) → (c ≡ 3 → ⊥) → (c ≡ 4 → ⊥) → (c ≡ 5 → ⊥) → c ≡ 6
      six n f a b c d e = omega arith

-- ---- all lines

many_prefix : (is : Line → Bool) (xs ys : List Line) → how_many is xs ≤ how_many is (xs ++ ys)
unfolding how_many
many_prefix is [] ys = omega arith
many_prefix is (x ∷ xs) ys = let k = many_prefix is xs ys in by (is x) (λ e. rw e (omega arith)) (λ e. rw e (omega arith))

room_prefix : (xs ys : List Line) → Room (xs ++ ys) → Room xs
room_prefix xs ys w =
    record {
      lines = let a = many_prefix (is_kind 4) xs ys in let b = w.lines in omega arith;
      rows = let a = many_prefix (is_kind 6) xs ys in let b = w.rows in omega arith;
      flags = λ c h. let a = many_prefix (is_flag_line c) xs ys in let b = w.flags c h in omega arith;
    }

all_lines : (todo : List Line) (p : ℕ) (q : Line) (rs : List Line) (b : Built) → So (q ∷ rs) b → 16777216 ≤ p → Faultless p todo → Room ((q ∷ rs) ++ todo) → So ((q ∷ rs) ++ todo) (build b todo)
unfolding build
all_lines [] p q rs b w h f o = subst (λ (l : List Line). So (q ∷ l) b) (sym (append-nil rs)) w
all_lines (r ∷ todo) p q rs b w h f o =
    let k = shaped_known r (judged_sound p r f.1).shape in
    let e : (q ∷ rs) ++ (r ∷ todo) ≡ ((q ∷ rs) ++ (r ∷ [])) ++ todo = sym (append_assoc (q ∷ rs) (r ∷ []) todo) in
    let o₁ : Room (((q ∷ rs) ++ (r ∷ [])) ++ todo) = subst Room e o in
    let s = one_more p q rs r b w h f.0 f.1 (room_prefix ((q ∷ rs) ++ (r ∷ [])) todo o₁) in
    subst (λ (l : List Line). So l (build (store b r.kind (numbers r.nums)) todo)) (sym e)
    (all_lines todo (placed r) q (rs ++ (r ∷ [])) (store b r.kind (numbers r.nums)) s (omega (arith, place_low r)) f.2 o₁)

-- the RIG line alone
first_so : (r : Line) → r.kind ≡ 1 → So (r ∷ []) (begun (numbers r.nums))
unfolding rig_from tasks_of flags_of master_of stored listed how_many no_marks no_table
first_so r d =
    record {
      rig = rw d;
      table = table_ext no_table (r ∷ []) (length-replicate 64 (zeros 15)) (λ c h. get_or-replicate 64 c (zeros 15) [] h ∙ rw d);
      many = λ c h. zeros_at 64 c ∙ rw d;
      long = length-replicate {A = ℕ} 64 0;
    }

module _ (r : Line) (rs : List Line) (f : Faultless 0 (r ∷ rs)) (none : first_false 1 (line_tests (r ∷ rs)) ≡ 0) where
  kind : r.kind ≡ 1
  kind = first_rig r f.1

  is_so_built : So (r ∷ rs) (build nothing (r ∷ rs))
  unfolding build
  is_so_built =
      let w = (line_rules (r ∷ rs)).0 none in
      let o : Room (r ∷ rs) = record { lines = w.lines; rows = w.rows; flags = w.flags } in
      subst (λ (b : Built). So (r ∷ rs) (build b rs)) (sym (after_rig r.kind (numbers r.nums) kind))
      (all_lines rs (placed r) r [] (begun (numbers r.nums)) (first_so r kind) (omega (arith, rig_place r kind)) f.2 o)

  pub built_rig : (build nothing (r ∷ rs)).rig ≡ rig_from (r ∷ rs)
  built_rig = is_so_built.rig

  pub built_table : (build nothing (r ∷ rs)).table ≡ table_from (r ∷ rs)
  built_table = is_so_built.table
