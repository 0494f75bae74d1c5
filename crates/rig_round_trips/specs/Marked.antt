-- What was marked while the lines were read says what the rules over the lines say.
-- Assumes nothing.
use Prim.Native.Nat.{ℕ, suc, ◌+◌, ◌*◌, ◌≤◌, ◌<◌}
use Rattle.std.specs.Prelude.{◌≡◌, Bool, ◌&&◌, ◌||◌, eqb, leb, ltb, length, get_or, set}
use Rattle.std.proofs.Math.Path.{refl, ap}
use Rattle.std.proofs.Common.{sym, ◌∙◌, length-set, get_or-set_same, get_or-set_other}
use Rattle.std.proofs.Math.Bool.{true, false}
use mathlib.Core.List.{List, [], ◌∷◌}
use native.Mathlib.Omega.{arith}
use Rattle.std.proofs.Math.Numerals.{add-one}
use Rattle.std.proofs.Math.Nat.{zero-add}
use Rattle.std.proofs.Math.ListN.{length-replicate}
use borrow.Author.Tests.{eqb-true, eqb-false, eq-eqb, ne_eqb, le-leb, lt-leb, lt-ltb, ltb-true, ltb-false}
use Rattle.laws.specs.Cases.{by}
use Rattle.laws.specs.All.{all}
use Rattle.laws.specs.Laws.All.{all_all, all_not, all_same}
use Rattle.laws.specs.Laws.Tables.{get_d_set, zeros_at}
use Rattle.rig.specs.Forms.{no_rig}
use Rattle.rig_lines.specs.Kinds.{count_of, counts, keys_of, keys, high_of, highs, sorts, sort_of, under, keyed, place_in_order, follows}
use Rattle.rig_lines.specs.Laws.Kinds.{within_is}
use Rattle.rig_lines.specs.Line.{Line, placed, ordered, judge}
use Rattle.rig_lines.specs.Laws.Judged.{Faultless, judged_sound, shaped_known, shaped_count, sized_fits, fits_at}
use Rattle.rig_round_trips.specs.Built.{Marks, Built, built, numbers, no_marks, no_table, nothing, under_one, above_after, with_above, with_counts, by_kind, store, build}
use Rattle.rig_fill.specs.OfLines.{zeros}
use Rattle.rig_round_trips.specs.Cases.{by_cases}
use Rattle.rig_round_trips.specs.MarkTests.{marked_one, mark_tests}
use Rattle.rig_lines.specs.Whole.{is_kind, is_task_line, is_flag_line, how_many, every, tasks_of, flags_of, line_under, few_flags, line_tests}
use Rattle.rig_lines.specs.Whole as whole

-- a number of a faultless line is at most the greatest of its size
pub number_most : (p : ℕ) (r : Line) → judge p r ≡ 0 → (i k : ℕ) → r.kind ≡ k → i < count_of k → get_or r.nums i 0 ≤ high_of k i
number_most p r e i k d h =
    let w = judged_sound p r e in
    let c : length r.nums ≡ count_of k = shaped_count r w.shape ∙ ap count_of d in
    let z : 0 + i ≡ i = omega arith in
    (within_is k i (get_or r.nums i 0) (rw (z, d) at (fits_at r.kind 0 r.nums (sized_fits r w.size) i (omega arith)))).1

pub cycle_most : (p : ℕ) (r : Line) → judge p r ≡ 0 → r.kind ≡ 5 → get_or r.nums 0 0 ≤ 63
unfolding high_of highs count_of counts
cycle_most p r e d = number_most p r e 0 5 d (omega arith)

pub tasks_most : (p : ℕ) (r : Line) → judge p r ≡ 0 → r.kind ≡ 1 → get_or r.nums 1 0 ≤ 64
unfolding high_of highs count_of counts
tasks_most p r e d = number_most p r e 1 1 d (omega arith)

-- no line but the first is RIG
pub place_low : (r : Line) → r.kind * 16777216 ≤ placed r
unfolding placed place_in_order
place_low r = omega arith

pub rig_place : (r : Line) → r.kind ≡ 1 → placed r ≡ 16777216
unfolding placed place_in_order keyed keys_of keys
rig_place r e = rw e

follows_on : (p k x : ℕ) → 0 < p → k ≡ 1 → follows p k x ≡ true → p < x
unfolding follows
follows_on p k x h d e = ltb-true p x (rw (ne_eqb p 0 (omega arith), d) at e)

pub not_rig : (p : ℕ) (r : Line) → 16777216 ≤ p → judge p r ≡ 0 → r.kind ≡ 1 → ⊥
unfolding ordered
not_rig p r h e d =
    let w = judged_sound p r e in
    let z = follows_on p r.kind (placed r) (omega arith) d w.order in
    let y = rig_place r d in
    omega arith

-- the numbers of tasks and flags stay as the RIG line has them
record Kept (b : Built) (x : Built) : Type 0 where
  tasks : x.rig.tasks ≡ b.rig.tasks
  flags : x.rig.flags ≡ b.rig.flags

kept : (b : Built) (k : ℕ) (v : ℕ → ℕ) → (k ≡ 1 → ⊥) → Kept b (store b k v)
unfolding store
kept b k v n =
    by_cases (Kept b) k b.rig b.table (with_above b.marks (above_after b.marks.above k (count_of k) v b.rig.tasks b.rig.flags)) v
    (record {
      counts = λ e. absurd (n e);
      task = λ _. record { tasks = refl; flags = refl };
      condition = λ _. record { tasks = refl; flags = refl };
      line = λ _ _. record { tasks = refl; flags = refl };
      many = λ _ _. record { tasks = refl; flags = refl };
      flag = λ _ _. record { tasks = refl; flags = refl };
      crowded = λ _ _. record { tasks = refl; flags = refl };
      row = λ _ _ _ _ _ _. record { tasks = refl; flags = refl };
      rows = λ _ _ _ _ _ _. record { tasks = refl; flags = refl };
    })

-- ---- 1: a number above the RIG line's

store_above : (b : Built) (k : ℕ) (v : ℕ → ℕ) → (store b k v).marks.above ≡ above_after b.marks.above k (count_of k) v b.rig.tasks b.rig.flags
unfolding store
store_above b k v =
    by_cases (λ x. x.marks.above ≡ a) k b.rig b.table (with_above b.marks a) v
    (record {
      counts = λ _. refl;
      task = λ _. refl;
      condition = λ _. refl;
      line = λ _ _. refl;
      many = λ _ _. refl;
      flag = λ _ _. refl;
      crowded = λ _ _. refl;
      row = λ _ _ _ _ _ _. refl;
      rows = λ _ _ _ _ _ _. refl;
    })
  where
    a : ℕ
    a = above_after b.marks.above k (count_of k) v b.rig.tasks b.rig.flags

above_one : (old k m : ℕ) (v : ℕ → ℕ) (tasks flags : ℕ) → eqb (above_after old k m v tasks flags) 0 ≡ (eqb old 0 && all m (under_one tasks flags k v))
unfolding above_after
above_one old k m v tasks flags =
    by (all m (under_one tasks flags k v)) (λ e. rw e (sym (and_true (eqb old 0)))) (λ e. rw e (sym (and_false (eqb old 0))))
  where
    and_true : (t : Bool) → (t && true) ≡ t
    and_true true = refl
    and_true false = refl

    and_false : (t : Bool) → (t && false) ≡ false
    and_false true = refl
    and_false false = refl

and_assoc : (a b c : Bool) → ((a && b) && c) ≡ (a && (b && c))
and_assoc true b c = refl
and_assoc false b c = refl

build_above : (rs : List Line) (p : ℕ) (b : Built) → 16777216 ≤ p → Faultless p rs →
    (eqb (build b rs).marks.above 0 ≡ (eqb b.marks.above 0 && every (line_under b.rig.tasks b.rig.flags) rs)) × ((build b rs).rig.tasks ≡ b.rig.tasks)
unfolding build every
build_above [] p b h w = (sym (and_true (eqb b.marks.above 0)), refl)
  where
    and_true : (t : Bool) → (t && true) ≡ t
    and_true true = refl
    and_true false = refl
build_above (r ∷ rs) p b h w =
    let n = not_rig p r h w.1 in
    let k = kept b r.kind (numbers r.nums) n in
    let s = shaped_known r (judged_sound p r w.1).shape in
    let q : 16777216 ≤ placed r = omega (arith, place_low r) in
    let i = build_above rs (placed r) (store b r.kind (numbers r.nums)) q w.2 in (
      i.0
          ∙ rw (k.tasks, k.flags, store_above b r.kind (numbers r.nums), above_one)
          (and_assoc (eqb b.marks.above 0) (line_under b.rig.tasks b.rig.flags r) (every (line_under b.rig.tasks b.rig.flags) rs)),
      i.1 ∙ k.tasks,
    )

-- ---- 2 and 3: how many A and B lines

-- a count that stops at its room, and its mark
pub record Counts (k room : ℕ) (count mark : Built → ℕ) : Type 0 where
  pub within : (b : Built) (c : ℕ) (v : ℕ → ℕ) → count b ≤ room → count (store b c v) ≤ room
  pub more : (b : Built) (c : ℕ) (v : ℕ → ℕ) → 0 < c → c < 7 → c ≡ k → count b < room → (count (store b c v) ≡ count b + 1) × (mark (store b c v) ≡ mark b)
  pub full : (b : Built) (c : ℕ) (v : ℕ → ℕ) → 0 < c → c < 7 → c ≡ k → room ≤ count b → mark (store b c v) ≡ 1
  pub other : (b : Built) (c : ℕ) (v : ℕ → ℕ) → 0 < c → c < 7 → (c ≡ k → ⊥) → (count (store b c v) ≡ count b) × (mark (store b c v) ≡ mark b)
  pub stays : (b : Built) (c : ℕ) (v : ℕ → ℕ) → mark b ≡ 1 → mark (store b c v) ≡ 1

module _ (k room : ℕ) (count mark : Built → ℕ) (w : Counts k room count mark) where
  stuck : (rs : List Line) (b : Built) → mark b ≡ 1 → mark (build b rs) ≡ 1
  unfolding build
  stuck [] b e = e
  stuck (r ∷ rs) b e = stuck rs (store b r.kind (numbers r.nums)) (w.stays b r.kind (numbers r.nums) e)

  pub counted : (rs : List Line) (p : ℕ) (b : Built) → count b ≤ room → Faultless p rs → mark b ≡ 0 → eqb (mark (build b rs)) 0 ≡ leb (count b + how_many (is_kind k) rs) room
  unfolding build how_many
  counted [] p b h f e = rw (e, le-leb (count b + 0) room (omega arith))
  counted (r ∷ rs) p b h f e =
      let n = shaped_known r (judged_sound p r f.1).shape in
      let v = numbers r.nums in
      by (eqb r.kind k)
      (λ t. let d = eqb-true r.kind k t in
      by (ltb (count b) room)
      (λ l. let i = w.more b r.kind v n f.0 d (ltb-true _ _ l) in
      let j : count b + suc (how_many (is_kind k) rs) ≡ (count b + 1) + how_many (is_kind k) rs = omega arith in
      rw t (counted rs (placed r) (store b r.kind v) (w.within b r.kind v h) f.2 (i.1 ∙ e) ∙ rw (i.0, j)))
      (λ l. let g = ltb-false (count b) room l in
      let m = stuck rs (store b r.kind v) (w.full b r.kind v n f.0 d g) in
      rw (t, m, lt-leb (count b + suc (how_many (is_kind k) rs)) room (omega arith))))
      (λ t. let i = w.other b r.kind v n f.0 (eqb-false r.kind k t) in
      rw t (counted rs (placed r) (store b r.kind v) (w.within b r.kind v h) f.2 (i.1 ∙ e) ∙ rw i.0))

abbrev noted : Built → ℕ → (ℕ → ℕ) → Marks
noted b k v = with_above b.marks (above_after b.marks.above k (count_of k) v b.rig.tasks b.rig.flags)

counts_lines : Counts 4 1024 (λ b. b.rig.lines) (λ b. b.marks.lines)
unfolding store
counts_lines = record {
  within = λ b c v h. by_cases (λ x. x.rig.lines ≤ 1024) c b.rig b.table (noted b c v) v (record {
    counts = λ _. h;
    task = λ _. h;
    condition = λ _. h;
    line = λ _ l. omega arith;
    many = λ _ _. h;
    flag = λ _ _. h;
    crowded = λ _ _. h;
    row = λ _ _ _ _ _ _. h;
    rows = λ _ _ _ _ _ _. h;
  });
  more = λ b c v n f e l. by_cases (λ x. (x.rig.lines ≡ b.rig.lines + 1) × (x.marks.lines ≡ b.marks.lines)) c b.rig b.table (noted b c v) v (record {
    counts = λ d. absurd (omega arith);
    task = λ d. absurd (omega arith);
    condition = λ d. absurd (omega arith);
    line = λ _ _. (refl, refl);
    many = λ _ m. absurd (omega arith);
    flag = λ d _. absurd (omega arith);
    crowded = λ d _. absurd (omega arith);
    row = λ a _ _ _ _ _. absurd (a e);
    rows = λ a _ _ _ _ _. absurd (a e);
  });
  full = λ b c v n f e l. by_cases (λ x. x.marks.lines ≡ 1) c b.rig b.table (noted b c v) v (record {
    counts = λ d. absurd (omega arith);
    task = λ d. absurd (omega arith);
    condition = λ d. absurd (omega arith);
    line = λ _ m. absurd (omega arith);
    many = λ _ _. refl;
    flag = λ d _. absurd (omega arith);
    crowded = λ d _. absurd (omega arith);
    row = λ a _ _ _ _ _. absurd (a e);
    rows = λ a _ _ _ _ _. absurd (a e);
  });
  other = λ b c v n f e. by_cases (λ x. (x.rig.lines ≡ b.rig.lines) × (x.marks.lines ≡ b.marks.lines)) c b.rig b.table (noted b c v) v (record {
    counts = λ _. (refl, refl);
    task = λ _. (refl, refl);
    condition = λ _. (refl, refl);
    line = λ d _. absurd (e d);
    many = λ d _. absurd (e d);
    flag = λ _ _. (refl, refl);
    crowded = λ _ _. (refl, refl);
    row = λ _ _ _ _ _ _. (refl, refl);
    rows = λ _ _ _ _ _ _. (refl, refl);
  });
  stays = λ b c v h. by_cases (λ x. x.marks.lines ≡ 1) c b.rig b.table (noted b c v) v (record {
    counts = λ _. h;
    task = λ _. h;
    condition = λ _. h;
    line = λ _ _. h;
    many = λ _ _. refl;
    flag = λ _ _. h;
    crowded = λ _ _. h;
    row = λ _ _ _ _ _ _. h;
    rows = λ _ _ _ _ _ _. h;
  });
}

counts_rows : Counts 6 64 (λ b. b.rig.rows) (λ b. b.marks.rows)
unfolding store
counts_rows = record {
  within = λ b c v h. by_cases (λ x. x.rig.rows ≤ 64) c b.rig b.table (noted b c v) v (record {
    counts = λ _. h;
    task = λ _. h;
    condition = λ _. h;
    line = λ _ _. h;
    many = λ _ _. h;
    flag = λ _ _. h;
    crowded = λ _ _. h;
    row = λ _ _ _ _ _ l. omega arith;
    rows = λ _ _ _ _ _ _. h;
  });
  more = λ b c v n f e l. by_cases (λ x. (x.rig.rows ≡ b.rig.rows + 1) × (x.marks.rows ≡ b.marks.rows)) c b.rig b.table (noted b c v) v (record {
    counts = λ d. absurd (omega arith);
    task = λ d. absurd (omega arith);
    condition = λ d. absurd (omega arith);
    line = λ d _. absurd (omega arith);
    many = λ d _. absurd (omega arith);
    flag = λ d _. absurd (omega arith);
    crowded = λ d _. absurd (omega arith);
    row = λ _ _ _ _ _ _. (refl, refl);
    rows = λ _ _ _ _ _ m. absurd (omega arith);
  });
  full = λ b c v n f e l. by_cases (λ x. x.marks.rows ≡ 1) c b.rig b.table (noted b c v) v (record {
    counts = λ d. absurd (omega arith);
    task = λ d. absurd (omega arith);
    condition = λ d. absurd (omega arith);
    line = λ d _. absurd (omega arith);
    many = λ d _. absurd (omega arith);
    flag = λ d _. absurd (omega arith);
    crowded = λ d _. absurd (omega arith);
    row = λ _ _ _ _ _ m. absurd (omega arith);
    rows = λ _ _ _ _ _ _. refl;
  });
  other = λ b c v n f e. by_cases (λ x. (x.rig.rows ≡ b.rig.rows) × (x.marks.rows ≡ b.marks.rows)) c b.rig b.table (noted b c v) v (record {
    counts = λ _. (refl, refl);
    task = λ _. (refl, refl);
    condition = λ _. (refl, refl);
    line = λ _ _. (refl, refl);
    many = λ _ _. (refl, refl);
    flag = λ _ _. (refl, refl);
    crowded = λ _ _. (refl, refl);
    row = λ g4 g5 g2 g1 g3 _. absurd (e (six n f g1 g2 g3 g4 g5));
    rows = λ g4 g5 g2 g1 g3 _. absurd (e (six n f g1 g2 g3 g4 g5));
  });
  stays = λ b c v h. by_cases (λ x. x.marks.rows ≡ 1) c b.rig b.table (noted b c v) v (record {
    counts = λ _. h;
    task = λ _. h;
    condition = λ _. h;
    line = λ _ _. h;
    many = λ _ _. h;
    flag = λ _ _. h;
    crowded = λ _ _. h;
    row = λ _ _ _ _ _ _. h;
    rows = λ _ _ _ _ _ _. refl;
  });
}
  where
    six : {c : ℕ} → 0 < c → c < 7 → (c ≡ 1 → ⊥) → (c ≡ 2 → ⊥) → (c ≡ 3 → ⊥) → (c ≡ 4 → ⊥) → (c ≡ 5 → ⊥) → c ≡ 6
    six n f a b c d e = omega arith

-- ---- 4: each task has its T line

-- the task has a T line
unfoldable has_task : ℕ → List Line → Bool
has_task t [] = false
has_task t (r ∷ rs) = is_task_line t r || has_task t rs

has_task_lem : (t : ℕ) (rs : List Line) → has_task t rs ≡ ltb 0 (how_many (is_task_line t) rs)
unfolding has_task how_many
has_task_lem t [] = refl
has_task_lem t (r ∷ rs) = by (is_task_line t r) (λ e. rw e (sym (lt-ltb 0 (suc (how_many (is_task_line t) rs)) (omega arith)))) (λ e. rw e (has_task_lem t rs))

or_more : (a b c : Bool) → (a || (b || c)) ≡ (b || (a || c))
or_more true true c = refl
or_more true false c = refl
or_more false b c = refl

store_tline : (p : ℕ) (b : Built) (r : Line) → judge p r ≡ 0 → (t : ℕ) → t < 65 → length b.marks.tline ≡ 65 →
    (eqb (get_or (store b r.kind (numbers r.nums)).marks.tline t 0) 1 ≡ ((eqb r.kind 2 && eqb (get_or r.nums 0 0) t) || eqb (get_or b.marks.tline t 0) 1))
    × (length (store b r.kind (numbers r.nums)).marks.tline ≡ 65)
unfolding store
store_tline p b r e t h l =
    by_cases (λ x. (eqb (get_or x.marks.tline t 0) 1 ≡ ((eqb k 2 && eqb (v 0) t) || eqb (get_or b.marks.tline t 0) 1)) × (length x.marks.tline ≡ 65))
    k b.rig b.table (noted b k v) v
    (record {
      counts = λ d. (rw (ne_eqb k 2 (omega arith)), l);
      task = λ d. (is d, length-set b.marks.tline (v 0) 1 ∙ l);
      condition = λ d. (rw (ne_eqb k 2 (omega arith)), l);
      line = λ d _. (rw (ne_eqb k 2 (omega arith)), l);
      many = λ d _. (rw (ne_eqb k 2 (omega arith)), l);
      flag = λ d _. (rw (ne_eqb k 2 (omega arith)), l);
      crowded = λ d _. (rw (ne_eqb k 2 (omega arith)), l);
      row = λ _ _ n _ _ _. (rw (ne_eqb k 2 n), l);
      rows = λ _ _ n _ _ _. (rw (ne_eqb k 2 n), l);
    })
  where
    k : ℕ
    k = r.kind

    v : ℕ → ℕ
    v = numbers r.nums

    is : k ≡ 2 → eqb (get_or (set b.marks.tline (v 0) 1) t 0) 1 ≡ ((eqb k 2 && eqb (v 0) t) || eqb (get_or b.marks.tline t 0) 1)
    is d =
        let z : t < length b.marks.tline = omega arith in
        rw (eq-eqb k 2 d, get_d_set b.marks.tline (v 0) t 1 z) (by (eqb (v 0) t) (λ q. rw q) (λ q. rw q))

build_tline : (rs : List Line) (p : ℕ) (b : Built) → Faultless p rs → (t : ℕ) → t < 65 → length b.marks.tline ≡ 65 →
    eqb (get_or (build b rs).marks.tline t 0) 1 ≡ (has_task t rs || eqb (get_or b.marks.tline t 0) 1)
unfolding build has_task
build_tline [] p b w t h l = refl
build_tline (r ∷ rs) p b w t h l =
    let i = store_tline p b r w.1 t h l in
    build_tline rs (placed r) (store b r.kind (numbers r.nums)) w.2 t h i.1
    ∙ (ap (λ (x : Bool). has_task t rs || x) i.0 ∙ (or_more (has_task t rs) (eqb r.kind 2 && eqb (get_or r.nums 0 0) t) (eqb (get_or b.marks.tline t 0) 1)
    ∙ sym (or_assoc (eqb r.kind 2 && eqb (get_or r.nums 0 0) t) (has_task t rs) (eqb (get_or b.marks.tline t 0) 1))))
  where
    or_assoc : (a b c : Bool) → ((a || b) || c) ≡ (a || (b || c))
    or_assoc true b c = refl
    or_assoc false b c = refl

-- ---- 5: at most fifteen flags a cycle

-- a cycle's flags so far and those to come
abbrev few_one : List ℕ → List Line → ℕ → Bool
few_one inside rs c = leb (get_or inside c 0 + how_many (is_flag_line c) rs) 15

record Inside (l : List ℕ) : Type 0 where
  all_of : length l ≡ 64
  few : (c : ℕ) → get_or l c 0 ≤ 15

inside_set : (l : List ℕ) (c : ℕ) → c < 64 → Inside l → get_or l c 0 < 15 → Inside (set l c (get_or l c 0 + 1))
inside_set l c z w h =
    let q = w.all_of in
    record {
      all_of = length-set l c (get_or l c 0 + 1) ∙ w.all_of;
      few = λ d. by (eqb d c)
          (λ t. rw (eqb-true d c t, get_or-set_same l c (get_or l c 0 + 1) 0 (omega arith)) (omega arith))
          (λ t. rw (get_or-set_other l c d (get_or l c 0 + 1) 0 (eqb-false d c t)) (w.few d));
    }

stays_crowded : (b : Built) (c : ℕ) (v : ℕ → ℕ) → b.marks.crowded ≡ 1 → (store b c v).marks.crowded ≡ 1
unfolding store
stays_crowded b c v h =
    by_cases (λ x. x.marks.crowded ≡ 1) c b.rig b.table (noted b c v) v (record {
      counts = λ _. h;
      task = λ _. h;
      condition = λ _. h;
      line = λ _ _. h;
      many = λ _ _. h;
      flag = λ _ _. h;
      crowded = λ _ _. refl;
      row = λ _ _ _ _ _ _. h;
      rows = λ _ _ _ _ _ _. h;
    })

stuck_crowded : (rs : List Line) (b : Built) → b.marks.crowded ≡ 1 → (build b rs).marks.crowded ≡ 1
unfolding build
stuck_crowded [] b e = e
stuck_crowded (r ∷ rs) b e = stuck_crowded rs (store b r.kind (numbers r.nums)) (stays_crowded b r.kind (numbers r.nums) e)

-- what one line does to the flags that a cycle has
record Step (b : Built) (k : ℕ) (v : ℕ → ℕ) (x : Built) : Type 0 where
  room : k ≡ 5 → get_or b.marks.inside (v 0) 0 < 15 → (x.marks.inside ≡ set b.marks.inside (v 0) (get_or b.marks.inside (v 0) 0 + 1)) × (x.marks.crowded ≡ b.marks.crowded)
  full : k ≡ 5 → 15 ≤ get_or b.marks.inside (v 0) 0 → x.marks.crowded ≡ 1
  other : (k ≡ 5 → ⊥) → (x.marks.inside ≡ b.marks.inside) × (x.marks.crowded ≡ b.marks.crowded)

step_of : (b : Built) (k : ℕ) (v : ℕ → ℕ) → Step b k v (store b k v)
unfolding store
step_of b k v =
    by_cases (Step b k v) k b.rig b.table (noted b k v) v (record {
      counts = λ d. record { room = λ e. absurd (omega arith); full = λ e. absurd (omega arith); other = λ _. (refl, refl) };
      task = λ d. record { room = λ e. absurd (omega arith); full = λ e. absurd (omega arith); other = λ _. (refl, refl) };
      condition = λ d. record { room = λ e. absurd (omega arith); full = λ e. absurd (omega arith); other = λ _. (refl, refl) };
      line = λ d _. record { room = λ e. absurd (omega arith); full = λ e. absurd (omega arith); other = λ _. (refl, refl) };
      many = λ d _. record { room = λ e. absurd (omega arith); full = λ e. absurd (omega arith); other = λ _. (refl, refl) };
      flag = λ d h. record { room = λ _ _. (refl, refl); full = λ _ g. absurd (omega arith); other = λ n. absurd (n d) };
      crowded = λ d h. record { room = λ _ g. absurd (omega arith); full = λ _ _. refl; other = λ n. absurd (n d) };
      row = λ _ n _ _ _ _. record { room = λ e. absurd (n e); full = λ e. absurd (n e); other = λ _. (refl, refl) };
      rows = λ _ n _ _ _ _. record { room = λ e. absurd (n e); full = λ e. absurd (n e); other = λ _. (refl, refl) };
    })

build_crowded : (rs : List Line) (p : ℕ) (b : Built) → Faultless p rs → b.marks.crowded ≡ 0 → Inside b.marks.inside →
    eqb (build b rs).marks.crowded 0 ≡ all 64 (few_one b.marks.inside rs)
unfolding build how_many
build_crowded [] p b w e i =
    rw (e, all_all 64 (few_one b.marks.inside []) (λ c h. le-leb (get_or b.marks.inside c 0 + 0) 15 (omega (arith, i.few c))))
build_crowded (r ∷ rs) p b w e i =
    by (eqb r.kind 5)
    (λ t. let d = eqb-true r.kind 5 t in
    let m = cycle_most p r w.1 d in
    let z : get_or r.nums 0 0 < 64 = omega arith in
    by (ltb (get_or b.marks.inside (get_or r.nums 0 0) 0) 15)
    (λ l. let g = ltb-true _ _ l in
    let s = (step_of b r.kind (numbers r.nums)).room d g in
    build_crowded rs (placed r) (store b r.kind (numbers r.nums)) w.2 (s.1 ∙ e) (rw s.0 (inside_set b.marks.inside (get_or r.nums 0 0) z i g))
    ∙ rw s.0 (all_same 64 (few_one (set b.marks.inside (get_or r.nums 0 0) (get_or b.marks.inside (get_or r.nums 0 0) 0 + 1)) rs) (few_one b.marks.inside (r ∷ rs))
    (λ c h. one t c h)))
    (λ l. let g = ltb-false _ _ l in
    let s = stuck_crowded rs (store b r.kind (numbers r.nums)) ((step_of b r.kind (numbers r.nums)).full d g) in
    rw (s, all_not 64 (few_one b.marks.inside (r ∷ rs)) (get_or r.nums 0 0) z (over t g))))
    (λ t. let s = (step_of b r.kind (numbers r.nums)).other (eqb-false r.kind 5 t) in
    build_crowded rs (placed r) (store b r.kind (numbers r.nums)) w.2 (s.1 ∙ e) (rw s.0 i)
    ∙ rw s.0 (all_same 64 (few_one b.marks.inside rs) (few_one b.marks.inside (r ∷ rs)) (λ c h. rw t)))
  where
    one : eqb r.kind 5 ≡ true → (c : ℕ) → c < 64 →
        few_one (set b.marks.inside (get_or r.nums 0 0) (get_or b.marks.inside (get_or r.nums 0 0) 0 + 1)) rs c ≡ few_one b.marks.inside (r ∷ rs) c
    one t c h =
        let q = i.all_of in
        let l : c < length b.marks.inside = omega arith in
        rw (get_d_set b.marks.inside (get_or r.nums 0 0) c (get_or b.marks.inside (get_or r.nums 0 0) 0 + 1) l, t)
        (by (eqb (get_or r.nums 0 0) c)
        (λ d. let j : (get_or b.marks.inside c 0 + 1) + how_many (is_flag_line c) rs ≡ get_or b.marks.inside c 0 + suc (how_many (is_flag_line c) rs) = omega arith in
        rw (d, eqb-true (get_or r.nums 0 0) c d, j))
        (λ d. rw d))

    over : eqb r.kind 5 ≡ true → 15 ≤ get_or b.marks.inside (get_or r.nums 0 0) 0 → few_one b.marks.inside (r ∷ rs) (get_or r.nums 0 0) ≡ false
    over t g =
        rw (t, eq-eqb (get_or r.nums 0 0) (get_or r.nums 0 0) refl)
        (lt-leb (get_or b.marks.inside (get_or r.nums 0 0) 0 + suc (how_many (is_flag_line (get_or r.nums 0 0)) rs)) 15 (omega arith))

-- ---- all five

-- what stands after the RIG line
abbrev pub begun : (ℕ → ℕ) → Built
begun v = built (with_counts no_rig v) no_table no_marks

rig_under : (tasks flags : ℕ) (v : ℕ → ℕ) → all (count_of 1) (under_one tasks flags 1 v) ≡ true
unfolding all count_of counts under sort_of sorts
rig_under tasks flags v = refl

pub after_rig : (k : ℕ) (v : ℕ → ℕ) → k ≡ 1 → store nothing k v ≡ begun v
unfolding store by_kind nothing no_marks above_after
after_rig k v e = rw (e, rig_under 0 0 v)

module _ (r : Line) (rs : List Line) (d : r.kind ≡ 1) (w : Faultless (placed r) rs) (most : get_or r.nums 1 0 ≤ 64) where
  from : build nothing (r ∷ rs) ≡ build (begun (numbers r.nums)) rs
  unfolding build
  from = ap (λ (b : Built). build b rs) (after_rig r.kind (numbers r.nums) d)

  low : 16777216 ≤ placed r
  low = omega (arith, rig_place r d)

  above_say : eqb (build (begun (numbers r.nums)) rs).marks.above 0 ≡ every (line_under (tasks_of (r ∷ rs)) (flags_of (r ∷ rs))) (r ∷ rs)
  unfolding every tasks_of flags_of no_marks
  above_say = (build_above rs (placed r) (begun (numbers r.nums)) low w).0 ∙ rw (d, rig_under (get_or r.nums 1 0) (get_or r.nums 2 0) (numbers r.nums))

  tasks_say : (build (begun (numbers r.nums)) rs).rig.tasks ≡ get_or r.nums 1 0
  tasks_say = (build_above rs (placed r) (begun (numbers r.nums)) low w).1

  lines_say : eqb (build (begun (numbers r.nums)) rs).marks.lines 0 ≡ leb (how_many (is_kind 4) (r ∷ rs)) 1024
  unfolding how_many no_marks
  lines_say = counted 4 1024 (λ b. b.rig.lines) (λ b. b.marks.lines) counts_lines rs (placed r) (begun (numbers r.nums)) (omega arith) w refl ∙ rw (d, zero-add (how_many (is_kind 4) rs))

  rows_say : eqb (build (begun (numbers r.nums)) rs).marks.rows 0 ≡ leb (how_many (is_kind 6) (r ∷ rs)) 64
  unfolding how_many no_marks
  rows_say = counted 6 64 (λ b. b.rig.rows) (λ b. b.marks.rows) counts_rows rs (placed r) (begun (numbers r.nums)) (omega arith) w refl ∙ rw (d, zero-add (how_many (is_kind 6) rs))

  task_say : (i : ℕ) → i < get_or r.nums 1 0 → marked_one (build (begun (numbers r.nums)) rs).marks.tline i ≡ whole.has_task (r ∷ rs) i
  unfolding how_many no_marks
  task_say i h =
      rw add-one
      (build_tline rs (placed r) (begun (numbers r.nums)) w (suc i) (omega arith) (length-replicate {A = ℕ} 65 0)
      ∙ (rw (zeros_at 65 (suc i)) (or_false (has_task (suc i) rs)) ∙ (has_task_lem (suc i) rs ∙ rw d)))
    where
      or_false : (t : Bool) → (t || false) ≡ t
      or_false true = refl
      or_false false = refl

  tline_say : all (build (begun (numbers r.nums)) rs).rig.tasks (marked_one (build (begun (numbers r.nums)) rs).marks.tline) ≡ all (tasks_of (r ∷ rs)) (whole.has_task (r ∷ rs))
  unfolding tasks_of
  tline_say = rw tasks_say (all_same (get_or r.nums 1 0) (marked_one (build (begun (numbers r.nums)) rs).marks.tline) (whole.has_task (r ∷ rs)) task_say)

  crowded_say : eqb (build (begun (numbers r.nums)) rs).marks.crowded 0 ≡ all 64 (few_flags (r ∷ rs))
  unfolding how_many no_marks
  crowded_say =
      build_crowded rs (placed r) (begun (numbers r.nums)) w refl (record { all_of = length-replicate {A = ℕ} 64 0; few = λ c. omega (arith, zeros_at 64 c) })
      ∙ all_same 64 (few_one (zeros 64) rs) (few_flags (r ∷ rs)) (λ c h. rw (zeros_at 64 c, zero-add (how_many (is_flag_line c) rs), d))

  pub marks_say : mark_tests (build nothing (r ∷ rs)).marks (build nothing (r ∷ rs)).rig.tasks ≡ line_tests (r ∷ rs)
  unfolding mark_tests line_tests
  marks_say = rw (from, above_say, lines_say, rows_say, tline_say, crowded_say)
