-- The lines of a right rig are faultless: shape, sizes and order.
-- Assumes nothing.
use Prim.Native.Nat.{ℕ, zero, suc, ◌+◌, ◌-◌, ◌*◌, ◌/◌, ◌%◌, ◌≤◌, ◌<◌}
use Rattle.std.specs.Prelude.{◌≡◌, ◌≢◌, Bool, true, not, eqb, leb}
use Rattle.std.proofs.Math.Path.{refl, ap, subst}
use Rattle.std.proofs.Common.{sym, ◌∙◌, inl, inr, eqb-true, ne_eqb, lt-ltb, le-leb, ltb-true, leb-true}
use Rattle.std.proofs.lemmas.Bool.{false≢true, eqb-false}
use mathlib.Core.List.{List, [], ◌∷◌, ◌++◌, append-nil}
use native.Mathlib.Omega.{arith}
use Rattle.std.proofs.Math.ListN.{get_or}
use Rattle.laws.specs.Cases.{by}
use Rattle.laws.specs.Laws.All.{and_right}
use Rattle.rig.specs.declared.Cycle.{Cycle}
use Rattle.rig.specs.declared.Rig.{Rig}
use Rattle.rig.specs.Rules.{no_cycle, Right, Rises}
use Rattle.rig.specs.Forms.{cycle_flags, table_of}
use Rattle.rig_lines.specs.Kinds.{keys, keys_of, keyed, place_in_order, follows}
use Rattle.rig_lines.specs.Line.{Line, placed, ordered, judge}
use Rattle.rig_lines.specs.Laws.Judged.{Faultless, sound_judged}
use Rattle.rig_write.specs.Kept.{kept}
use Rattle.rig_write.specs.File.{rig_line, is_task, task_line, is_condition, condition_line, is_line, flag_line, table_flag_at, is_flag, cycle_line, is_row, row_line, lines_from}
use Rattle.rig_write.specs.Laws.Sized.{Good, rig_good, task_good, condition_good, line_good, cycle_good, row_good, mapped_at}

-- the place of the last line, p where there is none
unfoldable pub last_of : ℕ → List Line → ℕ
last_of p [] = p
last_of p (r ∷ rs) = last_of (placed r) rs

last_append : (p : ℕ) (a b : List Line) → last_of p (a ++ b) ≡ last_of (last_of p a) b
unfolding last_of
last_append p [] b = refl
last_append p (r ∷ rs) b = last_append (placed r) rs b

pub faultless_append : (p : ℕ) (a b : List Line) → Faultless p a → Faultless (last_of p a) b → Faultless p (a ++ b)
unfolding last_of
faultless_append p [] b u v = v
faultless_append p (r ∷ rs) b u v = (u.0, u.1, faultless_append (placed r) rs b u.2 v)

-- a good line after one that is there
judged_after : (p : ℕ) (r : Line) → Good r → 0 < p → (r.kind ≡ 6 → ⊥) → p < placed r → judge p r ≡ 0
unfolding ordered follows
judged_after p r w h n l =
    sound_judged p r (record { shape = w.shape; size = w.size; order = rw (ne_eqb p 0 (omega arith), ne_eqb r.kind 6 n) (lt-ltb p (placed r) l) })

judged_row : (p : ℕ) (r : Line) → Good r → 0 < p → r.kind ≡ 6 → p ≤ placed r → judge p r ≡ 0
unfolding ordered follows
judged_row p r w h n l = sound_judged p r (record { shape = w.shape; size = w.size; order = row_order r.kind (placed r) n l })
  where
    row_order : (k x : ℕ) → k ≡ 6 → p ≤ x → follows p k x ≡ true
    row_order k x e y = rw (ne_eqb p 0 (omega arith), e) (le-leb p x y)

-- lines by number whose places rise
pub record Rising (p n : ℕ) (q : ℕ → Bool) (f : ℕ → Line) : Type 0 where
  pub begun : 0 < p
  pub good : (i : ℕ) → i < n → q i ≡ true → Good (f i)
  pub sort : (i : ℕ) → ((f i).kind < 7) × ((f i).kind ≢ 6)
  pub first : (i : ℕ) → i < n → q i ≡ true → p < placed (f i)
  pub rises : (i j : ℕ) → i < j → j < n → q i ≡ true → q j ≡ true → placed (f i) < placed (f j)

-- what is above all of them is above the last
pub last_below : (p n x : ℕ) (q : ℕ → Bool) (f : ℕ → Line) → p < x → ((i : ℕ) → i < n → q i ≡ true → placed (f i) < x) → last_of p (kept n q f) < x
unfolding kept last_of
last_below p zero x q f h k = h
last_below p (suc n) x q f h k =
    by (q n)
    (λ e. rw (e, last_append p (kept n q f) (f n ∷ [])) (k n (omega arith) e))
    (λ e. rw (e, append-nil) (last_below p n x q f h (λ i l t. k i (omega arith) t)))

pub last_above : (p n x : ℕ) (q : ℕ → Bool) (f : ℕ → Line) → x ≤ p → ((i : ℕ) → i < n → q i ≡ true → x ≤ placed (f i)) → x ≤ last_of p (kept n q f)
unfolding kept last_of
last_above p zero x q f h k = h
last_above p (suc n) x q f h k =
    by (q n)
    (λ e. rw (e, last_append p (kept n q f) (f n ∷ [])) (k n (omega arith) e))
    (λ e. rw (e, append-nil) (last_above p n x q f h (λ i l t. k i (omega arith) t)))

pub rising_faultless : (p n : ℕ) (q : ℕ → Bool) (f : ℕ → Line) → Rising p n q f → Faultless p (kept n q f)
unfolding kept
rising_faultless p zero q f w = tt
rising_faultless p (suc n) q f w =
    let before : Rising p n q f =
    record { begun = w.begun; good = λ i h e. w.good i (omega arith) e; sort = w.sort; first = λ i h e. w.first i (omega arith) e; rises = λ i j h k a b. w.rises i j h (omega arith) a b } in
    let i = rising_faultless p n q f before in
    by (q n)
    (λ e. let l = last_below p n (placed (f n)) q f (w.first n (omega arith) e) (λ i h t. w.rises i n h (omega arith) t e) in
    let a = last_above p n 1 q f w.begun (λ i h t. let b = w.first i (omega arith) t in omega arith) in
    rw e (faultless_append p (kept n q f) (f n ∷ []) i ((w.sort n).0, judged_after (last_of p (kept n q f)) (f n) (w.good n (omega arith) e) a (w.sort n).1 l, tt)))
    (λ e. rw (e, append-nil) i)

-- steps that rise one by one rise
pub rise_on : (K : ℕ → ℕ) (n : ℕ) → ((k : ℕ) → k + 1 < n → K k < K (k + 1)) → (i d : ℕ) → suc (i + d) < n → K i < K (suc (i + d))
rise_on K n h i zero l = let z : suc (i + 0) ≡ i + 1 = omega arith in rw z (h i (omega arith))
rise_on K n h i (suc d) l =
    let z : suc (i + suc d) ≡ suc (i + d) + 1 = omega arith in
    let a = rise_on K n h i d (omega arith) in
    let b = h (suc (i + d)) (omega arith) in
    rw z (omega arith)

-- ---- the places of each kind's lines

rig_placed : (g : Rig) → placed (rig_line g) ≡ 16777216
unfolding placed place_in_order keyed keys_of keys
rig_placed g = refl

task_placed : (g : Rig) (t : ℕ) → placed (task_line g t) ≡ 33554432 + t * 65536
unfolding placed place_in_order keyed keys_of keys
task_placed g t = omega arith

condition_placed : (g : Rig) (i : ℕ) → placed (condition_line g i) ≡ 50331648 + (i / 16) * 65536 + (i % 16) * 256
unfolding placed place_in_order keyed keys_of keys
condition_placed g i = omega arith

line_placed : (g : Rig) (i : ℕ) → placed (flag_line g i) ≡ 67108864 + get_or g.line_task i 0 * 65536 + get_or g.line_pos i 0 * 256 + get_or g.line_flag i 0
unfolding placed place_in_order keyed keys_of keys
line_placed g i = omega arith

cycle_placed : (t : List (List ℕ)) (i : ℕ) → placed (cycle_line t i) ≡ 83886080 + (i / 15) * 65536 + table_flag_at t i * 256
unfolding placed place_in_order keyed keys_of keys
cycle_placed t i = omega arith

row_placed : (g : Rig) (i : ℕ) → placed (row_line g i) ≡ 100663296
unfolding placed place_in_order keyed keys_of keys
row_placed g i = refl

module _ (g : Rig) (cycles : List Cycle) (r : Right g cycles) where
  task_is : (t : ℕ) → is_task g t ≡ true → t ≤ 64
  task_is t e = let a = leb-true t g.tasks (and_right (leb 1 t) (leb t g.tasks) e) in let b = r.task_count in omega arith

  tasks_rise : Rising 16777216 65 (is_task g) (task_line g)
  tasks_rise =
      record {
        begun = omega arith;
        good = λ i h e. task_good g cycles r i e;
        sort = λ i. (omega arith, omega arith);
        first = λ i h e. omega (arith, task_placed g i);
        rises = λ i j h k a b. omega (arith, task_placed g i, task_placed g j);
      }

  conditions_rise : (p : ℕ) → 0 < p → p < 50331648 → Rising p 1040 (is_condition g) (condition_line g)
  conditions_rise p z y =
      record {
        begun = z;
        good = λ i h e. condition_good g cycles r i h e;
        sort = λ i. (omega arith, omega arith);
        first = λ i h e. omega (arith, condition_placed g i);
        rises = λ i j h k a b. omega (arith, condition_placed g i, condition_placed g j);
      }

  line_in : (i : ℕ) → is_line g i ≡ true → i < g.lines
  line_in i e = ltb-true i g.lines e

  line_step : (k : ℕ) → k + 1 < g.lines → placed (flag_line g k) < placed (flag_line g (k + 1))
  line_step k h =
      let n = r.task_count in let f = r.flag_count in
      let a = r.lines k (omega arith) in let b = r.lines (k + 1) h in
      let a1 = a.task in let a2 = a.position in let a3 = a.flag in let b1 = b.task in let b2 = b.position in let b3 = b.flag in
      let x = line_placed g k in let y = line_placed g (k + 1) in
      go (get_or g.line_task k 0) (get_or g.line_pos k 0) (get_or g.line_flag k 0) (get_or g.line_task (k + 1) 0) (get_or g.line_pos (k + 1) 0) (get_or g.line_flag (k + 1) 0)
      (placed (flag_line g k)) (placed (flag_line g (k + 1))) x y (omega arith) (omega arith) (omega arith) (omega arith) (r.line_order k h)
    where
      go : (t p f u q h x y : ℕ) → x ≡ 67108864 + t * 65536 + p * 256 + f → y ≡ 67108864 + u * 65536 + q * 256 + h → p ≤ 15 → f ≤ 128 → q ≤ 15 → h ≤ 128 → Rises t p f u q h → x < y
      go t p f u q h x y a b c d e i (inl k) = omega arith
      go t p f u q h x y a b c d e i (inr (j, inl k)) = omega arith
      go t p f u q h x y a b c d e i (inr (j, inr (l, k))) = omega arith

  lines_rise : (p : ℕ) → 0 < p → p < 67108864 → Rising p 1024 (is_line g) (flag_line g)
  lines_rise p z y =
      record {
        begun = z;
        good = λ i h e. line_good g cycles r i e;
        sort = λ i. (omega arith, omega arith);
        first = λ i h e. omega (arith, line_placed g i);
        rises = λ i j h k a b. along i j h (line_in j b);
      }
    where
      along : (i j : ℕ) → i < j → j < g.lines → placed (flag_line g i) < placed (flag_line g j)
      along i j h l =
          let d : suc (i + (j - suc i)) ≡ j = omega arith in
          rw d at (rise_on (λ k. placed (flag_line g k)) g.lines line_step i (j - suc i) (omega arith))

  -- the flags of a cycle, from the table
  pub flag_is : (c n : ℕ) → c < 64 → get_or (get_or (table_of cycles) c []) n 0 ≡ get_or (get_or cycles c no_cycle).flags n 0
  unfolding table_of
  flag_is c n h = let s = r.shaped.sixty_four in ap (λ (l : List ℕ). get_or l n 0) (mapped_at cycle_flags cycles c [] no_cycle (omega arith))

  -- before a flag in a cycle stand lower ones
  pub flag_before : (c n : ℕ) → c < 64 → n < 14 → get_or (get_or (table_of cycles) c []) (n + 1) 0 ≢ 0 →
      (get_or (get_or (table_of cycles) c []) n 0 ≢ 0) × (get_or (get_or (table_of cycles) c []) n 0 < get_or (get_or (table_of cycles) c []) (n + 1) 0)
  flag_before c n h k e =
      let a = flag_is c n h in
      let b = flag_is c (n + 1) h in
      let w = r.cycle_order c h n k (λ q. e (b ∙ q)) in
      ((λ q. w.0 (sym a ∙ q)), omega (arith, w.1))

  flag_rise : (c : ℕ) → c < 64 → (d n : ℕ) → suc (n + d) < 15 → get_or (get_or (table_of cycles) c []) (suc (n + d)) 0 ≢ 0 →
      get_or (get_or (table_of cycles) c []) n 0 < get_or (get_or (table_of cycles) c []) (suc (n + d)) 0
  flag_rise c h zero n k e =
      let z : suc (n + 0) ≡ n + 1 = omega arith in
      rw z (flag_before c n h (omega arith) (rw z at e)).1
  flag_rise c h (suc d) n k e =
      let z : suc (n + suc d) ≡ suc (n + d) + 1 = omega arith in
      let w = flag_before c (suc (n + d)) h (omega arith) (rw z at e) in
      let i = flag_rise c h d n (omega arith) w.0 in
      rw z (omega (arith, w.1))

  flag_some : (i : ℕ) → is_flag (table_of cycles) i ≡ true → table_flag_at (table_of cycles) i ≢ 0
  flag_some i e q = false≢true (sym (ap (λ (x : ℕ). not (eqb x 0)) q) ∙ e)

  flag_most : (i : ℕ) → i < 960 → table_flag_at (table_of cycles) i ≤ 128
  flag_most i h =
      let f = r.flag_count in
      let a = flag_is (i / 15) (i % 15) (omega arith) in
      let b = r.cycle_numbers (i / 15) (omega arith) (i % 15) (omega arith) in
      omega arith

  cycles_rise : (p : ℕ) → 0 < p → p < 83886080 → Rising p 960 (is_flag (table_of cycles)) (cycle_line (table_of cycles))
  cycles_rise p z y =
      record {
        begun = z;
        good = λ i h e. cycle_good g cycles r i h e;
        sort = λ i. (omega arith, omega arith);
        first = λ i h e. omega (arith, cycle_placed (table_of cycles) i);
        rises = λ i j h k a b. by (eqb (i / 15) (j / 15))
            (λ q. let e = eqb-true (i / 15) (j / 15) q in
            let d : suc (i % 15 + (j % 15 - suc (i % 15))) ≡ j % 15 = omega arith in
            let n = flag_some j b in
            let v : get_or (get_or (table_of cycles) (j / 15) []) (i % 15) 0 < table_flag_at (table_of cycles) j =
            rw d at (flag_rise (j / 15) (omega arith) (j % 15 - suc (i % 15)) (i % 15) (omega arith) (rw d n)) in
            let w : table_flag_at (table_of cycles) i < table_flag_at (table_of cycles) j = rw e v in
            omega (arith, cycle_placed (table_of cycles) i, cycle_placed (table_of cycles) j))
            (λ q. let e = eqb-false (i / 15) (j / 15) q in
            omega (arith, cycle_placed (table_of cycles) i, cycle_placed (table_of cycles) j, flag_most i (omega arith)));
      }

  -- the B lines, free among themselves
  rows_faultless : (n p : ℕ) → n ≤ 64 → 0 < p → p ≤ 100663296 → Faultless p (kept n (is_row g) (row_line g)) × (last_of p (kept n (is_row g) (row_line g)) ≤ 100663296) × (0 < last_of p (kept n (is_row g) (row_line g)))
  unfolding kept last_of
  rows_faultless zero p h z y = (tt, y, z)
  rows_faultless (suc n) p h z y =
      let i = rows_faultless n p (omega arith) z y in
      by (is_row g n)
      (λ e. rw (e, last_append p (kept n (is_row g) (row_line g)) (row_line g n ∷ [])) (
        faultless_append p (kept n (is_row g) (row_line g)) (row_line g n ∷ []) i.0
            (omega arith, judged_row (last_of p (kept n (is_row g) (row_line g))) (row_line g n) (row_good g cycles r n e) i.2 refl (omega (arith, row_placed g n, i.1)), tt),
        omega (arith, row_placed g n),
        omega (arith, row_placed g n),
      ))
      (λ e. rw (e, append-nil) i)

  pub rig_faultless : Faultless 0 (lines_from g (table_of cycles))
  unfolding lines_from ordered follows
  rig_faultless =
      let p0 = rig_placed g in
      let first : judge 0 (rig_line g) ≡ 0 = sound_judged 0 (rig_line g) (record { shape = (rig_good g cycles r).shape; size = (rig_good g cycles r).size; order = refl }) in
      let l1 = last_below 16777216 65 50331648 (is_task g) (task_line g) (omega arith) (λ i h e. omega (arith, task_placed g i, task_is i e)) in
      let a1 = last_above 16777216 65 1 (is_task g) (task_line g) (omega arith) (λ i h e. omega (arith, task_placed g i)) in
      let p1 = last_of 16777216 (kept 65 (is_task g) (task_line g)) in
      let l2 = last_below p1 1040 67108864 (is_condition g) (condition_line g) (omega arith) (λ i h e. omega (arith, condition_placed g i)) in
      let a2 = last_above p1 1040 1 (is_condition g) (condition_line g) a1 (λ i h e. omega (arith, condition_placed g i)) in
      let p2 = last_of p1 (kept 1040 (is_condition g) (condition_line g)) in
      let l3 = last_below p2 1024 83886080 (is_line g) (flag_line g) (omega arith) (λ i h e. let n = r.task_count in let f = r.flag_count in let a = r.lines i (line_in i e) in let b1 = a.task in let b2 = a.position in let b3 = a.flag in omega (arith, line_placed g i)) in
      let a3 = last_above p2 1024 1 (is_line g) (flag_line g) a2 (λ i h e. omega (arith, line_placed g i)) in
      let p3 = last_of p2 (kept 1024 (is_line g) (flag_line g)) in
      let l4 = last_below p3 960 100663296 (is_flag (table_of cycles)) (cycle_line (table_of cycles)) (omega arith) (λ i h e. omega (arith, cycle_placed (table_of cycles) i, flag_most i h)) in
      let a4 = last_above p3 960 1 (is_flag (table_of cycles)) (cycle_line (table_of cycles)) a3 (λ i h e. omega (arith, cycle_placed (table_of cycles) i)) in
      let p4 = last_of p3 (kept 960 (is_flag (table_of cycles)) (cycle_line (table_of cycles))) in (
        omega arith,
        first,
        subst (λ (x : ℕ). Faultless x (kept 65 (is_task g) (task_line g) ++ (kept 1040 (is_condition g) (condition_line g) ++ (kept 1024 (is_line g) (flag_line g) ++ (kept 960 (is_flag (table_of cycles)) (cycle_line (table_of cycles)) ++ kept 64 (is_row g) (row_line g)))))) (sym p0)
            (faultless_append 16777216 (kept 65 (is_task g) (task_line g)) (kept 1040 (is_condition g) (condition_line g) ++ (kept 1024 (is_line g) (flag_line g) ++ (kept 960 (is_flag (table_of cycles)) (cycle_line (table_of cycles)) ++ kept 64 (is_row g) (row_line g)))) (rising_faultless 16777216 65 (is_task g) (task_line g) tasks_rise)
            (faultless_append p1 (kept 1040 (is_condition g) (condition_line g)) (kept 1024 (is_line g) (flag_line g) ++ (kept 960 (is_flag (table_of cycles)) (cycle_line (table_of cycles)) ++ kept 64 (is_row g) (row_line g))) (rising_faultless p1 1040 (is_condition g) (condition_line g) (conditions_rise p1 a1 l1))
            (faultless_append p2 (kept 1024 (is_line g) (flag_line g)) (kept 960 (is_flag (table_of cycles)) (cycle_line (table_of cycles)) ++ kept 64 (is_row g) (row_line g)) (rising_faultless p2 1024 (is_line g) (flag_line g) (lines_rise p2 a2 l2))
            (faultless_append p3 (kept 960 (is_flag (table_of cycles)) (cycle_line (table_of cycles))) (kept 64 (is_row g) (row_line g)) (rising_faultless p3 960 (is_flag (table_of cycles)) (cycle_line (table_of cycles)) (cycles_rise p3 a3 l3))
            (rows_faultless 64 p4 (omega arith) a4 (omega arith)).0)))),
      )
