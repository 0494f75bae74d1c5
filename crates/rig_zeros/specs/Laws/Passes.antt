-- The tests of zeros table by table, as the loops that do not leave early compute them.
use Rattle.std.specs.Prelude.{◌≡◌, refl, ◌⊎◌, Bool, true, false, ◌&&◌, ◌||◌, List, ℕ, ◌+◌, ◌-◌, ◌*◌, ◌≤◌, ◌<◌, length, take, drop, eqb, leb, ltb}
use Rattle.std.proofs.Common.{sym, ◌∙◌, arith, eqb-true, leb-true, leb-false, ltb-true, ltb-false}
use Rattle.std.proofs.Math.Path.{ap}
use Rattle.std.proofs.lemmas.Bool.{eqb-false}
use Rattle.std.proofs.lemmas.List.{get_or-take, get_or-drop, length-take-le, length-drop, take_rest}
use Rattle.laws.specs.Cases.{by, or_skip}
use Rattle.laws.specs.All.{all, since}
use Rattle.laws.specs.Laws.All.{all_same, all_and, all_three, since_start}
use Rattle.laws.specs.Largest.{zero_next}
use Rattle.laws.specs.Laws.Decides.{is_eqb, is_leb, is_ltb, is_and, is_else, is_all, is_said, is_same}
use Rattle.rig_tables.specs.Tests.{at, within, small_one, condition_tasks_b, task_zero_one, task_zeros_b, line_zero_one, line_zeros_b}
use Rattle.rig_tables.specs.Laws.Passes.{zero_one, within_above}

-- 0 from a place on
abbrev pub zero_from : ℕ → List ℕ → ℕ → Bool
zero_from from l = since from (zero_one l)

or_three : (o a b c : Bool) → (o || (a && (b && c))) ≡ ((o || a) && ((o || b) && (o || c)))
or_three true a b c = refl
or_three false a b c = refl

pub line_zeros_each : (n : ℕ) (line_task line_pos line_flag : List ℕ)
    → line_zeros_b n line_task line_pos line_flag ≡ (all 1024 (zero_from n line_task) && (all 1024 (zero_from n line_pos) && all 1024 (zero_from n line_flag)))
unfolding line_zeros_b
line_zeros_each n line_task line_pos line_flag =
    all_same 1024 (line_zero_one n line_task line_pos line_flag) (λ k. zero_from n line_task k && (zero_from n line_pos k && zero_from n line_flag k))
    (λ k h. or_three (ltb k n) (eqb (at line_task k) 0) (eqb (at line_pos k) 0) (eqb (at line_flag k) 0))
    ∙ all_three 1024 (zero_from n line_task) (zero_from n line_pos) (zero_from n line_flag)

-- no condition of task 0, none of a task above the last
module _ (tasks : ℕ) (present : List ℕ) where
  abbrev Inside : ℕ → Type 0
  Inside p = (16 ≤ p) × (p < 16 * (tasks + 1))

  abbrev Outside : Type 0
  Outside = ((i : ℕ) → i < 16 → (i < 0 → ⊥) → at present i ≡ 0) × ((i : ℕ) → i < 1040 → (i < 16 * (tasks + 1) → ⊥) → at present i ≡ 0)

  outside : ((p : ℕ) → p < 1040 → (at present p ≡ 0 → ⊥) → Inside p) → Outside
  outside f = ((λ i h n. none i (omega (arith, h)) (λ w. omega (arith, w.0, h))), (λ i h n. none i h (λ w. n w.1)))
    where
      none : (i : ℕ) → i < 1040 → (Inside i → ⊥) → at present i ≡ 0
      none i h n =
          by (eqb (at present i) 0) (eqb-true (at present i) 0) (λ e. absurd (n (f i h (eqb-false (at present i) 0 e))))

  inside : Outside → (p : ℕ) → p < 1040 → (at present p ≡ 0 → ⊥) → Inside p
  inside w p h n = (
    by (leb 16 p) (leb-true 16 p) (λ e. absurd (n (w.0 p (leb-false 16 p e) (λ z. omega (arith, z))))),
    by (ltb p (16 * (tasks + 1))) (ltb-true p (16 * (tasks + 1)))
        (λ e. absurd (n (w.1 p h (λ z. omega (arith, z, ltb-false p (16 * (tasks + 1)) e))))),
  )

  pub condition_tasks_each : condition_tasks_b tasks present ≡ (all 16 (zero_from 0 present) && all 1040 (zero_from (16 * (tasks + 1)) present))
  unfolding condition_tasks_b
  condition_tasks_each =
      is_same
      (is_said (is_all 1040 (λ p h. is_else (is_eqb (at present p) 0) (is_and (is_leb 16 p) (is_ltb p (16 * (tasks + 1)))))) outside inside)
      (is_and
      (is_all 16 (λ i h. is_else (is_ltb i 0) (is_eqb (at present i) 0)))
      (is_all 1040 (λ i h. is_else (is_ltb i (16 * (tasks + 1))) (is_eqb (at present i) 0))))

-- from one place on the table is 0 where what stands from there is
pub zeros_rest : (from : ℕ) (l : List ℕ)
    → all (length (take (length l - from) (drop from l))) (small_one (take (length l - from) (drop from l)) 0) ≡ all (length l) (zero_from from l)
zeros_rest from l =
    ap (λ (d : List ℕ). all (length d) (small_one d 0)) (take_rest l from)
    ∙ is_same
    (is_said (is_all (length (drop from l)) (λ k h. is_leb (at (drop from l) k) 0)) there back)
    (is_all (length l) (λ i h. is_else (is_ltb i from) (is_eqb (at l i) 0)))
  where
    there : ((k : ℕ) → k < length (drop from l) → at (drop from l) k ≤ 0) → (i : ℕ) → i < length l → (i < from → ⊥) → at l i ≡ 0
    there f i h n =
        let g : from ≤ i = by (ltb i from) (λ e. absurd (n (ltb-true i from e))) (ltb-false i from) in
        let e : from + (i - from) ≡ i = omega (arith, g) in
        omega (arith, f (i - from) (omega (arith, length-drop from l, g, h)), get_or-drop from l (i - from) 0, ap (at l) e)

    back : ((i : ℕ) → i < length l → (i < from → ⊥) → at l i ≡ 0) → (k : ℕ) → k < length (drop from l) → at (drop from l) k ≤ 0
    back f k h =
        omega (arith, f (from + k) (omega (arith, length-drop from l, h)) (λ z. omega (arith, z)), get_or-drop from l k 0)

pub past_zeros : (from : ℕ) (l : List ℕ) → length l ≤ from → all (length l) (zero_from from l) ≡ true
past_zeros from l h = since_start from (zero_one l) (length l) h

-- the first n entries, taken out of their table
pub zeros_first : (n from : ℕ) (l : List ℕ) → n ≤ length l → all (length (take n l)) (zero_from from (take n l)) ≡ all n (zero_from from l)
zeros_first n from l h =
    ap (λ (m : ℕ). all m (zero_from from (take n l))) (length-take-le n l h)
    ∙ all_same n (zero_from from (take n l)) (zero_from from l) (λ k g. ap (λ (x : ℕ). ltb k from || eqb x 0) (get_or-take n l k 0 g))

-- at 0 and above the last task, an entry is 0
abbrev pub beyond_one : ℕ → List ℕ → ℕ → Bool
beyond_one tasks l t = within 1 t tasks || eqb (at l t) 0

module _ (tasks : ℕ) (l : List ℕ) where
  pub beyond_each : all 65 (beyond_one tasks l) ≡ (eqb (at l 0) 0 && all 65 (zero_from (tasks + 1) l))
  beyond_each =
      is_same
      (is_said (is_all 65 (λ t h. is_else (is_and (is_leb 1 t) (is_leb t tasks)) (is_eqb (at l t) 0))) there back)
      (is_and (is_eqb (at l 0) 0) (is_all 65 (λ t h. is_else (is_ltb t (tasks + 1)) (is_eqb (at l t) 0))))
    where
      there : ((t : ℕ) → t < 65 → ((1 ≤ t) × (t ≤ tasks) → ⊥) → at l t ≡ 0)
          → (at l 0 ≡ 0) × ((t : ℕ) → t < 65 → (t < tasks + 1 → ⊥) → at l t ≡ 0)
      there f = (f 0 (omega arith) (λ w. omega (arith, w.0)), (λ t h n. f t h (λ w. n (omega (arith, w.1)))))

      back : (at l 0 ≡ 0) × ((t : ℕ) → t < 65 → (t < tasks + 1 → ⊥) → at l t ≡ 0)
          → (t : ℕ) → t < 65 → ((1 ≤ t) × (t ≤ tasks) → ⊥) → at l t ≡ 0
      back w t h n =
          by (eqb t 0) (λ e. rw (eqb-true t 0 e) w.0)
          (λ e. w.1 t h (λ z. n (omega (arith, eqb-false t 0 e), omega (arith, z))))

  -- the same by the largest entry so far, as a loop that keeps it has it
  abbrev pub Beyond : ℕ → ℕ → Type 0
  Beyond most i = eqb most 0 ≡ all i (beyond_one tasks l)

  -- up to the last task, only the entry at 0 counts
  beyond_start : (n : ℕ) → 1 ≤ n → n ≤ tasks + 1 → Beyond (at l 0) n
  beyond_start n a b =
      is_same (is_eqb (at l 0) 0)
      (is_said (is_all n (λ k h. is_else (is_and (is_leb 1 k) (is_leb k tasks)) (is_eqb (at l k) 0)))
      (λ f. f 0 (omega (arith, a)) (λ w. omega (arith, w.0)))
      (λ e k h none.
      by (eqb k 0) (λ q. rw (eqb-true k 0 q) e)
      (λ q. absurd (none (omega (arith, eqb-false k 0 q), omega (arith, h, b))))))

  -- and above it each
  pub beyond_next : (most i : ℕ) → Beyond most i → tasks < i → {new : ℕ} {A B : Type 0} → (A × (new ≡ at l i)) ⊎ (B × (new ≡ most))
      → (A → most < at l i) → (B → at l i ≤ most) → Beyond new (i + 1)
  beyond_next most i p h =
      zero_next most i (beyond_one tasks l) (at l i) p (sym (or_skip (within 1 i tasks) (eqb (at l i) 0) (within_above 1 i tasks h)))

  -- where the loop ends: behind the table, or at once
  beyond_end : (i a : ℕ) → Beyond a i → tasks + 1 ≤ i → i - (tasks + 1) ≤ 65 - (tasks + 1) → 65 ≤ i → Beyond a 65
  beyond_end i a p b d e =
      p
      ∙ by (ltb 65 (tasks + 1))
      (λ q.
      let g = ltb-true 65 (tasks + 1) q in
      sym (beyond_start i (omega (arith, e)) (omega (arith, d, g))) ∙ beyond_start 65 (omega arith) (omega (arith, g)))
      (λ q. ap (λ (k : ℕ). all k (beyond_one tasks l)) (omega (arith, b, d, e, ltb-false 65 (tasks + 1) q)))

or_four : (o a b c d : Bool) → (o || (a && (b && (c && d)))) ≡ ((o || a) && ((o || b) && ((o || c) && (o || d))))
or_four true a b c d = refl
or_four false a b c d = refl

module _ (tasks : ℕ) (controller priority privileged activation : List ℕ) where
  pub task_zeros_each : task_zeros_b tasks controller priority privileged activation
      ≡ (all 65 (beyond_one tasks controller)
      && (all 65 (beyond_one tasks priority) && (all 65 (beyond_one tasks privileged) && all 65 (beyond_one tasks activation))))
  unfolding task_zeros_b
  task_zeros_each =
      all_same 65 (task_zero_one tasks controller priority privileged activation)
      (λ t. beyond_one tasks controller t && (beyond_one tasks priority t && (beyond_one tasks privileged t && beyond_one tasks activation t)))
      (λ t h.
      or_four (within 1 t tasks) (eqb (at controller t) 0) (eqb (at priority t) 0) (eqb (at privileged t) 0) (eqb (at activation t) 0))
      ∙ all_and 65 (beyond_one tasks controller) (λ t. beyond_one tasks priority t && (beyond_one tasks privileged t && beyond_one tasks activation t))
      ∙ ap (λ (x : Bool). all 65 (beyond_one tasks controller) && x)
      (all_three 65 (beyond_one tasks priority) (beyond_one tasks privileged) (beyond_one tasks activation))

  -- of four tables at once: the largest entry of each
  abbrev pub Largest : ℕ → ℕ → ℕ → ℕ → ℕ → Type 0
  Largest a b c d i = Beyond tasks controller a i × (Beyond tasks priority b i × (Beyond tasks privileged c i × Beyond tasks activation d i))

  pub largest_start : (n : ℕ) → 1 ≤ n → n ≤ tasks + 1 → Largest (at controller 0) (at priority 0) (at privileged 0) (at activation 0) n
  largest_start n h g =
      (beyond_start tasks controller n h g, (beyond_start tasks priority n h g, (beyond_start tasks privileged n h g, beyond_start tasks activation n h g)))

  pub largest_end : (a b c d i : ℕ) → Largest a b c d i → tasks + 1 ≤ i → i - (tasks + 1) ≤ 65 - (tasks + 1) → 65 ≤ i
      → (eqb a 0 && (eqb b 0 && (eqb c 0 && eqb d 0))) ≡ task_zeros_b tasks controller priority privileged activation
  largest_end a b c d i p f g h =
      rw (
        beyond_end tasks controller i a p.0 f g h,
        beyond_end tasks priority i b p.1.0 f g h,
        beyond_end tasks privileged i c p.1.1.0 f g h,
        beyond_end tasks activation i d p.1.1.1 f g h,
      )
      (sym task_zeros_each)
