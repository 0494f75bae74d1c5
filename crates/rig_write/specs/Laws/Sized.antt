-- The lines of a right rig have the right shape and sizes.
-- Assumes nothing.
use Prim.Native.Nat.{ℕ, zero, suc, ◌+◌, ◌/◌, ◌%◌, ◌≤◌, ◌<◌}
use Rattle.std.proofs.Math.Path.{◌≡◌, refl, sym}
use Rattle.std.proofs.Common.{◌∙◌, inl, inr}
use Rattle.std.specs.Prelude.{eqb, leb, length}
use Rattle.std.proofs.Math.Bool.{true, not}
use Rattle.std.proofs.lemmas.Bool.{false≢true}
use mathlib.Core.List.{List, [], ◌∷◌, map}
use native.Mathlib.Omega.{arith}
use Rattle.std.proofs.Math.ListN.{get_or}
use borrow.Author.Tests.{eqb-true, leb-true, ltb-true, ne_eqb, le-leb, lt-ltb}
use Rattle.laws.specs.Laws.All.{and_left, and_right}
use Rattle.laws.specs.Members.{In}
use Rattle.rig.specs.declared.Cycle.{Cycle}
use Rattle.rig.specs.declared.Rig.{Rig}
use Rattle.rig.specs.Rules.{no_row, no_cycle, periods, Right}
use Rattle.rig.specs.Forms.{cycle_flags, table_of}
use Rattle.rig_whole.specs.Laws.Tree.{controllers_low}
use Rattle.decimal.specs.Decimal.{cap}
use Rattle.rig_lines.specs.Kinds.{counts, lows, highs, count_of, low_of, high_of, within, period_listed, timed}
use Rattle.rig_lines.specs.Laws.Kinds.{within_fits, within_small}
use Rattle.rig_lines.specs.Line.{Line, decimals, shaped, fits, sized}
use Rattle.rig_lines.specs.Laws.Judged.{shaped_if, sized_if}
use Rattle.rig_write.specs.File.{rig_line, is_task, task_line, is_condition, condition_line, is_line, flag_line, is_flag, cycle_line, is_row, row_line}

-- shape and sizes of a line
pub record Good (r : Line) : Type 0 where
  pub shape : shaped r ≡ true
  pub size : sized r ≡ true

fits_none : (k f : ℕ) → fits k f [] ≡ true
unfolding fits
fits_none k f = refl

fits_more : (k f n : ℕ) (ns : List ℕ) → low_of k f ≤ n → n ≤ high_of k f → fits k (f + 1) ns ≡ true → fits k f (n ∷ ns) ≡ true
unfolding fits
fits_more k f n ns a b e = rw (← within_fits k f n a b) e

-- what fits is a decimal
fits_decimals : (k f : ℕ) (ns : List ℕ) → fits k f ns ≡ true → decimals ns ≡ true
unfolding fits decimals
fits_decimals k f [] e = refl
fits_decimals k f (n ∷ ns) e =
    let h = within_small k f n (and_left (within k f n) (fits k (f + 1) ns) e) in
    rw (le-leb n cap (omega arith)) (fits_decimals k (f + 1) ns (and_right (within k f n) (fits k (f + 1) ns) e))

good : (r : Line) → 0 < r.kind → length r.nums ≡ count_of r.kind → fits r.kind 0 r.nums ≡ true → timed r.kind r.nums ≡ true → Good r
good r a b c d = record { shape = shaped_if r a b (fits_decimals r.kind 0 r.nums c); size = sized_if r c d }

-- an element of a mapped list
pub mapped_at : {A B : Type 0} (f : A → B) (l : List A) (i : ℕ) (e : B) (d : A) → i < length l → get_or (map f l) i e ≡ f (get_or l i d)
mapped_at f [] i e d h = absurd (omega arith)
mapped_at f (x ∷ xs) zero e d h = refl
mapped_at f (x ∷ xs) (suc i) e d h = mapped_at f xs i e d (omega arith)

timed_other : (k : ℕ) (v : List ℕ) → (k ≡ 6 → ⊥) → timed k v ≡ true
unfolding timed
timed_other k v n = rw (ne_eqb k 6 n)

-- "periods 1, 2, 4, 8, 16, 32, 64, phase below the period"
period_as : (p q : ℕ) → p ≡ q → (period_listed q ≡ true) × (1 ≤ q) × (q ≤ 64) → (period_listed p ≡ true) × (1 ≤ p) × (p ≤ 64)
period_as p q e w = rw e w

pub period_listed_lem : (p : ℕ) → In p periods → (period_listed p ≡ true) × (1 ≤ p) × (p ≤ 64)
unfolding period_listed
period_listed_lem p (inl e) = period_as p 1 e (refl, omega arith, omega arith)
period_listed_lem p (inr (inl e)) = period_as p 2 e (refl, omega arith, omega arith)
period_listed_lem p (inr (inr (inl e))) = period_as p 4 e (refl, omega arith, omega arith)
period_listed_lem p (inr (inr (inr (inl e)))) = period_as p 8 e (refl, omega arith, omega arith)
period_listed_lem p (inr (inr (inr (inr (inl e))))) = period_as p 16 e (refl, omega arith, omega arith)
period_listed_lem p (inr (inr (inr (inr (inr (inl e)))))) = period_as p 32 e (refl, omega arith, omega arith)
period_listed_lem p (inr (inr (inr (inr (inr (inr (inl e))))))) = period_as p 64 e (refl, omega arith, omega arith)
period_listed_lem p (inr (inr (inr (inr (inr (inr (inr z))))))) = absurd z

timely : (a b c d e p q : ℕ) → period_listed p ≡ true → q < p → timed 6 (a ∷ b ∷ c ∷ d ∷ e ∷ p ∷ q ∷ []) ≡ true
unfolding timed
timely a b c d e p q l h = rw (l, lt-ltb q p h)

module _ (g : Rig) (cycles : List Cycle) (r : Right g cycles) where
  pub rig_good : Good (rig_line g)
  unfolding low_of high_of lows highs count_of counts
  rig_good =
      let t = r.task_count in let f = r.flag_count in let m = r.master_address in
      good (rig_line g) (omega arith) refl
      (fits_more 1 0 1 _ (omega arith) (omega arith) (fits_more 1 1 g.tasks _ (omega arith) (omega arith)
      (fits_more 1 2 g.flags _ (omega arith) (omega arith) (fits_more 1 3 g.master _ (omega arith) (omega arith) (fits_none 1 4)))))
      (timed_other 1 _ (omega arith))

  task_of : (t : ℕ) → is_task g t ≡ true → (1 ≤ t) × (t ≤ g.tasks)
  task_of t e = (leb-true _ _ (and_left (leb 1 t) (leb t g.tasks) e), leb-true _ _ (and_right (leb 1 t) (leb t g.tasks) e))

  pub task_good : (t : ℕ) → is_task g t ≡ true → Good (task_line g t)
  unfolding low_of high_of lows highs count_of counts
  task_good t e =
      let w = task_of t e in
      let n = r.task_count in let f = r.flag_count in
      let c = controllers_low g n.1 r.controllers t w.0 (omega arith) in
      let p = r.priorities t (omega arith) in
      let q = r.privileges t (omega arith) in
      let a = r.activation_numbers t (omega arith) in
      good (task_line g t) (omega arith) refl
      (fits_more 2 0 t _ (omega arith) (omega arith) (fits_more 2 1 (get_or g.controller t 0) _ (omega arith) (omega arith)
      (fits_more 2 2 (get_or g.priority t 0) _ (omega arith) (omega arith) (fits_more 2 3 (get_or g.privileged t 0) _ (omega arith) (omega arith)
      (fits_more 2 4 (get_or g.activation t 0) _ (omega arith) (omega arith) (fits_none 2 5))))))
      (timed_other 2 _ (omega arith))

  pub condition_good : (i : ℕ) → i < 1040 → is_condition g i ≡ true → Good (condition_line g i)
  unfolding low_of high_of lows highs count_of counts
  condition_good i h e =
      let d = eqb-true (get_or g.present i 0) 1 e in
      let n = r.task_count in
      let v = r.conditions i h in
      let w = r.condition_numbers i h (λ z. let y : ◌≡◌ {A = ℕ} 1 0 = sym d ∙ z in omega arith) in
      let a = v.latched in let b = v.desired in let u = w.0 in let x = w.1 in
      good (condition_line g i) (omega arith) refl
      (fits_more 3 0 (i / 16) _ (omega arith) (omega arith) (fits_more 3 1 (i % 16) _ (omega arith) (omega arith)
      (fits_more 3 2 (get_or g.latched i 0) _ (omega arith) (omega arith) (fits_more 3 3 (get_or g.desired i 0) _ (omega arith) (omega arith) (fits_none 3 4)))))
      (timed_other 3 _ (omega arith))

  pub line_good : (i : ℕ) → is_line g i ≡ true → Good (flag_line g i)
  unfolding low_of high_of lows highs count_of counts
  line_good i e =
      let h = ltb-true i g.lines e in
      let n = r.task_count in let f = r.flag_count in
      let w = r.lines i h in
      let a = w.task in let b = w.position in let c = w.flag in
      good (flag_line g i) (omega arith) refl
      (fits_more 4 0 (get_or g.line_task i 0) _ (omega arith) (omega arith) (fits_more 4 1 (get_or g.line_pos i 0) _ (omega arith) (omega arith)
      (fits_more 4 2 (get_or g.line_flag i 0) _ (omega arith) (omega arith) (fits_none 4 3))))
      (timed_other 4 _ (omega arith))

  pub row_good : (i : ℕ) → is_row g i ≡ true → Good (row_line g i)
  unfolding low_of high_of lows highs count_of counts
  row_good i e =
      let h = ltb-true i g.rows e in
      let w = r.rows i h in
      let b = get_or g.row i no_row in
      let p = period_listed_lem b.period w.period in
      let a1 = w.sender in let a2 = w.sender_sub in let a3 = w.receiver in let a4 = w.receiver_sub in let a5 = w.words in let a6 = w.phase in let a7 = p.1 in let a8 = p.2 in
      good (row_line g i) (omega arith) refl
      (fits_more 6 0 b.sender _ (omega arith) (omega arith) (fits_more 6 1 b.sender_sub _ (omega arith) (omega arith)
      (fits_more 6 2 b.receiver _ (omega arith) (omega arith) (fits_more 6 3 b.receiver_sub _ (omega arith) (omega arith)
      (fits_more 6 4 b.words _ (omega arith) (omega arith) (fits_more 6 5 b.period _ (omega arith) (omega arith)
      (fits_more 6 6 b.phase _ (omega arith) (omega arith) (fits_none 6 7))))))))
      (timely b.sender b.sender_sub b.receiver b.receiver_sub b.words b.period b.phase p.0 w.phase)

  pub cycle_good : (i : ℕ) → i < 960 → is_flag (table_of cycles) i ≡ true → Good (cycle_line (table_of cycles) i)
  unfolding low_of high_of lows highs count_of counts table_of
  cycle_good i h e =
      let f = r.flag_count in
      let s = r.shaped.sixty_four in
      let q : get_or (map cycle_flags cycles) (i / 15) [] ≡ (get_or cycles (i / 15) no_cycle).flags = mapped_at cycle_flags cycles (i / 15) [] no_cycle (omega arith) in
      let m : get_or (get_or (map cycle_flags cycles) (i / 15) []) (i % 15) 0 ≤ g.flags = rw q (r.cycle_numbers (i / 15) (omega arith) (i % 15) (omega arith)) in
      let z : 1 ≤ get_or (get_or (map cycle_flags cycles) (i / 15) []) (i % 15) 0 = some (get_or (get_or (map cycle_flags cycles) (i / 15) []) (i % 15) 0) e in
      good (cycle_line (map cycle_flags cycles) i) (omega arith) refl
      (fits_more 5 0 (i / 15) _ (omega arith) (omega arith) (fits_more 5 1 (get_or (get_or (map cycle_flags cycles) (i / 15) []) (i % 15) 0) _ (omega arith) (omega arith) (fits_none 5 2)))
      (timed_other 5 _ (omega arith))
    where
      some : (f : ℕ) → not (eqb f 0) ≡ true → 1 ≤ f
      some zero d = absurd (false≢true d)
      some (suc f) d = omega arith
