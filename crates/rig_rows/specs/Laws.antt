-- Where the loop over the rows behind the last begins, and that a test of the first rows, or of those behind them, is the test of each by its number.
use Rattle.std.specs.Prelude.{Bool, true, not, ◌&&◌, ◌||◌, List, ℕ, zero, suc, eqb, ◌+◌, ◌-◌, ◌≤◌, ltb, length, take, drop, get_or, ◌≡◌, refl}
use Rattle.std.specs.List.{list_all, list_any}
use Rattle.laws.specs.All.{all, all_of}
use Rattle.laws.specs.Any.{any}
use Rattle.laws.specs.Laws.All.{all_all, all_same, all_on}
use Rattle.std.proofs.Common.{sym, ◌∙◌, ap, arith, lt-ltb, le-ltb, eq-eqb, add-one}
use Rattle.std.proofs.Math.Seq.{take-length}
use Rattle.std.proofs.lemmas.List.{get_or-drop, length-drop}
use Rattle.std.proofs.lemmas.List.Folds.{list_all_more, list_any_more}
use Rattle.laws.specs.Cases.{and_go, or_yes, or_skip}
use Rattle.rig.specs.declared.Row.{Row}
use Rattle.rig.specs.Rules.{no_row, periods}
use Rattle.rig_rows.specs.Tests.{row_tests, rows_b, differ_b, row_zero, row_zero_one, row_zeros_b, is_period, listed_b}

-- the rows before the first that must be 0
pub rows_start : (n : ℕ) (row : List Row) → all n (row_zero_one n row) ≡ true
rows_start n row =
    all_all n (row_zero_one n row) (λ k h. sym (or_yes (ltb k n) (row_zero (get_or row k no_row)) (lt-ltb k n h)))

module _ (p : Row → Bool) (row : List Row) where
  -- the first n rows
  pub first_rows : (n : ℕ) → n ≤ length row → list_all p (take n row) ≡ all n (λ k. p (get_or row k no_row))
  unfolding all
  first_rows zero h = refl
  first_rows (suc n) h =
      rw add-one at (list_all_more p row n no_row (omega arith)) ∙ ap (λ (b : Bool). b && p (get_or row n no_row)) (first_rows n (omega arith))

module _ (p : Row → Bool) (n : ℕ) (row : List Row) where
  -- the rows behind them
  pub last_rows : n ≤ 64 → length row ≡ 64 → list_all p (drop n row) ≡ all 64 (λ k. ltb k n || p (get_or row k no_row))
  last_rows h z =
      let test : ℕ → Bool = λ k. ltb k n || p (get_or row k no_row) in
      let m = 64 - n in
      let long : length (drop n row) ≡ m = length-drop n row ∙ ap (λ (k : ℕ). k - n) z in
      let whole : take m (drop n row) ≡ drop n row = ap (λ (k : ℕ). take k (drop n row)) (sym long) ∙ take-length (drop n row) in
      ap (list_all p) (sym whole) ∙ first_rows p (drop n row) m (omega (arith, long))
      ∙ all_same m (λ k. p (get_or (drop n row) k no_row)) (λ k. test (n + k))
      (λ k g. ap p (get_or-drop n row k no_row) ∙ or_skip (ltb (n + k) n) (p (get_or row (n + k) no_row)) (le-ltb (n + k) n (omega arith)))
      ∙ all_on n m test (all_all n test (λ k g. sym (or_yes (ltb k n) (p (get_or row k no_row)) (lt-ltb k n g))))
      ∙ ap (λ (k : ℕ). all k test) (omega arith)

-- so the loops over the rows compute the tests
pub differ_rows : (n : ℕ) (row : List Row) → n ≤ length row → list_all (λ (b : Row). not (eqb b.sender b.receiver)) (take n row) ≡ differ_b n row
unfolding differ_b
differ_rows n row h = first_rows (λ (b : Row). not (eqb b.sender b.receiver)) row n h

pub right_rows : (n : ℕ) (row : List Row) → n ≤ 64 → length row ≡ 64 → list_all (λ (b : Row). all_of (row_tests b)) (take n row) ≡ rows_b n row
unfolding rows_b
right_rows n row h z = first_rows (λ (b : Row). all_of (row_tests b)) row n (omega (arith, z)) ∙ sym (and_go (eq-eqb (length row) 64 z) refl)

pub zero_rows : (n : ℕ) (row : List Row) → n ≤ 64 → length row ≡ 64 → list_all row_zero (drop n row) ≡ row_zeros_b n row
unfolding row_zeros_b
zero_rows n row h z = last_rows row_zero n row h z

-- a period is one of the list
first_periods : (p n : ℕ) → n ≤ 7 → list_any (λ (x : ℕ). eqb x p) (take n periods) ≡ any n (is_period p)
unfolding any
first_periods p zero h = refl
first_periods p (suc n) h =
    rw add-one at (list_any_more (λ (x : ℕ). eqb x p) periods n 0 (omega arith))
    ∙ ap (λ (b : Bool). b || is_period p n) (first_periods p n (omega arith))

pub period_listed : (p : ℕ) → list_any (λ (x : ℕ). eqb x p) periods ≡ listed_b p
unfolding listed_b
period_listed p = first_periods p 7 (omega arith)
