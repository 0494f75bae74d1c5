-- A table by its rule: the list of what a function gives at the numbers below n.
use Rattle.std.specs.Prelude.{◌≡◌, refl, List, [], ◌∷◌, ℕ, zero, suc, ◌+◌, ◌≤◌, ◌<◌, ltb, length, get_or}
use Rattle.std.proofs.Common.{sym, ◌∙◌, ap, le_of_suc-le-suc, arith, ltb-true, ltb-false}
use Rattle.std.proofs.Math.Path.{fun_ext}
use Rattle.laws.specs.Cases.{by}

-- n entries, of which the first is that of number i
unfoldable pub table_from : {A : Type 0} → ℕ → ℕ → (ℕ → A) → List A
table_from zero i f = []
table_from (suc n) i f = f i ∷ table_from n (suc i) f

abbrev pub table : {A : Type 0} → ℕ → (ℕ → A) → List A
table n f = table_from n 0 f

from_length : {A : Type 0} (n i : ℕ) (f : ℕ → A) → length (table_from n i f) ≡ n
unfolding table_from
from_length zero i f = refl
from_length (suc n) i f = ap suc (from_length n (suc i) f)

from_at : {A : Type 0} (n i : ℕ) (f : ℕ → A) (k : ℕ) (d : A) → k < n → get_or (table_from n i f) k d ≡ f (i + k)
unfolding table_from
from_at zero i f k d h = absurd (omega arith)
from_at (suc n) i f zero d h = ap f (omega arith)
from_at (suc n) i f (suc k) d h = from_at n (suc i) f k d (le_of_suc-le-suc h) ∙ ap f (omega arith)

from_past : {A : Type 0} (n i : ℕ) (f : ℕ → A) (k : ℕ) (d : A) → n ≤ k → get_or (table_from n i f) k d ≡ d
unfolding table_from
from_past zero i f k d h = refl
from_past (suc n) i f zero d h = absurd (omega arith)
from_past (suc n) i f (suc k) d h = from_past n (suc i) f k d (le_of_suc-le-suc h)

module _ {A : Type 0} (n : ℕ) (f : ℕ → A) where
  pub table_length : length (table n f) ≡ n
  table_length = from_length n 0 f

  pub table_at : (k : ℕ) (d : A) → k < n → get_or (table n f) k d ≡ f k
  table_at k d h = from_at n 0 f k d h ∙ ap f (omega arith)

  pub table_past : (k : ℕ) (d : A) → n ≤ k → get_or (table n f) k d ≡ d
  table_past k d h = from_past n 0 f k d h

  -- a function that is d from n on is its table, read by number
  pub table_is : (d : A) → ((k : ℕ) → n ≤ k → f k ≡ d) → (λ (k : ℕ). get_or (table n f) k d) ≡ f
  table_is d past =
      fun_ext λ k.
      by (ltb k n) (λ e. table_at k d (ltb-true k n e))
      (λ e. let h = ltb-false k n e in table_past k d h ∙ sym (past k h))
