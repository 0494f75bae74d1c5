-- The lowest position that blocks, looked for from position 0 on: the first that is found is kept.
use Rattle.std.specs.Prelude.{◌≡◌, refl, ◌⊎◌, ◌≢◌, Bool, true, false, not, List, ℕ, ◌+◌, ◌≤◌, ◌<◌}
use Rattle.std.proofs.Common.{sym, ◌∙◌, inl, inr, ⊎_elim, arith}
use Rattle.laws.specs.All.{all}
use Rattle.laws.specs.Lowest.{lowest}
use Rattle.laws.specs.Laws.All.{all_zero, all_next, all_at}
use Rattle.start_tests.specs.Tables.{lowest_in}
use Rattle.laws.specs.Laws.Lowest.{lowest_is, lowest_most, lowest_none}

-- of the first p positions: all are clear, and `low` is still n; or `low` blocks, and those below it are clear
pub record Clear (n : ℕ) (test : ℕ → Bool) (p low : ℕ) : Type 0 where
  pub none : low ≡ n
  pub all_clear : all p test ≡ true

pub record Blocks (test : ℕ → Bool) (p low : ℕ) : Type 0 where
  pub found : low < p
  pub blocks : test low ≡ false
  pub below : all low test ≡ true

abbrev pub Low : ℕ → (ℕ → Bool) → ℕ → ℕ → Type 0
Low n test p low = Clear n test p low ⊎ Blocks test p low

module _ (n : ℕ) (test : ℕ → Bool) where
  pub low_start : Low n test 0 n
  low_start = inl (record { none = refl; all_clear = all_zero test })

  module _ (p low new : ℕ) (h : Low n test p low) where
    pub low_first : p < n → test p ≡ false → low ≡ n → new ≡ p → Low n test (p + 1) new
    low_first l f e q =
        ⊎_elim (λ c. inr (record { found = omega arith; blocks = rw q f; below = rw q c.all_clear }))
        (λ b. absurd (omega (arith, l, e, b.found))) h

    pub low_later : low ≢ n → new ≡ low → Low n test (p + 1) new
    low_later f q =
        ⊎_elim (λ c. absurd (f c.none)) (λ b. inr (record { found = omega (arith, q, b.found); blocks = rw q b.blocks; below = rw q b.below })) h

    pub low_clear : test p ≡ true → new ≡ low → Low n test (p + 1) new
    low_clear e q =
        ⊎_elim (λ c. inl (record { none = q ∙ c.none; all_clear = all_next p test c.all_clear e }))
        (λ b. inr (record { found = omega (arith, q, b.found); blocks = rw q b.blocks; below = rw q b.below })) h

  pub low_most : (p low : ℕ) → Low n test p low → p ≤ n → low ≤ n
  low_most p low h l = ⊎_elim (λ c. omega (arith, c.none)) (λ b. omega (arith, l, b.found)) h

  passes : (k m : ℕ) → all m test ≡ true → k < m → not (test k) ≡ false
  passes k m e l = rw (all_at m test e k l)

  pub low_done : (low : ℕ) → Low n test n low → low ≡ lowest n (λ k. not (test k))
  low_done low h =
      ⊎_elim (λ c. c.none ∙ sym (lowest_none n (λ k. not (test k)) (λ k l. passes k n c.all_clear l)))
      (λ b. sym (lowest_is n (λ k. not (test k)) low b.found (rw b.blocks) (λ k l. passes k low b.below l))) h

-- a position, or 16 for none
pub position_low : (n : ℕ) (table : List ℕ) (t : ℕ) → n ≡ lowest_in table t → n ≤ 16
unfolding lowest_in
position_low n table t e = rw e (lowest_most 16 _)
