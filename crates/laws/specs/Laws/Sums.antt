-- Laws of sums over the first numbers, and of those that come round: f has the same value p numbers further on.
use Rattle.std.specs.Prelude.{◌≡◌, refl, eqb}
use Rattle.std.proofs.Math.Path.{sym, ap}
use Rattle.std.proofs.Common.{◌∙◌, arith, zero-add, add-zero, suc-add, add-suc, add_assoc, zero-mul, add-one, eqb-true, ne_eqb}
use Prim.Native.Nat.{ℕ, zero, suc, ◌+◌, ◌-◌, ◌*◌, ◌/◌, ◌%◌, ◌≤◌, ◌<◌}
use Rattle.std.proofs.Math.Nat.{suc-mul, mod-add-div'}
use Rattle.std.proofs.lemmas.Bool.{eqb-false}
use Rattle.laws.specs.Bits.{bit}
use Rattle.laws.specs.Cases.{by}
use Rattle.laws.specs.Tables.{sum}

-- at the code's `i + 1`
pub sum_next : (i : ℕ) (f : ℕ → ℕ) → sum (i + 1) f ≡ sum i f + f i
unfolding sum
sum_next i f = ap (λ n. sum n f) (add-one i)

pub sum_same : (n : ℕ) (f g : ℕ → ℕ) → ((i : ℕ) → i < n → f i ≡ g i) → sum n f ≡ sum n g
unfolding sum
sum_same zero f g h = refl
sum_same (suc n) f g h = omega (arith, sum_same n f g (λ i l. h i (omega arith)), h n (omega arith))

pub sum_plus : (m n : ℕ) (f : ℕ → ℕ) → sum (m + n) f ≡ sum m f + sum n (λ i. f (m + i))
unfolding sum
sum_plus m zero f = ap (λ k. sum k f) (add-zero m) ∙ sym (add-zero (sum m f))
sum_plus m (suc n) f =
    let e : sum (m + suc n) f ≡ sum (m + n) f + f (m + n) = ap (λ k. sum k f) (add-suc m n) in
    omega (arith, e, sum_plus m n f)

-- more numbers have no smaller sum
pub sum_more : (m n : ℕ) (f : ℕ → ℕ) → m ≤ n → sum m f ≤ sum n f
sum_more m n f h =
    let e : m + (n - m) ≡ n = omega arith in
    omega (arith, sum_plus m (n - m) f, ap (λ k. sum k f) e)

-- the first of them apart
pub sum_first : (n : ℕ) (f : ℕ → ℕ) → sum (suc n) f ≡ f 0 + sum n (λ i. f (suc i))
unfolding sum
sum_first zero f = omega arith
sum_first (suc n) f = omega (arith, sum_first n f)

-- one number is v, if it is among them
pub sum_none : (n v : ℕ) → n ≤ v → sum n (λ i. bit (eqb i v)) ≡ 0
unfolding sum
sum_none zero v h = refl
sum_none (suc n) v h = omega (arith, sum_none n v (omega arith), ap bit (ne_eqb n v (λ e. omega (arith, e))))

pub sum_one : (n v : ℕ) → v < n → sum n (λ i. bit (eqb i v)) ≡ 1
unfolding sum
sum_one zero v h = absurd (omega arith)
sum_one (suc n) v h =
    by (eqb n v)
    (λ e. omega (arith, sum_none n v (omega (arith, eqb-true n v e)), ap bit e))
    (λ e.
    let other = eqb-false n v e in
    omega (arith, sum_one n v (omega arith), ap bit e))

module _ (p : ℕ) (f : ℕ → ℕ) (round : (n : ℕ) → f (n + p) ≡ f n) where
  -- any p numbers in a row have the sum of the first p
  pub round_sum : (c : ℕ) → sum p (λ i. f (c + i)) ≡ sum p f
  unfolding sum
  round_sum zero = sum_same p (λ i. f (0 + i)) f (λ i l. ap f (zero-add i))
  round_sum (suc c) =
      let first = sum_first p (λ i. f (c + i)) in
      let further = sum_same p (λ i. f (suc c + i)) (λ i. f (c + suc i)) (λ i l. ap f (suc-add c i ∙ sym (add-suc c i))) in
      omega (arith, first, further, round c, ap f (add-zero c), round_sum c)

  -- q times as many have q times that sum
  pub rounds_sum : (q c : ℕ) → sum (q * p) (λ i. f (c + i)) ≡ q * sum p f
  unfolding sum
  rounds_sum zero c = ap (λ n. sum n (λ i. f (c + i))) (zero-mul p) ∙ sym (zero-mul (sum p f))
  rounds_sum (suc q) c =
      let apart = ap (λ n. sum n (λ i. f (c + i))) (suc-mul q p) ∙ sum_plus (q * p) p (λ i. f (c + i)) in
      let last = sum_same p (λ i. f (c + (q * p + i))) (λ i. f (c + q * p + i)) (λ i l. ap f (sym (add_assoc c (q * p) i))) in
      omega (arith, apart, last, round_sum (c + q * p), rounds_sum q c, suc-mul q (sum p f))

-- what comes round is what it is at the remainder
module _ {ℓ} {A : Type ℓ} (p : ℕ) (f : ℕ → A) (round : (n : ℕ) → f (n + p) ≡ f n) where
  round_times : (k n : ℕ) → f (n + k * p) ≡ f n
  round_times zero n = ap f (ap (λ m. n + m) (zero-mul p) ∙ add-zero n)
  round_times (suc k) n = ap f (ap (λ m. n + m) (suc-mul k p) ∙ sym (add_assoc n (k * p) p)) ∙ round (n + k * p) ∙ round_times k n

  pub round_mod : (n : ℕ) → f n ≡ f (n % p)
  round_mod n = ap f (sym (mod-add-div' n p)) ∙ round_times (n / p) (n % p)
