-- Laws of the definitions of Iter.antt.
use Rattle.std.specs.Prelude.{◌≡◌, refl, ℕ, zero, suc, ◌+◌}
use Rattle.std.proofs.Common.{ap, sym, ◌∙◌, arith, add-zero, add-one}
use Rattle.laws.specs.Iter.{iter}

pub iter_zero : {S : Type 0} (step : ℕ → S → S) (s : S) → iter 0 step s ≡ s
unfolding iter
iter_zero step s = refl

-- at the code's `i + 1`
pub iter_next : {S : Type 0} (i : ℕ) (step : ℕ → S → S) (s : S) → iter (i + 1) step s ≡ step i (iter i step s)
unfolding iter
iter_next i step s = ap (λ n. iter n step s) (add-one i)

-- what holds at the start and is kept by each step holds after n steps
pub iter_ind :
    {S : Type 0} (P : ℕ → S → Type 0) (step : ℕ → S → S) (s : S) →
    P 0 s →
    ((k : ℕ) (t : S) → P k t → P (suc k) (step k t)) →
    (n : ℕ) → P n (iter n step s)
unfolding iter
iter_ind P step s z f zero = z
iter_ind P step s z f (suc k) = f k (iter k step s) (iter_ind P step s z f k)

-- a turn of the loop: what one step makes of the state so far is the state after one step more
pub iter_step : {S : Type 0} (i : ℕ) (step : ℕ → S → S) (x s : S) → s ≡ iter i step x → step i s ≡ iter (i + 1) step x
iter_step i step x s e = ap (step i) e ∙ sym (iter_next i step x)

-- k turns, and then d turns that count on from k
pub iter_plus : {S : Type 0} (k d : ℕ) (step : ℕ → S → S) (s : S) → iter d (λ i. step (k + i)) (iter k step s) ≡ iter (k + d) step s
unfolding iter
iter_plus k zero step s = ap (λ n. iter n step s) (sym (add-zero k))
iter_plus k (suc d) step s =
    ap (step (k + d)) (iter_plus k d step s) ∙ sym (iter_next (k + d) step s) ∙ ap (λ n. iter n step s) (next k d)
  where
    next : (a b : ℕ) → a + b + 1 ≡ a + suc b
    next a b = omega arith
