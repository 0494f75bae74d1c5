-- Faults as numbers: 0 for none, else a fault. What a loop keeps that joins the faults of all entries by `|`, and looks at them
-- once, is 0 exactly when each so far was 0. And faults put together from small tests, by `|`, `&` and `1 ^`.
use Rattle.std.specs.Prelude.{◌≡◌, refl, Bool, true, false, not, ◌&&◌, ◌||◌, ℕ, ◌+◌, eqb}
use Rattle.std.proofs.Common.{sym, ◌∙◌, ap, arith, add-one}
use Rattle.std.specs.Int.Bits.{bit_or, bit_and, bit_xor, or_add_and, xor_add_and, xor_self}
use Rattle.std.proofs.lemmas.Nat.{and_le_l, and_le_r}
use Rattle.laws.specs.All.{all, Passed}
use Rattle.laws.specs.Bits.{bit}
use Rattle.laws.specs.Laws.Decides.{is_eqb, is_and, is_said, is_same}

pub or_zero : (a b : ℕ) → eqb (bit_or a b) 0 ≡ (eqb a 0 && eqb b 0)
or_zero a b =
    is_same
    (is_said (is_eqb (bit_or a b) 0)
    (λ e. (omega (arith, e, or_add_and a b, and_le_r a b), omega (arith, e, or_add_and a b, and_le_l a b)))
    (λ w. omega (arith, w.0, w.1, or_add_and a b)))
    (is_and (is_eqb a 0) (is_eqb b 0))

-- two numbers differ, as a fault
pub xor_zero : (a b : ℕ) → eqb (bit_xor a b) 0 ≡ eqb a b
xor_zero a b =
    is_same
    (is_said (is_eqb (bit_xor a b) 0) (λ e. omega (arith, e, xor_add_and a b, and_le_l a b, and_le_r a b))
    (λ q. ap (bit_xor a) (sym q) ∙ xor_self a))
    (is_eqb a b)

-- a turn: the entry passes exactly when its fault is 0
pub or_next : {new : ℕ} (most i : ℕ) (test : ℕ → Bool) (fault : ℕ) → Passed most i test → test i ≡ eqb fault 0 → new ≡ bit_or most fault
    → Passed new (i + 1) test
unfolding all
or_next most i test fault p t e =
    rw e (or_zero most fault ∙ ap (λ (b : Bool). b && eqb fault 0) p ∙ rw add-one (rw t))

-- a fault that is 0 or 1
pub bit_passes : (b : Bool) → b ≡ eqb (bit (not b)) 0
bit_passes true = refl
bit_passes false = refl

pub bit_or_lem : (a b : Bool) → bit_or (bit a) (bit b) ≡ bit (a || b)
bit_or_lem true true = refl
bit_or_lem true false = refl
bit_or_lem false true = refl
bit_or_lem false false = refl

pub bit_and_lem : (a b : Bool) → bit_and (bit a) (bit b) ≡ bit (a && b)
bit_and_lem true true = refl
bit_and_lem true false = refl
bit_and_lem false true = refl
bit_and_lem false false = refl

pub bit_not : (a : Bool) → bit_xor 1 (bit a) ≡ bit (not a)
bit_not true = refl
bit_not false = refl
