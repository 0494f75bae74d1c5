-- Cases on a test, with what the test says, and steps through `&&` and `cond` by what the tests said.
use Rattle.std.specs.Prelude.{◌≡◌, refl, Bool, true, false, cond, ◌&&◌, ◌||◌, ℕ, suc, ◌<◌, eqb}
use Rattle.std.proofs.Common.{true≢false, arith, eqb-true}
use Rattle.std.proofs.lemmas.Bool.{false≢true, eqb-false}

-- decide by a test, keeping what it says
pub by {ℓ} : {A : Type ℓ} (b : Bool) → (b ≡ true → A) → (b ≡ false → A) → A
by true y n = y refl
by false y n = n refl

pub by_bool : (b : Bool) (C : Bool → Type 0) → (b ≡ true → C true) → (b ≡ false → C false) → C b
by_bool true C y n = y refl
by_bool false C y n = n refl

pub by_eqb : (a b : ℕ) (C : Bool → Type 0) → (a ≡ b → C true) → ((a ≡ b → ⊥) → C false) → C (eqb a b)
by_eqb a b C y n = by_bool (eqb a b) C (λ e. y (eqb-true a b e)) (λ e. n (eqb-false a b e))

-- below the next number and not the last is below the last
pub below_but : (i k : ℕ) → i < suc k → (i ≡ k → ⊥) → i < k
below_but i k h n = omega arith

-- Steps through `&&` and `cond` by what the tests said: terms, so that a proof over a large record computes nothing.
pub and_go : {a b c : Bool} → a ≡ true → b ≡ c → (a && b) ≡ c
and_go e f = rw e f

pub and_stop : {a : Bool} (b : Bool) → a ≡ false → (a && b) ≡ false
and_stop b e = rw e

pub or_yes : (a b : Bool) → a ≡ true → true ≡ (a || b)
or_yes a b e = rw e

pub or_skip : (a b : Bool) → a ≡ false → b ≡ (a || b)
or_skip a b e = rw e

pub if_yes : {A : Type 0} {b : Bool} {x z : A} (y : A) → b ≡ true → x ≡ z → cond b x y ≡ z
if_yes y e f = rw e f

pub if_no : {A : Type 0} {b : Bool} {y z : A} (x : A) → b ≡ false → y ≡ z → cond b x y ≡ z
if_no x e f = rw e f

-- two numbers are equal or not
pub dec_eq : (a b : ℕ) → Dec (a ≡ b)
dec_eq a b = by_bool (eqb a b) (λ c. Dec (a ≡ b)) (λ e. yes (eqb-true a b e)) (λ e. no (eqb-false a b e))

-- what a test that is made of two says
pub or_false : (a b : Bool) → (a || b) ≡ false → (a ≡ false) × (b ≡ false)
or_false true b e = absurd (true≢false e)
or_false false b e = (refl, e)

pub and_true : (a b : Bool) → (a && b) ≡ true → (a ≡ true) × (b ≡ true)
and_true true b e = (refl, e)
and_true false b e = absurd (false≢true e)

pub and_yes : (b : Bool) → (b && true) ≡ b
and_yes true = refl
and_yes false = refl

pub and_no : (b : Bool) → (b && false) ≡ false
and_no true = refl
and_no false = refl

pub or_no : (b : Bool) → (b || false) ≡ b
or_no true = refl
or_no false = refl
