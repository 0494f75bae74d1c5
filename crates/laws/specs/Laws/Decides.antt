-- Laws of the definitions of Decides.antt.
use Rattle.std.specs.Prelude.{◌≡◌, refl, ◌⊎◌, Bool, true, false, not, cond, ◌&&◌, ◌||◌, List, [], ◌∷◌, ℕ, ◌≤◌, ◌<◌, eqb, leb, ltb}
use Rattle.std.proofs.Common.{sym, ◌∙◌, inl, inr, ⊎_elim, eq-eqb, eqb-true, leb-true, le-leb, ltb-true, lt-ltb}
use Rattle.std.proofs.lemmas.Bool.{false≢true}
use Rattle.laws.specs.Cases.{by_bool}
use Rattle.laws.specs.All.{all}
use Rattle.laws.specs.Laws.All.{all_at, all_all, and_left, and_right}
use Rattle.laws.specs.Any.{any}
use Rattle.laws.specs.Laws.Any.{any_at, any_some}
use Rattle.laws.specs.Members.{In, is_in}
use Rattle.laws.specs.Decides.{Is}

pub is_eqb : (a b : ℕ) → Is (eqb a b) (a ≡ b)
is_eqb a b = (eqb-true a b, eq-eqb a b)

pub is_leb : (a b : ℕ) → Is (leb a b) (a ≤ b)
is_leb a b = (leb-true a b, le-leb a b)

pub is_ltb : (a b : ℕ) → Is (ltb a b) (a < b)
is_ltb a b = (ltb-true a b, lt-ltb a b)

pub is_and : {a b : Bool} {P Q : Type 0} → Is a P → Is b Q → Is (a && b) (P × Q)
is_and {a} {b} h k = ((λ e. (h.0 (and_left a b e), k.0 (and_right a b e))), (λ w. rw (h.1 w.0) (k.1 w.1)))

pub is_or : {a b : Bool} {P Q : Type 0} → Is a P → Is b Q → Is (a || b) (P ⊎ Q)
is_or {a} {b} {P} {Q} h k = (there a refl, back)
  where
    there : (x : Bool) → a ≡ x → (x || b) ≡ true → P ⊎ Q
    there true q e = inl (h.0 q)
    there false q e = inr (k.0 e)

    right : (x : Bool) → b ≡ true → (x || b) ≡ true
    right true e = refl
    right false e = e

    back : P ⊎ Q → (a || b) ≡ true
    back (inl p) = rw (h.1 p)
    back (inr q) = right a (k.1 q)

pub is_not : {b : Bool} {P : Type 0} → Is b P → Is (not b) (P → ⊥)
is_not {b} {P} h = (there b refl, back b refl)
  where
    there : (x : Bool) → b ≡ x → not x ≡ true → P → ⊥
    there true q e p = false≢true e
    there false q e p = false≢true (sym q ∙ h.1 p)

    back : (x : Bool) → b ≡ x → (P → ⊥) → not x ≡ true
    back true q n = absurd (n (h.0 q))
    back false q n = refl

-- `a || b` as "if not a, then b"
pub is_else : {a b : Bool} {P Q : Type 0} → Is a P → Is b Q → Is (a || b) ((P → ⊥) → Q)
is_else {a} {b} {P} {Q} h k = ((λ e n. ⊎_elim (λ p. absurd (n p)) (λ q. q) ((is_or {P = P} {Q = Q} h k).0 e)), back a refl)
  where
    back : (x : Bool) → a ≡ x → ((P → ⊥) → Q) → (x || b) ≡ true
    back true q f = refl
    back false q f = k.1 (f (λ p. false≢true (sym q ∙ h.1 p)))

-- `not a || b` as "if a, then b"
pub is_then : {a b : Bool} {P Q : Type 0} → Is a P → Is b Q → Is (not a || b) (P → Q)
is_then {a} {b} {P} {Q} h k = (there a refl, back a refl)
  where
    there : (x : Bool) → a ≡ x → (not x || b) ≡ true → P → Q
    there true q e p = k.0 e
    there false q e p = absurd (false≢true (sym q ∙ h.1 p))

    back : (x : Bool) → a ≡ x → (P → Q) → (not x || b) ≡ true
    back true q f = k.1 (f (h.0 q))
    back false q f = refl

pub is_if : {a b d : Bool} {P Q R : Type 0} → Is a P → Is b Q → Is d R → Is (cond a b d) ((P → Q) × ((P → ⊥) → R))
is_if {a} {b} {d} {P} {Q} {R} h k j = (there a refl, back a refl)
  where
    there : (x : Bool) → a ≡ x → cond x b d ≡ true → (P → Q) × ((P → ⊥) → R)
    there true q e = ((λ p. k.0 e), (λ n. absurd (n (h.0 q))))
    there false q e = ((λ p. absurd (false≢true (sym q ∙ h.1 p))), (λ n. j.0 e))

    back : (x : Bool) → a ≡ x → (P → Q) × ((P → ⊥) → R) → cond x b d ≡ true
    back true q w = k.1 (w.0 (h.0 q))
    back false q w = j.1 (w.1 (λ p. false≢true (sym q ∙ h.1 p)))

pub is_all : (n : ℕ) {p : ℕ → Bool} {P : ℕ → Type 0} → ((k : ℕ) → k < n → Is (p k) (P k)) → Is (all n p) ((k : ℕ) → k < n → P k)
is_all n {p} h = ((λ e k l. (h k l).0 (all_at n p e k l)), (λ f. all_all n p (λ k l. (h k l).1 (f k l))))

pub is_any : (n : ℕ) {p : ℕ → Bool} {P : ℕ → Type 0} → ((k : ℕ) → k < n → Is (p k) (P k)) → Is (any n p) ((k : ℕ) × (k < n) × P k)
is_any n {p} h =
    ((λ e. let w = any_some n p e in (w.0, w.1, (h w.0 w.1).0 w.2)), (λ w. any_at n p w.0 w.1 ((h w.0 w.1).1 w.2)))

pub is_in_lem : (a : ℕ) (l : List ℕ) → Is (is_in a l) (In a l)
is_in_lem a [] = ((λ e. false≢true e), (λ z. absurd z))
is_in_lem a (y ∷ ys) = is_or (is_eqb a y) (is_in_lem a ys)

-- one statement in other words
pub is_said : {b : Bool} {P Q : Type 0} → Is b P → (P → Q) → (Q → P) → Is b Q
is_said h f g = ((λ e. f (h.0 e)), (λ q. h.1 (g q)))

-- two tests of one statement agree
pub is_same : {a b : Bool} {P : Type 0} → Is a P → Is b P → a ≡ b
is_same {a} {b} h k =
    by_bool a (λ x. x ≡ b) (λ e. sym (k.1 (h.0 e)))
    (λ e. by_bool b (λ x. false ≡ x) (λ q. absurd (false≢true (sym e ∙ h.1 (k.0 q)))) (λ q. refl))
