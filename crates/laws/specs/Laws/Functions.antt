-- Laws of the definitions of Functions.antt.
use Rattle.std.specs.Prelude.{◌≡◌, refl, ◌≢◌, Bool, true, false, cond, ℕ, eqb}
use Rattle.std.proofs.Common.{sym, ◌∙◌, ap, eq-eqb, ne_eqb, eqb-true}
use Rattle.std.proofs.Math.Path.{fun_ext}
use Rattle.std.proofs.lemmas.Bool.{eqb-false}
use Rattle.laws.specs.Cases.{by}
use Rattle.laws.specs.Functions.{upd}

pub upd_same {ℓ} : {A : Type ℓ} (f : ℕ → A) (i : ℕ) (v : A) → upd f i v i ≡ v
upd_same f i v = rw (eq-eqb i i refl)

pub upd_other {ℓ} : {A : Type ℓ} (f : ℕ → A) (i : ℕ) (v : A) (j : ℕ) → j ≢ i → upd f i v j ≡ f j
upd_other f i v j h = rw (ne_eqb j i h)

-- a property of f with v at i, by cases
pub on_upd {ℓ κ} : {A : Type ℓ} (Q : A → Type κ) (f : ℕ → A) (i : ℕ) (v : A) (j : ℕ) → (j ≡ i → Q v) → (j ≢ i → Q (f j)) → Q (upd f i v j)
on_upd Q f i v j y n = go (eqb j i) refl
  where
    go : (b : Bool) → eqb j i ≡ b → Q (cond b v (f j))
    go true e = y (eqb-true j i e)
    go false e = n (eqb-false j i e)

pub upd2 {ℓ} : {A : Type ℓ} (f : ℕ → A) (i : ℕ) (v : A) (k : ℕ) (w : A) (j : ℕ) → j ≢ i → j ≢ k → upd (upd f i v) k w j ≡ f j
upd2 f i v k w j h g = upd_other (upd f i v) k w j g ∙ upd_other f i v j h

pub upd_upd {ℓ} : {A : Type ℓ} (f : ℕ → A) (i : ℕ) (v w : A) → upd (upd f i v) i w ≡ upd f i w
upd_upd f i v w =
    fun_ext λ j. by (eqb j i) (λ e. rw e) (λ e. rw e)

pub upd_self {ℓ} : {A : Type ℓ} (f : ℕ → A) (i : ℕ) → upd f i (f i) ≡ f
upd_self {A} f i = fun_ext λ j. on_upd (λ (w : A). w ≡ f j) f i (f i) j (λ e. ap f (sym e)) (λ n. refl)
