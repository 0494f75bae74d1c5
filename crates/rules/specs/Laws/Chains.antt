-- Laws of chains by name: two names tell two chains, and a list put for one chain leaves the others as they are.
use Rattle.std.specs.Prelude.{◌≡◌, refl, ◌≢◌, Bool, true, false, cond, List, ℕ, eqb}
use Rattle.std.proofs.Common.{sym, ap, ◌∙◌, true≢false, eq-eqb, eqb-true}
use Rattle.std.proofs.lemmas.Bool.{false≢true}
use Rattle.laws.specs.Cases.{and_go, and_true}
use Rattle.rules.specs.State.{Chain, time_chain, chain_of, same_chain, with_chain}

pub flag_no_time : (f v : ℕ) → chain_of f v ≢ time_chain
flag_no_time f v e = false≢true (ap (λ (c : Chain). same_chain c time_chain) e)

pub same_itself : (c : Chain) → same_chain c c ≡ true
same_itself time_chain = refl
same_itself (chain_of f v) = and_go (eq-eqb f f refl) (eq-eqb v v refl)

pub same_true : (c d : Chain) → same_chain c d ≡ true → c ≡ d
same_true time_chain time_chain e = refl
same_true time_chain (chain_of f v) e = absurd (false≢true e)
same_true (chain_of f v) time_chain e = absurd (false≢true e)
same_true (chain_of f v) (chain_of g w) e =
    let p = and_true (eqb f g) (eqb v w) e in
    ap (λ (x : ℕ). chain_of x v) (eqb-true f g p.0) ∙ ap (chain_of g) (eqb-true v w p.1)

pub same_false : (c d : Chain) → same_chain c d ≡ false → c ≢ d
same_false c d e q = true≢false (sym (same_itself c) ∙ ap (same_chain c) q ∙ e)

-- a property of a chain, when l is put for chain c, by cases
pub on_chain {κ} : (Q : List ℕ → Type κ) (X : Chain → List ℕ) (c : Chain) (l : List ℕ) (d : Chain) → (d ≡ c → Q l) → (d ≢ c → Q (X d)) → Q (with_chain X c l d)
on_chain Q X c l d y n = go (same_chain d c) refl
  where
    go : (b : Bool) → same_chain d c ≡ b → Q (cond b l (X d))
    go true e = y (same_true d c e)
    go false e = n (same_false d c e)

pub chain_same : (X : Chain → List ℕ) (c : Chain) (l : List ℕ) → with_chain X c l c ≡ l
chain_same X c l = on_chain (λ (k : List ℕ). k ≡ l) X c l c (λ e. refl) (λ n. absurd (n refl))
