-- Each chain has an anchor of its own, and each anchor a chain.
use Rattle.std.specs.Prelude.{◌≡◌, refl, ◌⊎◌, ◌&&◌, List, ℕ, ◌+◌, ◌-◌, ◌*◌, ◌/◌, ◌%◌, ◌<◌, eqb, leb}
use Rattle.std.proofs.Common.{sym, ap, ◌∙◌, inl, inr, ⊎_elim, arith, leb-true, le-leb, eqb-true}
use Rattle.std.proofs.Math.Path.{fun_ext}
use Rattle.std.proofs.lemmas.Bool.{eqb-false}
use Rattle.laws.specs.Cases.{by, and_true}
use Rattle.laws.specs.Functions.{upd}
use Rattle.laws.specs.Laws.Functions.{upd_same, upd_other}
use Rattle.chains.specs.Held.{Held}
use Rattle.chains.specs.Read.{chains_of, inside}
use Rattle.chains.specs.Laws.Read.{inside_low, inside_high, held_chains, only_of, only_upd}
use Rattle.chains.specs.declared.Links.{Links}
use Rattle.rules.specs.State.{Chain, time_chain, chain_of, with_chain}
use Rattle.rules.specs.Laws.Chains.{on_chain}
use Rattle.rules.specs.Soundness.{IsChain}
use Rattle.exec_family.specs.Anchors.{is_flag_value, flag_anchor, anchor_of, name_of, by_name}

-- the anchor of a flag's chain is the number that the code computes
pub anchor_flag : (f v : ℕ) → IsChain (chain_of f v) → anchor_of (chain_of f v) ≡ 64 + 2 * f + v
anchor_flag f v k =
    let z : flag_anchor f v ≡ 64 + 2 * f + v = rw (le-leb 1 f k.0, le-leb f 128 k.1, le-leb v 1 k.2) in z

-- who is no chain has none
anchor_cases : (f v : ℕ) → IsChain (chain_of f v) ⊎ (anchor_of (chain_of f v) ≡ 0)
anchor_cases f v =
    by (is_flag_value f v)
    (λ e.
    let a = and_true (leb 1 f && leb f 128) (leb v 1) e in
    let b = and_true (leb 1 f) (leb f 128) a.0 in
    inl (leb-true 1 f b.0, leb-true f 128 b.1, leb-true v 1 a.1))
    (λ e. let z : flag_anchor f v ≡ 0 = rw e in inr z)

pub anchor_chain : (c : Chain) → 64 < anchor_of c → IsChain c
anchor_chain time_chain h = tt
anchor_chain (chain_of f v) h = ⊎_elim (λ k. k) (λ e. absurd (let z : 64 < 0 = rw e at h in omega arith)) (anchor_cases f v)

pub anchor_low : (c : Chain) → IsChain c → 64 < anchor_of c
anchor_low time_chain k = omega arith
anchor_low (chain_of f v) k = rw (anchor_flag f v k) (omega (arith, k.0))

pub anchor_high : (c : Chain) → IsChain c → anchor_of c < 322
anchor_high time_chain k = omega arith
anchor_high (chain_of f v) k = rw (anchor_flag f v k) (omega (arith, k.1, k.2))

-- no two chains have one anchor
anchor_one : (c d : Chain) → IsChain c → IsChain d → anchor_of c ≡ anchor_of d → c ≡ d
anchor_one time_chain time_chain j k e = refl
anchor_one time_chain (chain_of f v) j k e = absurd (let z : 65 ≡ 64 + 2 * f + v = e ∙ anchor_flag f v k in omega (arith, z, k.0))
anchor_one (chain_of f v) time_chain j k e = absurd (let z : 64 + 2 * f + v ≡ 65 = sym (anchor_flag f v j) ∙ e in omega (arith, z, j.0))
anchor_one (chain_of f v) (chain_of g w) j k e =
    let z : 64 + 2 * f + v ≡ 64 + 2 * g + w = sym (anchor_flag f v j) ∙ e ∙ anchor_flag g w k in
    let p : f ≡ g = omega (arith, z, j.2, k.2) in
    let q : v ≡ w = omega (arith, z, j.2, k.2) in
    ap (λ (x : ℕ). chain_of x v) p ∙ ap (chain_of g) q

pub anchor_same : (c d : Chain) → 64 < anchor_of c → anchor_of c ≡ anchor_of d → c ≡ d
anchor_same c d h e = anchor_one c d (anchor_chain c h) (anchor_chain d (omega (arith, h, e))) e

-- each anchor has a name
pub name_anchor : (s : ℕ) → 64 < s → s < 322 → anchor_of (name_of s) ≡ s
name_anchor s a b =
    by (eqb s 65)
    (λ e. rw e (sym (eqb-true s 65 e)))
    (λ e.
    let n = eqb-false s 65 e in
    rw e (anchor_flag ((s - 64) / 2) ((s - 64) % 2) (omega (arith, n), omega arith, omega arith) ∙ omega (arith, a)))

-- and a chain is that of its anchor
pub anchor_name : (c : Chain) → IsChain c → name_of (anchor_of c) ≡ c
anchor_name c k =
    let e = name_anchor (anchor_of c) (anchor_low c k) (anchor_high c k) in
    sym (anchor_same c (name_of (anchor_of c)) (anchor_low c k) (sym e))

-- the chains by name tell all that the links show
pub named_all : (l r : Links) → by_name (chains_of l) ≡ by_name (chains_of r) → chains_of l ≡ chains_of r
named_all l r e =
    fun_ext λ s.
    by (inside s)
    (λ i.
    let n = name_anchor s (inside_low s i) (inside_high s i) in
    ap (chains_of l) (sym n) ∙ ap (λ (X : Chain → List ℕ). X (name_of s)) e ∙ ap (chains_of r) n)
    (λ i. only_of l s i ∙ sym (only_of r s i))

-- ---- a list is put at one anchor

module _ (c : Chain) (k : IsChain c) (ys : List ℕ) where
  -- so it is put for one chain
  put_named : (X : ℕ → List ℕ) → by_name (upd X (anchor_of c) ys) ≡ with_chain (by_name X) c ys
  put_named X =
      fun_ext λ d.
      on_chain (λ (l : List ℕ). by_name (upd X (anchor_of c) ys) d ≡ l) (by_name X) c ys d
      (λ e. ap (λ (x : Chain). upd X (anchor_of c) ys (anchor_of x)) e ∙ upd_same X (anchor_of c) ys)
      (λ n. upd_other X (anchor_of c) ys (anchor_of d) (λ q. n (sym (anchor_same c d (anchor_low c k) (sym q)))))

  -- the chains of links r that hold those of l but for chain c
  pub named_put : (l r : Links) → Held r (upd (chains_of l) (anchor_of c) ys) → by_name (chains_of r) ≡ with_chain (by_name (chains_of l)) c ys
  named_put l r h =
      let X = chains_of l in
      ap by_name (held_chains r (upd X (anchor_of c) ys) h (only_upd X (anchor_of c) ys (anchor_low c k) (anchor_high c k) (only_of l)))
      ∙ put_named X
