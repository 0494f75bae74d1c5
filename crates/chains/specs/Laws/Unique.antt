-- The arrays that hold given chains are determined by them, at every node.
use Rattle.std.specs.Prelude.{◌≡◌, List, [], ◌∷◌, ◌++◌, ℕ, ◌≤◌, ◌<◌, leb}
use Rattle.std.proofs.Common.{sym, ◌∙◌, ⊎_elim, append-nil, arith, ext_get_or, leb-true, leb-false}
use Rattle.laws.specs.Cases.{by}
use Rattle.laws.specs.Laws.Members.{in_split}
use Rattle.chains.specs.Link.{Chain}
use Rattle.chains.specs.Held.{at, Held, Sized}
use Rattle.chains.specs.declared.Links.{Links}
use Rattle.chains.specs.Chains.{LinkedChains}
use Rattle.chains.specs.Laws.Chains.{at_place, at_element}

module _ (T M : ℕ) (N P O N' P' O' : ℕ → ℕ) (X : ℕ → List ℕ) (h : LinkedChains T M N P O X) (h' : LinkedChains T M N' P' O' X) where
  pub anchors_same : (s : ℕ) → T < s → s < M → (N s ≡ N' s) × (P s ≡ P' s)
  anchors_same s ls hs =
      let l : Chain N P s (X s ++ []) = rw append-nil (h.link s ls hs) in
      let l' : Chain N' P' s (X s ++ []) = rw append-nil (h'.link s ls hs) in (
        (at_place N P s [] (X s) (h.link s ls hs)).0 ∙ sym (at_place N' P' s [] (X s) (h'.link s ls hs)).0,
        (at_place N P s (X s) [] l).1 ∙ sym (at_place N' P' s (X s) [] l').1,
      )

  element_same : (s : ℕ) → T < s → s < M → (a : ℕ) (xs ys : List ℕ) → X s ≡ xs ++ a ∷ ys → (N a ≡ N' a) × (P a ≡ P' a)
  element_same s ls hs a xs ys e =
      let k = at_element N P s a xs ys (rw e at (h.link s ls hs)) in
      let k' = at_element N' P' s a xs ys (rw e at (h'.link s ls hs)) in
      (k.1 ∙ sym k'.1, k.0 ∙ sym k'.0)

  pub tasks_same : (a : ℕ) → a ≤ T → (N a ≡ N' a) × (P a ≡ P' a) × (O a ≡ O' a)
  tasks_same a a_t =
      ⊎_elim
      (λ k. ⊎_elim
      (λ k'. (k.1 ∙ sym k'.1, k.2 ∙ sym k'.2, k.0 ∙ sym k'.0))
      (λ k'. let z : ⊥ = omega (arith, k.0, k'.0, (h.own (O' a) k'.0 k'.1 a k'.2).2) in absurd z)
      (h'.task a a_t))
      (λ k.
      let q = in_split a (X (O a)) k.2 in
      let e = element_same (O a) k.0 k.1 a q.0 q.1 q.2 in
      (e.0, e.1, sym (h'.own (O a) k.0 k.1 a k.2).2))
      (h.task a a_t)

-- the arrays as they stand are equal: links that hold the same chains are the same
pub held_same : (l l' : Links) → Sized l → Sized l' → (X : ℕ → List ℕ) → Held l X → Held l' X → l ≡ l'
held_same l l' z z' X h h' =
    let e : l.next ≡ l'.next = ext_get_or 0 l.next l'.next (z.next ∙ sym z'.next) (λ i b. (node i (rw z.next at b)).0) in
    let f : l.prev ≡ l'.prev = ext_get_or 0 l.prev l'.prev (z.prev ∙ sym z'.prev) (λ i b. (node i (rw z.prev at b)).1) in
    let g : l.on ≡ l'.on =
    ext_get_or 0 l.on l'.on (z.on ∙ sym z'.on)
    (λ i b. (tasks_same 64 322 (at l.next) (at l.prev) (at l.on) (at l'.next) (at l'.prev) (at l'.on) X h h' i (omega (arith, z.on))).2) in
    λ i. record { next = e i; prev = f i; on = g i }
  where
    node : (i : ℕ) → i < 322 → (at l.next i ≡ at l'.next i) × (at l.prev i ≡ at l'.prev i)
    node i b =
        by (leb i 64)
        (λ e. let k = tasks_same 64 322 (at l.next) (at l.prev) (at l.on) (at l'.next) (at l'.prev) (at l'.on) X h h' i (leb-true i 64 e) in (k.0, k.1))
        (λ e. anchors_same 64 322 (at l.next) (at l.prev) (at l.on) (at l'.next) (at l'.prev) (at l'.on) X h h' i (leb-false i 64 e) b)
