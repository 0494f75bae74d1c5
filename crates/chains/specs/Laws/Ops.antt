-- Laws of the definitions of Ops.antt.
use Rattle.std.specs.Prelude.{◌≡◌, refl, List, [], ◌∷◌, ◌++◌, reverse, ℕ, zero, suc, ◌≤◌, ◌<◌, length}
use Rattle.std.proofs.Common.{ap, inl, inr, arith, le-leb, lt-ltb}
use Rattle.std.proofs.lemmas.List.{length-reverse}
use Rattle.std.proofs.lemmas.Bool.{lt-leb}
use Rattle.laws.specs.Members.{In}
use Rattle.laws.specs.Laws.Members.{bound, in_reverse}
use Rattle.chains.specs.Link.{Linked}
use Rattle.chains.specs.Laws.Link.{backward}
use Rattle.chains.specs.Chains.{LinkedChains}
use Rattle.chains.specs.Laws.Chains.{nodes_distinct}
use Rattle.chains.specs.Ops.{walk}

pub walk_linked : (N P : ℕ → ℕ) (T s : ℕ) → T < s → (n u : ℕ) (xs : List ℕ) → ((a : ℕ) → In a xs → (0 < a) × (a ≤ T)) → length xs ≤ n
    → Linked N P u (xs ++ s ∷ []) → walk N T n u ≡ xs
unfolding walk
walk_linked N P T s ls zero u [] own f l = refl
walk_linked N P T s ls zero u (x ∷ xs) own f l = let z : ⊥ = omega arith in absurd z
walk_linked N P T s ls (suc n) u [] own f l = rw (l.0, lt-ltb 0 s (omega arith), lt-leb s T ls)
walk_linked N P T s ls (suc n) u (x ∷ xs) own f l =
    let k = own x (inl refl) in
    rw (l.0, lt-ltb 0 x k.0, le-leb x T k.1)
    (ap (λ (r : List ℕ). x ∷ r) (walk_linked N P T s ls n x xs (λ a i. own a (inr i)) (omega arith) l.2))

-- THE READER'S STATEMENT: each chain, read forward from its anchor, is its list, and read backward is its list reversed
module _ (T M : ℕ) (N P O : ℕ → ℕ) (X : ℕ → List ℕ) (ch : LinkedChains T M N P O X) (s : ℕ) (ls : T < s) (hs : s < M) where
  pub short : length (X s) ≤ T
  short = bound T (X s) (nodes_distinct T M N P O X ch s ls hs).1 (λ a i. let k = ch.own s ls hs a i in (k.0, k.1))

  pub forward : walk N T T s ≡ X s
  forward = walk_linked N P T s ls T s (X s) (λ a i. let k = ch.own s ls hs a i in (k.0, k.1)) short (ch.link s ls hs)

  pub reversed : walk P T T s ≡ reverse (X s)
  reversed =
      walk_linked P N T s ls T s (reverse (X s)) (λ a i. let k = ch.own s ls hs a (in_reverse a (X s) i) in (k.0, k.1))
      (rw length-reverse short) (backward N P s (X s) s (ch.link s ls hs))
