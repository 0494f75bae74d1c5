-- Bytes that a writer holds, where the first of some bytes went out to it.
use Rattle.std.proofs.Common.{◌≡◌, ◌≤◌, ℕ, ◌+◌, ◌-◌, List, Option, ◌++◌, length, take, drop, sym, ap, subst, ◌∙◌, arith, length-take}
use Rattle.std.proofs.Math.Seq.{take-add, take-take}
use Rattle.std.specs.Io.KnownBytes.{Appends}
use Rattle.std.proofs.KnownBytes.{Appends-trans}

module _ (a b c : Option (List ℕ)) (xs : List ℕ) (done : ℕ) (before : Appends a b (take done xs)) where
  -- a write took so many of those that follow
  pub appends_more : (n k : ℕ) → n ≤ length (take (length xs - done) (drop done xs)) → k ≡ done + n → Appends b c (take n (take (length xs - done) (drop done xs)))
      → Appends a c (take k xs)
  appends_more n k fits e after =
      let most = length-take (length xs - done) (drop done xs) in
      let joined : take done xs ++ take n (take (length xs - done) (drop done xs)) ≡ take (done + n) xs =
      ap (λ l. take done xs ++ l) (take-take n (length xs - done) (drop done xs) (omega (arith, fits, most))) ∙ sym (take-add done n xs) in
      subst (λ i. Appends a c (take i xs)) (sym e) (subst (Appends a c) joined (Appends-trans a b c _ _ before after))
