-- What follows from Linking.antt.
use Rattle.std.specs.Prelude.{◌≡◌, refl, ◌≢◌, cond, eqb, ltb, length, set, replicate}
use Rattle.std.proofs.Math.Path.{sym, ap, fun_ext}
use Rattle.std.proofs.Common.{◌∙◌, subst, inl, inr, ⊎_elim, true≢false, arith, length-set, lt-ltb, le-ltb, ltb-true, ltb-false, eqb-true, eq-eqb}
use mathlib.Core.List.{List, [], ◌∷◌, ◌++◌, append_assoc, append-nil}
use Prim.Native.Nat.{ℕ, zero, suc, ◌+◌, ◌≤◌, ◌<◌}
use Rattle.std.proofs.lemmas.List.{length-replicate}
use Rattle.std.proofs.Math.Seq.{get_or-set_other}
use Rattle.std.proofs.lemmas.Bool.{eqb-false}
use Rattle.laws.specs.Cases.{by}
use Rattle.laws.specs.Functions.{upd}
use Rattle.laws.specs.Laws.Functions.{upd_same, upd_upd, upd_self}
use Rattle.laws.specs.Members.{In, Distinct}
use Rattle.chains.specs.Held.{at, Held, Sized, Selves}
use Rattle.chains.specs.Laws.Held.{selves_empty, linked_after, tail_node}
use Rattle.chains.specs.Read.{chains_of, inside}
use Rattle.chains.specs.Laws.Read.{held_chains, inside_is}
use Rattle.chains.specs.declared.Links.{Links}
use Rattle.witness.specs.Tables.{table, table_length, table_at}
use Rattle.witness.specs.Linking.{all_held, fresh_links, links_up_to, links_of, Chainable, fresh_held, fresh_sized}

-- ---- one chain after the other

-- the chains of anchors below n
abbrev up_to : ℕ → (ℕ → List ℕ) → ℕ → List ℕ
up_to n X c = cond (ltb c n) (X c) []

module _ (X : ℕ → List ℕ) (w : Chainable X) where
  empty : (c : ℕ) → ((65 ≤ c) × (c ≤ 321) → ⊥) → X c ≡ []
  empty c n = go (X c) refl
    where
      go : (l : List ℕ) → X c ≡ l → X c ≡ []
      go [] e = e
      go (t ∷ ts) e = absurd (n (w.only t c (subst (In t) (sym e) (inl refl))))

  none_below : (λ (c : ℕ). []) ≡ up_to 65 X
  none_below =
      fun_ext λ c.
      by (ltb c 65) (λ e. rw e (sym (empty c (λ k. omega (arith, k.0, ltb-true c 65 e))))) (λ e. rw e)

  all_below : up_to 322 X ≡ X
  all_below =
      fun_ext λ c.
      by (ltb c 322) (λ e. rw e) (λ e. rw e (sym (empty c (λ k. omega (arith, k.1, ltb-false c 322 e)))))

  one_more : (s : ℕ) → upd (up_to s X) s (up_to s X s ++ X s) ≡ up_to (suc s) X
  one_more s =
      fun_ext λ c.
      by (eqb c s)
      (λ e. let q : c ≡ s = eqb-true c s e in rw (q, eq-eqb s s refl, le-ltb s s (omega arith), lt-ltb s (suc s) (omega arith)))
      (λ e.
      let n = eqb-false c s e in
      rw e (by (ltb c s)
      (λ k. rw (k, lt-ltb c (suc s) (omega (arith, ltb-true c s k))))
      (λ k. rw (k, le-ltb c (suc s) (omega (arith, n, ltb-false c s k))))))

  -- the tasks of the next chain are in none of those before it
  idle : (n : ℕ) (l : Links) → Held l (up_to (65 + n) X) → (t : ℕ) → In t (X (65 + n)) → at l.on t ≡ 0
  idle n l h t i =
      ⊎_elim (λ k. k.0) (λ k. absurd (clash (at l.on t) k.2)) (h.task t (w.tasks t (65 + n) i).1)
    where
      clash : (c : ℕ) → In t (up_to (65 + n) X c) → ⊥
      clash c = by (ltb c (65 + n)) (λ e. rw e (λ j. omega (arith, w.apart t c (65 + n) j i, ltb-true c (65 + n) e))) (λ e. rw e (λ j. j))

  up_to_held : (n : ℕ) → n ≤ 257 → Held (links_up_to n X) (up_to (65 + n) X) × Sized (links_up_to n X)
  unfolding links_up_to
  up_to_held zero b = (subst (Held fresh_links) none_below fresh_held, fresh_sized)
  up_to_held (suc n) b =
      let h = up_to_held n (omega arith) in
      let r =
      all_held (65 + n) (omega arith) (omega arith) (X (65 + n)) (w.once (65 + n)) (links_up_to n X) h.1
      (λ t i. let k = w.tasks t (65 + n) i in (k.0, k.1, idle n (links_up_to n X) h.0 t i)) (up_to (65 + n) X) h.0 in
      (subst (Held (links_up_to (suc n) X)) (one_more (65 + n) ∙ ap (λ (k : ℕ). up_to k X) (omega arith)) r.0, r.1)

  pub linked : Held (links_of X) X × Sized (links_of X)
  unfolding links_of
  linked =
      let h = up_to_held 257 (omega arith) in
      (subst (Held (links_of X)) all_below h.0, h.1)

  pub linked_read : chains_of (links_of X) ≡ X
  linked_read = held_chains (links_of X) X linked.0 (λ c e. empty c (λ k. true≢false (sym (inside_is c k.0 (omega (arith, k.1))) ∙ e)))
