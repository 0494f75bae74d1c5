-- What a loop keeps that keeps the largest entry, for a test that holds of all below a number of which it holds: it holds of the
-- largest exactly when it held of each so far.
use Rattle.std.specs.Prelude.{◌≡◌, refl, ◌⊎◌, Bool, true, false, ◌&&◌, ℕ, ◌+◌, ◌≤◌, ◌<◌, eqb, leb}
use Rattle.std.proofs.Common.{sym, ◌∙◌, ⊎_elim, arith, add-one, eqb-true, eq-eqb, leb-true, le-leb}
use Rattle.laws.specs.All.{all}

both_last : (a b : Bool) → (b ≡ true → a ≡ true) → (a && b) ≡ b
both_last true b h = refl
both_last false true h = h refl
both_last false false h = refl

both_first : (a b : Bool) → (a ≡ true → b ≡ true) → (a && b) ≡ a
both_first true b h = h refl
both_first false b h = refl

module _ (f : ℕ → Bool) (down : (a b : ℕ) → a ≤ b → f b ≡ true → f a ≡ true) (most i : ℕ) (test : ℕ → Bool) (x : ℕ)
    (p : f most ≡ all i test) (t : test i ≡ f x) where
  so_far : all (i + 1) test ≡ (f most && f x)
  unfolding all
  so_far = rw (add-one i) (rw (t, p))

  -- by the way the code came: with a larger entry, which is now the largest, or with one that is not
  largest_next : {new : ℕ} {A B : Type 0} → (A × (new ≡ x)) ⊎ (B × (new ≡ most)) → (A → most < x) → (B → x ≤ most)
      → f new ≡ all (i + 1) test
  largest_next w more same =
      ⊎_elim
      (λ v. let h = more v.0 in rw v.1 (sym (so_far ∙ both_last (f most) (f x) (down most x (omega (arith, h))))))
      (λ v. rw v.1 (sym (so_far ∙ both_first (f most) (f x) (down x most (same v.0)))))
      w

module _ (most i : ℕ) (test : ℕ → Bool) (x : ℕ) where
  -- each so far is at most top
  pub top_next : (top : ℕ) → leb most top ≡ all i test → test i ≡ leb x top
      → {new : ℕ} {A B : Type 0} → (A × (new ≡ x)) ⊎ (B × (new ≡ most)) → (A → most < x) → (B → x ≤ most) → leb new top ≡ all (i + 1) test
  top_next top = largest_next (λ n. leb n top) (λ a b h e. le-leb a top (omega (arith, h, leb-true b top e))) most i test x

  -- each so far is 0
  pub zero_next : eqb most 0 ≡ all i test → test i ≡ eqb x 0
      → {new : ℕ} {A B : Type 0} → (A × (new ≡ x)) ⊎ (B × (new ≡ most)) → (A → most < x) → (B → x ≤ most) → eqb new 0 ≡ all (i + 1) test
  zero_next = largest_next (λ n. eqb n 0) (λ a b h e. eq-eqb a 0 (omega (arith, h, eqb-true b 0 e))) most i test x
