-- Who leaves at a cancel: those who are marked become uninvoked and are in no chain; nobody else is touched.
use Rattle.std.specs.Prelude.{◌≡◌, refl, ◌≢◌, Bool, true, false, cond, ◌&&◌, List, eqb, length}
use Rattle.std.proofs.Math.Path.{sym, ap, subst}
use Rattle.std.proofs.Common.{◌∙◌, arith}
use Rattle.std.proofs.Math.Bool.{not, true≢false}
use Prim.Native.Nat.{ℕ, zero, suc, ◌+◌, ◌≤◌, ◌<◌}
use Rattle.std.proofs.Math.Numerals.{add-one}
use borrow.Author.Tests.{eq-eqb, ne_eqb, le-leb, lt-leb, leb-true, leb-false}
use Rattle.std.proofs.Math.Dec.{leb}
use Rattle.std.proofs.Math.ListN.{get_or}
use Rattle.laws.specs.Cases.{by, dec_eq, and_yes, and_no}
use Rattle.laws.specs.Iter.{iter}
use Rattle.laws.specs.Laws.Tables.{set_le}
use Rattle.laws.specs.Members.{In, without, keep}
use Rattle.laws.specs.Laws.Members.{keep_same, keep_all, without_keep}
use Rattle.laws.specs.Laws.Stores.{stores_keep, stores_hit, stores_miss}
use Rattle.rules.specs.State.{Chain}
use Rattle.rules.specs.Waiting.{leave}
use Rattle.rules.specs.Family.{is_marked, cleared, leave_one, deserted}

-- ---- the states after it

module _ (marks l : List ℕ) where
  -- who is marked becomes uninvoked
  pub cleared_hit : (u : ℕ) → is_marked marks u ≡ true → 1 ≤ u → u < length l → u ≤ 64 → get_or (cleared marks l) u 0 ≡ 0
  unfolding cleared
  cleared_hit zero h a b c = absurd (omega arith)
  cleared_hit (suc i) h a b c =
      subst (λ (u : ℕ). get_or (cleared marks l) u 0 ≡ 0) (add-one i)
      (stores_hit (λ i. is_marked marks (i + 1)) (λ i. i + 1) (λ i. 0) 64 l i (omega arith) (rw add-one h) (rw add-one b) (λ j d e q. refl))

  -- who is not stays as he is
  pub cleared_miss : (u : ℕ) → is_marked marks u ≡ false → get_or (cleared marks l) u 0 ≡ get_or l u 0
  unfolding cleared
  cleared_miss u h =
      stores_miss (λ i. is_marked marks (i + 1)) (λ i. i + 1) (λ i. 0) 64 l u (λ i a e q. true≢false (sym e ∙ sym (ap (is_marked marks) q) ∙ h))

  pub cleared_small : ((u : ℕ) → get_or l u 0 ≤ 3) → (u : ℕ) → get_or (cleared marks l) u 0 ≤ 3
  unfolding cleared
  cleared_small h =
      stores_keep (λ i. is_marked marks (i + 1)) (λ i. i + 1) (λ i. 0) (λ m. (u : ℕ) → get_or m u 0 ≤ 3) 64
      (λ i m a e g. set_le 3 m (i + 1) 0 (omega arith) g) l h

-- ---- the chains after it

module _ (marks : List ℕ) (X : Chain → List ℕ) (c : Chain) (own : (u : ℕ) → In u (X c) → (1 ≤ u) × (u ≤ 64)) where
  -- u is not marked, or is not among the first k
  left : ℕ → ℕ → Bool
  left k u = not (is_marked marks u && leb u k)

  left_step : (k u : ℕ) → 1 ≤ u → (x : Bool) → is_marked marks (suc k) ≡ x → left (suc k) u ≡ cond x (left k u && not (eqb u (suc k))) (left k u)
  unfolding left
  left_step k u a x e = go (dec_eq u (suc k)) x e
    where
      same : u ≢ suc k → leb u (suc k) ≡ leb u k
      same n = by (leb u k) (λ y. le-leb u (suc k) (omega (arith, leb-true u k y)) ∙ sym y) (λ y. lt-leb u (suc k) (omega (arith, leb-false u k y)) ∙ sym y)

      go : Dec (u ≡ suc k) → (x : Bool) → is_marked marks (suc k) ≡ x
          → not (is_marked marks u && leb u (suc k)) ≡ cond x (not (is_marked marks u && leb u k) && not (eqb u (suc k))) (not (is_marked marks u && leb u k))
      go (yes q) true e =
          rw (ap (is_marked marks) q ∙ e, le-leb u (suc k) (omega arith), lt-leb u k (omega arith), eq-eqb u (suc k) q)
      go (yes q) false e = rw (ap (is_marked marks) q ∙ e)
      go (no q) true e = rw (same q, ne_eqb u (suc k) q) (sym (and_yes (not (is_marked marks u && leb u k))))
      go (no q) false e = rw (same q)

  -- "and leave their chains": the others stay, in their order
  pub deserted_is : deserted marks X c ≡ keep (λ (u : ℕ). not (is_marked marks u)) (X c)
  unfolding deserted iter left leave
  deserted_is =
      go 64 ∙ keep_same (left 64) (λ (u : ℕ). not (is_marked marks u)) (X c) (λ u i. ap not (all_in u (own u i).1))
    where
      all_in : (u : ℕ) → u ≤ 64 → (is_marked marks u && leb u 64) ≡ is_marked marks u
      all_in u h = rw (le-leb u 64 h) (and_yes (is_marked marks u))

      turn : (k : ℕ) (Y : Chain → List ℕ) → Y c ≡ keep (left k) (X c) → (x : Bool) → is_marked marks (suc k) ≡ x → (cond x (leave (suc k) Y) Y) c ≡ keep (left (suc k)) (X c)
      turn k Y e true m =
          ap (without (suc k)) e ∙ without_keep (suc k) (left k) (X c)
          ∙ keep_same (λ (u : ℕ). left k u && not (eqb u (suc k))) (left (suc k)) (X c) (λ u i. sym (left_step k u (own u i).0 true m))
      turn k Y e false m = e ∙ keep_same (left k) (left (suc k)) (X c) (λ u i. sym (left_step k u (own u i).0 false m))

      go : (k : ℕ) → iter k (leave_one marks) X c ≡ keep (left k) (X c)
      go zero = sym (keep_all (left zero) (X c) (λ u i. rw (lt-leb u 0 (own u i).0) (ap not (and_no (is_marked marks u)))))
      go (suc k) = rw add-one (turn k (iter k (leave_one marks) X) (go k) (is_marked marks (suc k)) refl)
