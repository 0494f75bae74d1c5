-- Laws of the definitions of Order.antt, and the loop that tests them.
use Rattle.std.specs.Prelude.{◌≡◌, ◌≢◌, Bool, ◌&&◌, ltb, length}
use Rattle.std.proofs.Math.Path.{refl, sym, ap}
use Rattle.std.proofs.Common.{◌∙◌, subst, inl, ⊎_elim, arith, le-leb, leb-true, ltb-true}
use Rattle.std.proofs.Math.Bool.{true, false, cond}
use mathlib.Core.List.{List, [], ◌∷◌}
use Prim.Native.Nat.{ℕ, zero, suc, ◌≤◌, ◌<◌}
use Rattle.std.proofs.Math.Dec.{leb}
use Rattle.std.proofs.lemmas.Bool.{lt-leb}
use Rattle.laws.specs.Members.{In}
use Rattle.laws.specs.Order.{Sorted}
use Rattle.chains.specs.Link.{last}
use Rattle.chains.specs.Laws.Link.{linked_split}
use Rattle.chains.specs.Ops.{walk}
use Rattle.chains.specs.Laws.Ops.{forward}
use Rattle.chains.specs.Laws.Check.{and_out, walk_end, walk_next}
use Rattle.chains.specs.Held.{at, HoldsChains}
use Rattle.chains.specs.declared.Links.{Links}
use Rattle.chain_tests.specs.Order.{risingb, Reaches}

-- for the reader: sorted, and none below lo
pub rising_sorted : (W : ℕ → ℕ) (lo : ℕ) (xs : List ℕ) → risingb W lo xs ≡ true → Sorted W xs × ((a : ℕ) → In a xs → lo ≤ W a)
unfolding risingb
rising_sorted W lo [] e = (tt, (λ a i. absurd i))
rising_sorted W lo (x ∷ xs) e =
    let k = and_out (leb lo (W x)) (risingb W (W x) xs) e in
    let b = leb-true lo (W x) k.0 in
    let r = rising_sorted W (W x) xs k.1 in
    ((r.1, r.0), (λ a i. ⊎_elim (λ q. rw q b) (λ j. omega (arith, b, r.1 a j)) i))

pub sorted_rising : (W : ℕ → ℕ) (lo : ℕ) (xs : List ℕ) → Sorted W xs → ((a : ℕ) → In a xs → lo ≤ W a) → risingb W lo xs ≡ true
unfolding risingb
sorted_rising W lo [] s f = refl
sorted_rising W lo (x ∷ xs) s f = rw (le-leb lo (W x) (f x (inl refl)), sorted_rising W (W x) xs s.1 s.0)

-- links that hold chains lead from an anchor back to it
pub held_reaches : (l : Links) → HoldsChains l → (s : ℕ) → 64 < s → s < 322 → Reaches (at l.next) s s
held_reaches l h s ls hs =
    let b = linked_split (at l.next) (at l.prev) s (h.0 s) (s ∷ []) (h.1.link s ls hs) in
    ap (λ (xs : List ℕ). at l.next (last s xs)) (forward 64 322 (at l.next) (at l.prev) (at l.on) h.0 h.1 s ls hs) ∙ b.1.0

-- at node u with v behind it, and waking counts from w on: what is left to test is the whole test's
pub record Rising (N W : ℕ → ℕ) (lo s u v w : ℕ) : Type 0 where
  pub behind : N u ≡ v
  pub reaches : Reaches N u s
  pub same : risingb W lo (walk N 64 64 s) ≡ risingb W w (walk N 64 64 u)

module _ (N : ℕ → ℕ) (s : ℕ) (ls : 64 < s) where
  -- where it has come to s, a walk goes no further
  walk_more : (n u : ℕ) → N (last u (walk N 64 n u)) ≡ s → walk N 64 (suc n) u ≡ walk N 64 n u
  unfolding walk
  walk_more zero u e = walk_end N N N 64 s ls 1 u e
  walk_more (suc n) u e = go (walk_more n (N u)) (ltb 0 (N u) && leb (N u) 64) e
    where
      go : (N (last (N u) (walk N 64 n (N u))) ≡ s → walk N 64 (suc n) (N u) ≡ walk N 64 n (N u)) → (b : Bool)
          → N (last u (cond b (N u ∷ walk N 64 n (N u)) [])) ≡ s
          → cond b (N u ∷ walk N 64 (suc n) (N u)) [] ≡ cond b (N u ∷ walk N 64 n (N u)) []
      go more true k = ap (λ (r : List ℕ). N u ∷ r) (more k)
      go more false k = refl

  walk_stops : (n u : ℕ) → (ltb 0 (N u) && leb (N u) 64) ≡ false → walk N 64 n u ≡ []
  unfolding walk
  walk_stops zero u e = refl
  walk_stops (suc n) u e = rw e refl

  -- behind u there is a task, and the walk goes on from it
  goes_on : (u : ℕ) → Reaches N u s → N u ≢ s → (0 < N u) × (N u ≤ 64) × (walk N 64 64 u ≡ N u ∷ walk N 64 64 (N u)) × Reaches N (N u) s
  goes_on u k n = go (ltb 0 (N u) && leb (N u) 64) refl
    where
      go : (b : Bool) → (ltb 0 (N u) && leb (N u) 64) ≡ b
          → (0 < N u) × (N u ≤ 64) × (walk N 64 64 u ≡ N u ∷ walk N 64 64 (N u)) × Reaches N (N u) s
      go false e = absurd (n (ap (λ (xs : List ℕ). N (last u xs)) (sym (walk_stops 64 u e)) ∙ k))
      go true e =
          let t = and_out (ltb 0 (N u)) (leb (N u) 64) e in
          let a = ltb-true 0 (N u) t.0 in
          let b = leb-true (N u) 64 t.1 in
          let w : walk N 64 64 u ≡ N u ∷ walk N 64 63 (N u) = walk_next N N N 64 s ls 64 63 u refl a b in
          let r : N (last (N u) (walk N 64 63 (N u))) ≡ s = ap (λ (xs : List ℕ). N (last u xs)) (sym w) ∙ k in
          let m : walk N 64 64 (N u) ≡ walk N 64 63 (N u) = walk_more 63 (N u) r in
          (a, b, w ∙ ap (λ (xs : List ℕ). N u ∷ xs) (sym m), ap (λ (xs : List ℕ). N (last (N u) xs)) m ∙ r)

  module _ (W : ℕ → ℕ) (lo : ℕ) where
    pub rising_start : Reaches N s s → Rising N W lo s s (N s) lo
    rising_start k = record { behind = refl; reaches = k; same = refl }

    module _ (u v w : ℕ) (k : Rising N W lo s u v w) where
      pub rising_end : v ≡ s → true ≡ risingb W lo (walk N 64 64 s)
      unfolding risingb
      rising_end e = sym (k.same ∙ ap (risingb W w) (walk_end N N N 64 s ls 64 u (k.behind ∙ e)))

      module _ (n : v ≢ s) where
        on : (0 < v) × (v ≤ 64) × (walk N 64 64 u ≡ v ∷ walk N 64 64 v) × Reaches N v s
        on =
            subst (λ (x : ℕ). (0 < x) × (x ≤ 64) × (walk N 64 64 u ≡ x ∷ walk N 64 64 x) × Reaches N x s) k.behind
            (goes_on u k.reaches (λ q. n (sym k.behind ∙ q)))

        pub rising_task : (0 < v) × (v ≤ 64)
        rising_task = (on.0, on.1)

        pub rising_falls : length (walk N 64 64 v) < length (walk N 64 64 u)
        rising_falls = omega (arith, ap length on.2)

        pub rising_bad : W v < w → false ≡ risingb W lo (walk N 64 64 s)
        unfolding risingb
        rising_bad b = sym (k.same ∙ ap (risingb W w) on.2 ∙ rw (lt-leb w (W v) b))

        pub rising_step : w ≤ W v → Rising N W lo s v (N v) (W v)
        unfolding risingb
        rising_step b =
            record { behind = refl; reaches = on.3; same = k.same ∙ ap (risingb W w) on.2 ∙ rw (le-leb w (W v) b) }
