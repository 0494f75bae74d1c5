-- Who runs: dispatchable, with none of higher rank; or none, with none dispatchable.
use Rattle.std.specs.Prelude.{◌≡◌, ◌≢◌, Bool, not, ◌&&◌, ◌||◌, List, eqb, ltb, length}
use Rattle.std.proofs.Math.Path.{refl}
use Rattle.std.proofs.Common.{sym, ◌∙◌, arith}
use Rattle.std.proofs.Math.Bool.{true, false, cond}
use Prim.Native.Nat.{ℕ, zero, suc, ◌≤◌, ◌<◌}
use Rattle.std.proofs.Math.Numerals.{add-one}
use Rattle.std.proofs.Math.Nat.{le_refl, le_trans}
use borrow.Author.Tests.{eqb-true, eqb-false, eq-eqb, le-leb, ltb-true, ltb-false, leb-true, not-true}
use Rattle.std.proofs.Math.Dec.{leb}
use Rattle.std.proofs.Math.ListN.{get_or}
use Rattle.laws.specs.Cases.{by_eqb, and_true}
use Rattle.laws.specs.Laws.Iter.{iter_ind}
use Rattle.laws.specs.Laws.Tables.{in_range, below_suc}
use Rattle.rules.specs.Rig.{Rig}
use Rattle.rules.specs.RigOk.{RigOk}
use Rattle.rules.specs.Running.{rank, best, best_one, chosen}
use Rattle.rules.specs.Soundness.{Runs}

module _ (pv pr : ℕ → ℕ) (l : List ℕ) where
  -- the running rule of tasks up to k, and the lowest number first
  pub record Best (k n : ℕ) : Type 0 where
    pub low : n ≤ k
    pub up : n ≢ 0 → get_or l n 0 ≡ 3
    pub top : (t : ℕ) → t < k → get_or l (suc t) 0 ≡ 3 → (n ≢ 0) × (rank pv pr (suc t) ≤ rank pv pr n)
    pub first : (t : ℕ) → suc t < n → get_or l (suc t) 0 ≡ 3 → rank pv pr (suc t) < rank pv pr n

  best_turn : (k n : ℕ) → Best k n → Best (suc k) (cond (eqb (get_or l (suc k) 0) 3 && (eqb n 0 || ltb (rank pv pr n) (rank pv pr (suc k)))) (suc k) n)
  best_turn k n ih = go (eqb (get_or l (suc k) 0) 3) refl (eqb n 0) refl (ltb (rank pv pr n) (rank pv pr (suc k))) refl
    where
      go : (a : Bool) → eqb (get_or l (suc k) 0) 3 ≡ a → (b : Bool) → eqb n 0 ≡ b → (c : Bool)
          → ltb (rank pv pr n) (rank pv pr (suc k)) ≡ c → Best (suc k) (cond (a && (b || c)) (suc k) n)
      go false e b y c x =
          record {
            low = omega (arith, ih.low);
            up = ih.up;
            top = below_suc _ k ih.top (λ h. absurd (eqb-false _ _ e h));
            first = ih.first;
          }
      go true e true y c x =
          record {
            low = le_refl _;
            up = λ n. eqb-true _ _ e;
            top = below_suc _ k (λ t h z. absurd ((ih.top t h z).0 (eqb-true _ _ y))) (λ h. (λ q. omega arith, le_refl _));
            first = λ t h z. absurd ((ih.top t (omega arith) z).0 (eqb-true _ _ y));
          }
      go true e false y true x =
          let m : rank pv pr n < rank pv pr (suc k) = ltb-true _ _ x in
          record {
            low = le_refl _;
            up = λ n. eqb-true _ _ e;
            top = below_suc _ k (λ t h z. (λ q. omega arith, omega (arith, (ih.top t h z).1))) (λ h. (λ q. omega arith, le_refl _));
            first = λ t h z. omega (arith, (ih.top t (omega arith) z).1);
          }
      go true e false y false x =
          record {
            low = omega (arith, ih.low);
            up = ih.up;
            top = below_suc _ k ih.top (λ h. (eqb-false _ _ y, ltb-false _ _ x));
            first = ih.first;
          }

  pub best_is : (k : ℕ) → Best k (best pv pr l k)
  unfolding best
  best_is k =
      iter_ind Best (best_one pv pr l) 0
      (record { low = le_refl _; up = λ n. absurd (n refl); top = λ t h e. absurd (omega arith); first = λ t h e. absurd (omega arith) })
      (λ i n h. rw add-one (best_turn i n h)) k

  -- the best of all tasks runs by the rule
  low : length l ≡ 65 → (t : ℕ) → get_or l (suc t) 0 ≡ 3 → t < 64
  low z t h = omega (arith, in_range l (suc t) 2 h, z)

  best_runs : length l ≡ 65 → Runs pv pr l (best pv pr l 64)
  best_runs z = record { up = (best_is 64).up; top = top }
    where
      top : (t : ℕ) → t ≢ 0 → get_or l t 0 ≡ 3 → (best pv pr l 64 ≢ 0) × (rank pv pr t ≤ rank pv pr (best pv pr l 64))
      top zero n h = absurd (n refl)
      top (suc t) n h = (best_is 64).top t (low z t h) h

  -- after a dispatch the rule holds, whatever ran before
  pub chosen_runs : length l ≡ 65 → (n : ℕ) → Runs pv pr l (chosen pv pr l n)
  unfolding chosen
  chosen_runs z n = go (not (eqb n 0) && (eqb (get_or l n 0) 3 && leb (rank pv pr (best pv pr l 64)) (rank pv pr n))) refl
    where
      go : (c : Bool) → (not (eqb n 0) && (eqb (get_or l n 0) 3 && leb (rank pv pr (best pv pr l 64)) (rank pv pr n))) ≡ c
          → Runs pv pr l (cond c n (best pv pr l 64))
      go true e =
          let p = and_true _ _ e in
          let q = and_true _ _ p.1 in
          record {
            up = λ m. eqb-true _ _ q.0;
            top = λ t m h. (eqb-false _ _ (not-true _ p.0), le_trans ((best_runs z).top t m h).1 (leb-true _ _ q.1));
          }
      go false e = best_runs z

  -- who runs by the rule is chosen again: the test of the rule
  pub runs_chosen : length l ≡ 65 → (n : ℕ) → Runs pv pr l n → chosen pv pr l n ≡ n
  unfolding chosen
  runs_chosen z n r =
      by_eqb n 0 (λ x. cond (not x && (eqb (get_or l n 0) 3 && leb (rank pv pr (best pv pr l 64)) (rank pv pr n))) n (best pv pr l 64) ≡ n)
      (λ e. none e)
      (λ e. rw (eq-eqb (get_or l n 0) 3 (r.up e), le-leb (rank pv pr (best pv pr l 64)) (rank pv pr n) (most e)))
    where
      is : Runs pv pr l (best pv pr l 64)
      is = best_runs z

      none : n ≡ 0 → best pv pr l 64 ≡ n
      none e =
          by_eqb (best pv pr l 64) 0 (λ x. best pv pr l 64 ≡ n) (λ q. q ∙ sym e)
          (λ q. absurd ((r.top (best pv pr l 64) q (is.up q)).0 e))

      most : n ≢ 0 → rank pv pr (best pv pr l 64) ≤ rank pv pr n
      most e =
          let some : best pv pr l 64 ≢ 0 = (is.top n e (r.up e)).0 in
          (r.top (best pv pr l 64) some (is.up some)).1

  -- "the running task goes on if it stayed dispatchable throughout and none has higher rank"
  pub stays_on : length l ≡ 65 → (n : ℕ) → n ≢ 0 → get_or l n 0 ≡ 3 → ((t : ℕ) → t ≢ 0 → get_or l t 0 ≡ 3 → rank pv pr t ≤ rank pv pr n)
      → chosen pv pr l n ≡ n
  stays_on z n a h top = runs_chosen z n (record { up = λ q. h; top = λ t b k. (a, top t b k) })

  -- "else the highest rank, lowest number first": who begins to run has a higher rank than every dispatchable task before it
  pub lowest_first : (n t : ℕ) → chosen pv pr l n ≢ n → t ≢ 0 → t < chosen pv pr l n → get_or l t 0 ≡ 3
      → rank pv pr t < rank pv pr (chosen pv pr l n)
  unfolding chosen
  lowest_first n t = go (not (eqb n 0) && (eqb (get_or l n 0) 3 && leb (rank pv pr (best pv pr l 64)) (rank pv pr n)))
    where
      least : (t : ℕ) → t ≢ 0 → t < best pv pr l 64 → get_or l t 0 ≡ 3 → rank pv pr t < rank pv pr (best pv pr l 64)
      least zero a b h = absurd (a refl)
      least (suc t) a b h = (best_is 64).first t b h

      go : (c : Bool) → cond c n (best pv pr l 64) ≢ n → t ≢ 0 → t < cond c n (best pv pr l 64) → get_or l t 0 ≡ 3
          → rank pv pr t < rank pv pr (cond c n (best pv pr l 64))
      go true m = absurd (m refl)
      go false m = least t

-- "Privileged tasks rank above all others, by priority among themselves."
pub privileged_above : (r : Rig) → RigOk r → (t u : ℕ) → r.privileged u < r.privileged t
    → rank r.privileged r.priority u < rank r.privileged r.priority t
privileged_above r ok t u g = omega (arith, ok.priority_le u)

pub by_priority : (r : Rig) (t u : ℕ) → r.privileged u ≡ r.privileged t → r.priority u < r.priority t
    → rank r.privileged r.priority u < rank r.privileged r.priority t
by_priority r t u h g = omega arith
