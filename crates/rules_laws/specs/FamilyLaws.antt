-- "the named task and all its descendants": the marks are theirs and nobody else's.
use Rattle.std.proofs.Math.Path.{◌≡◌, refl, subst}
use Rattle.std.proofs.Common.{sym, ap, ◌∙◌, true≢false, le_refl, length-set, get_or-set_same, get_or-set_other}
use Rattle.std.specs.Prelude.{◌≢◌, ◌⊎◌, ◌↔◌, Bool, cond, ◌||◌, List, length, get_or, set, replicate}
use Rattle.std.proofs.Math.Logic.{inl, inr, ⊎_elim}
use Rattle.std.proofs.Math.Bool.{true, false}
use Prim.Native.Nat.{ℕ, zero, suc, ◌≤◌, ◌<◌}
use native.Mathlib.Omega.{arith}
use Rattle.std.proofs.Math.Numerals.{add-one}
use borrow.Author.Tests.{eqb-true, eq-eqb}
use Rattle.std.proofs.Math.Dec.{eqb}
use Rattle.std.proofs.Math.ListN.{length-replicate}
use Rattle.laws.specs.Cases.{dec_eq}
use Rattle.laws.specs.Laws.Iter.{iter_ind}
use Rattle.laws.specs.Laws.Tables.{zeros}
use Rattle.rules.specs.Rig.{Rig}
use Rattle.rules.specs.RigOk.{RigOk}
use Rattle.rules.specs.Family.{Under, itself, below, mark_one, family, is_marked}

-- what a mark says of its task, by the mark of the controller
abbrev pub mark_by : (ℕ → ℕ) → ℕ → List ℕ → ℕ → ℕ
mark_by controller t marks u = cond (eqb u t || eqb (get_or marks (controller u) 0) 1) 1 0

record Marked (controller : ℕ → ℕ) (t k : ℕ) (m : List ℕ) : Type 0 where
  sized : length m ≡ 65
  none : get_or m 0 0 ≡ 0
  own : (u : ℕ) → 1 ≤ u → u ≤ k → get_or m u 0 ≡ mark_by controller t m u

module _ (r : Rig) (ok : RigOk r) (t : ℕ) where
  mark_turn : (k v : ℕ) (m : List ℕ) → k < 64 → v ≡ mark_by r.controller t m (suc k) → Marked r.controller t k m → Marked r.controller t (suc k) (set m (suc k) v)
  mark_turn k v m l e h =
      record {
        sized = length-set m (suc k) v ∙ h.sized;
        none = get_or-set_other m (suc k) 0 v 0 (λ q. omega arith) ∙ h.none;
        own = λ u a b. go u a b (dec_eq u (suc k));
      }
    where
      -- the controllers of tasks so far are not touched
      same : (u : ℕ) → 1 ≤ u → u ≤ suc k → mark_by r.controller t (set m (suc k) v) u ≡ mark_by r.controller t m u
      same u a b =
          ap (λ (x : ℕ). cond (eqb u t || eqb x 1) 1 0)
          (get_or-set_other m (suc k) (r.controller u) v 0 (λ q. omega (arith, ok.controller_low u (λ z. omega arith))))

      go : (u : ℕ) → 1 ≤ u → u ≤ suc k → Dec (u ≡ suc k) → get_or (set m (suc k) v) u 0 ≡ mark_by r.controller t (set m (suc k) v) u
      go u a b (yes q) = subst (λ (x : ℕ). get_or (set m (suc k) v) x 0 ≡ mark_by r.controller t (set m (suc k) v) x) (sym q) (get_or-set_same m (suc k) v 0 (omega (arith, h.sized)) ∙ e ∙ sym (same (suc k) (omega arith) (le_refl _)))
      go u a b (no q) = get_or-set_other m (suc k) u v 0 q ∙ h.own u a (omega arith) ∙ sym (same u a b)

  family_marked : Marked r.controller t 64 (family r.controller t)
  unfolding family
  family_marked =
      iter_ind (λ k m. k ≤ 64 → Marked r.controller t k m) (mark_one r.controller t) (replicate 65 0)
      (λ l. record { sized = length-replicate {A = ℕ} 65 0; none = zeros 65 0; own = λ u a b. absurd (omega arith) })
      (λ k m h l. rw add-one (mark_turn k (mark_by r.controller t m (suc k)) m (omega arith) refl (h (omega arith)))) 64 (le_refl _)

  -- a task is marked if it is the named one, or if its controller is marked
  pub family_eq : (u : ℕ) → 1 ≤ u → u ≤ 64 → get_or (family r.controller t) u 0 ≡ mark_by r.controller t (family r.controller t) u
  family_eq = family_marked.own

  pub family_none : is_marked (family r.controller t) 0 ≡ false
  family_none = ap (λ (x : ℕ). eqb x 1) family_marked.none

  marks : List ℕ
  marks = family r.controller t

  -- who is marked: the named one, or one whose controller is
  marked_why : (u : ℕ) → 1 ≤ u → u ≤ 64 → is_marked marks u ≡ true → (u ≡ t) ⊎ (is_marked marks (r.controller u) ≡ true)
  unfolding marks
  marked_why u a b e = go (eqb u t) refl (eqb (get_or marks (r.controller u) 0) 1) refl (sym (family_eq u a b) ∙ eqb-true _ 1 e)
    where
      go : (x : Bool) → eqb u t ≡ x → (y : Bool) → eqb (get_or marks (r.controller u) 0) 1 ≡ y → ◌≡◌ {A = ℕ} (cond (x || y) 1 0) 1
          → (u ≡ t) ⊎ (eqb (get_or marks (r.controller u) 0) 1 ≡ true)
      go true p y q h = inl (eqb-true u t p)
      go false p true q h = inr q
      go false p false q h = absurd (omega arith)

  -- a task whose controller is marked is marked, and so is the named one
  pub marked_down : (u : ℕ) → 1 ≤ u → u ≤ 64 → is_marked (family r.controller t) (r.controller u) ≡ true → is_marked (family r.controller t) u ≡ true
  marked_down u a b e = eq-eqb _ 1 (family_eq u a b ∙ go (eqb u t))
    where
      go : (x : Bool) → ◌≡◌ {A = ℕ} (cond (x || eqb (get_or (family r.controller t) (r.controller u) 0) 1) 1 0) 1
      go true = refl
      go false = rw e

  pub marked_self : 1 ≤ t → t ≤ 64 → is_marked (family r.controller t) t ≡ true
  marked_self a b = eq-eqb _ 1 (family_eq t a b ∙ rw (eq-eqb t t refl))

  marked_under : (n u : ℕ) → u ≤ n → 1 ≤ u → u ≤ 64 → is_marked marks u ≡ true → Under r.controller t u
  unfolding marks
  marked_under zero u l a b e = absurd (omega arith)
  marked_under (suc n) u l a b e =
      let lower : r.controller u < u = ok.controller_low u (λ z. omega arith) in
      ⊎_elim (λ q. subst (λ (x : ℕ). Under r.controller t x) (sym q) itself)
      (λ q. below u (marked_under n (r.controller u) (omega arith) (some (r.controller u) q) (omega arith) q))
      (marked_why u a b e)
    where
      some : (c : ℕ) → is_marked marks c ≡ true → 1 ≤ c
      some zero q = absurd (true≢false (sym q ∙ family_none))
      some (suc c) q = omega arith

  under_marked : 1 ≤ t → t ≤ 64 → (u : ℕ) → Under r.controller t u → u ≤ 64 → (1 ≤ u) × (is_marked (family r.controller t) u ≡ true)
  under_marked a b _ itself l = (a, marked_self a b)
  under_marked a b _ (below u h) l =
      let k = under_marked a b (r.controller u) h (low (dec_eq u 0)) in
      let some : u ≢ 0 = λ z. omega (arith, k.0, ap r.controller z, ok.controller_none) in
      (omega arith, marked_down u (omega arith) l k.1)
    where
      low : Dec (u ≡ 0) → r.controller u ≤ 64
      low (yes z) = omega (arith, ap r.controller z, ok.controller_none)
      low (no z) = omega (arith, ok.controller_low u z)

  -- THE MARKS: a task is marked exactly when it is the named one or descends from it
  pub family_is : 1 ≤ t → t ≤ 64 → (u : ℕ) → 1 ≤ u → u ≤ 64 → (get_or (family r.controller t) u 0 ≡ 1) ↔ Under r.controller t u
  unfolding marks
  family_is a b u c d =
      ((λ e. marked_under u u (le_refl _) c d (eq-eqb _ 1 e)), (λ h. eqb-true _ 1 (under_marked a b u h d).1))

-- every task of the rig is task 1 or descends from it
module _ (r : Rig) (ok : RigOk r) where
  from_one : (n t : ℕ) → t ≤ n → 1 ≤ t → t ≤ r.tasks → Under r.controller 1 t
  from_one zero t l a b = absurd (omega arith)
  from_one (suc n) t l a b = go (dec_eq t 1) (λ c d. from_one n (r.controller t) c d)
    where
      go : Dec (t ≡ 1) → (r.controller t ≤ n → 1 ≤ r.controller t → r.controller t ≤ r.tasks → Under r.controller 1 (r.controller t)) → Under r.controller 1 t
      go (yes e) ih = subst (λ (u : ℕ). Under r.controller 1 u) (sym e) itself
      go (no e) ih =
          let low : r.controller t < t = ok.controller_low t (λ q. omega arith) in
          let some : r.controller t ≢ 0 = ok.controller_some t (omega arith) b in
          below t (ih (omega arith) (omega arith) (omega arith))

  pub all_from_one : (t : ℕ) → 1 ≤ t → t ≤ r.tasks → Under r.controller 1 t
  all_from_one t a b = from_one t t (le_refl _) a b
