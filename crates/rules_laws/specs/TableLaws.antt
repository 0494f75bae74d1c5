-- What is stored in the tables keeps them sound: states 0 to 3, values 0 and 1, invoked controllers, and 0 in every place
-- beyond the rig's counts.
use Rattle.std.specs.Prelude.{◌≡◌, ◌≢◌, Bool, ◌&&◌, ℕ, zero, suc, ◌+◌, ◌-◌, ◌≤◌, get_or, set}
use Rattle.std.proofs.Math.Path.{refl}
use Rattle.std.proofs.Common.{sym, ◌∙◌, subst, inl, inr, arith, length-set, get_or-set_other}
use Rattle.std.proofs.Math.Bool.{true, false, cond}
use mathlib.Core.List.{List, [], ◌∷◌}
use borrow.Author.Tests.{eqb-true, ltb-true}
use Rattle.std.proofs.Math.Dec.{eqb, ltb}
use Rattle.laws.specs.Cases.{dec_eq, and_true}
use Rattle.laws.specs.Laws.Tables.{set_le, set_within, keeps_some, was_some}
use Rattle.laws.specs.Members.{In}
use Rattle.laws.specs.Laws.Stores.{stores_keep}
use Rattle.rules.specs.Rig.{Rig, place_of}
use Rattle.rules.specs.RigOk.{RigOk}
use Rattle.rules.specs.State.{State, state_of, overruns_of, active}
use Rattle.rules.specs.Conditions.{relax, drive}
use Rattle.rules.specs.Serving.{rouse, too_soon, most_overruns, more_by_one, overrun}
use Rattle.rules.specs.Soundness.{Tasks, Flags, Conds, WakingCounts, Overruns}

module _ (r : Rig) where
  -- ---- task states

  -- an invoked task goes over to another state of invoked tasks
  pub tasks_move : (l : List ℕ) (t v : ℕ) → get_or l t 0 ≢ 0 → v ≢ 0 → v ≤ 3 → Tasks r l → Tasks r (set l t v)
  tasks_move l t v a b c h =
      record {
        sized = length-set l t v ∙ h.sized;
        small = set_le 3 l t v c h.small;
        within = λ u n. h.within u (was_some l t u v a n);
        tree = λ u n k. keeps_some l t (r.controller u) v b (h.tree u n (was_some l t u v a k));
      }

  -- a task is invoked whose controller is, or which is task 1
  pub tasks_invoke : (l : List ℕ) (t v : ℕ) → 1 ≤ t → t ≤ r.tasks → (t ≢ 1 → get_or l (r.controller t) 0 ≢ 0) → v ≢ 0 → v ≤ 3 → Tasks r l → Tasks r (set l t v)
  tasks_invoke l t v a b f n c h =
      record {
        sized = length-set l t v ∙ h.sized;
        small = set_le 3 l t v c h.small;
        within = set_within (λ u. (1 ≤ u) × (u ≤ r.tasks)) l t v (λ q. (a, b)) h.within;
        tree = λ u m k. keeps_some l t (r.controller u) v n (go u (dec_eq u t) m k);
      }
    where
      go : (u : ℕ) → Dec (u ≡ t) → u ≢ 1 → get_or (set l t v) u 0 ≢ 0 → get_or l (r.controller u) 0 ≢ 0
      go u (yes e) m k = subst (λ (x : ℕ). get_or l (r.controller x) 0 ≢ 0) (sym e) (f (λ q. m (e ∙ q)))
      go u (no e) m k = h.tree u m (λ q. k (get_or-set_other l t u v 0 e ∙ q))

  -- invoked tasks are roused
  pub tasks_rouse : (ts l : List ℕ) → ((t : ℕ) → In t ts → get_or l t 0 ≢ 0) → Tasks r l → Tasks r (rouse ts l)
  unfolding rouse
  tasks_rouse [] l f h = h
  tasks_rouse (t ∷ ts) l f h =
      tasks_rouse ts (set l t 3) (λ u i. keeps_some l t u 3 (λ q. omega arith) (f u (inr i)))
      (tasks_move l t 3 (f t (inl refl)) (λ q. omega arith) (omega arith) h)

  -- ---- flag values and waking counts

  pub flags_set : (l : List ℕ) (f v : ℕ) → 1 ≤ f → f ≤ r.flags → v ≤ 1 → Flags r l → Flags r (set l f v)
  flags_set l f v a b c h =
      record {
        sized = length-set l f v ∙ h.sized;
        small = set_le 1 l f v c h.small;
        within = set_within (λ u. (1 ≤ u) × (u ≤ r.flags)) l f v (λ q. (a, b)) h.within;
      }

  pub wakes_set : (l : List ℕ) (t k : ℕ) → 1 ≤ t → t ≤ r.tasks → WakingCounts r l → WakingCounts r (set l t k)
  wakes_set l t k a b h =
      record {
        sized = length-set l t k ∙ h.sized;
        within = set_within (λ u. (1 ≤ u) × (u ≤ r.tasks)) l t k (λ q. (a, b)) h.within;
      }

  -- ---- overruns

  pub overruns_set : (l : List ℕ) (t n : ℕ) → 1 ≤ t → t ≤ r.tasks → n ≤ most_overruns → Overruns r l → Overruns r (set l t n)
  overruns_set l t n a b c h =
      record {
        sized = length-set l t n ∙ h.sized;
        small = set_le most_overruns l t n c h.small;
        within = set_within (λ u. (1 ≤ u) × (u ≤ r.tasks)) l t n (λ q. (a, b)) h.within;
      }

  -- "It stops at 65,535."
  one_more_le : (n : ℕ) → n ≤ most_overruns → more_by_one n ≤ most_overruns
  unfolding more_by_one
  one_more_le n h = go (ltb n most_overruns) refl
    where
      go : (b : Bool) → ltb n most_overruns ≡ b → cond b (suc n) n ≤ most_overruns
      go true e = ltb-true n most_overruns e
      go false e = h

  -- an active task is one of the rig's
  some_active : (n : ℕ) → active n ≡ 1 → n ≢ 0
  some_active zero e = absurd (omega (arith, e))
  some_active (suc n) e = λ q. omega (arith, q)

  pub overruns_count : (f : ℕ) (s : State) → Tasks r s.states → Overruns r s.overruns → Overruns r (overrun r f s)
  unfolding overrun too_soon
  overruns_count f s k h =
      stores_keep (λ i. too_soon r f s (i + 1)) (λ i. i + 1) (λ i. more_by_one (overruns_of s (i + 1))) (Overruns r) 64
      (λ i m a e g.
      let u = some_active (state_of s (i + 1)) (eqb-true _ 1 (and_true (eqb (active (state_of s (i + 1))) 1) _ e).0) in
      overruns_set m (i + 1) (more_by_one (overruns_of s (i + 1))) (k.within (i + 1) u).0 (k.within (i + 1) u).1 (one_more_le _ (h.small (i + 1))) g)
      s.overruns h

  -- ---- condition values

  pub conds_set : (l : List ℕ) (i v : ℕ) → r.present i ≡ 1 → v ≤ 1 → Conds r l → Conds r (set l i v)
  conds_set l i v a c h =
      record {
        sized = length-set l i v ∙ h.sized;
        small = set_le 1 l i v c h.small;
        within = set_within (λ j. r.present j ≡ 1) l i v (λ q. a) h.within;
      }

  pub conds_relax : (t : ℕ) (l : List ℕ) → Conds r l → Conds r (relax r.present r.latched r.desired t l)
  unfolding relax
  conds_relax t l h =
      stores_keep (λ p. eqb (r.present (place_of t p)) 1 && eqb (r.latched (place_of t p)) 0) (λ p. place_of t p) (λ p. 1 - r.desired (place_of t p)) (Conds r) 16
      (λ p m a e g. conds_set m (place_of t p) (1 - r.desired (place_of t p)) (eqb-true _ 1 (and_true (eqb (r.present (place_of t p)) 1) _ e).0) (omega arith) g) l h

  pub conds_drive : RigOk r → (f v : ℕ) → v ≤ 1 → (l : List ℕ) → Conds r l → Conds r (drive r.lines r.line_task r.line_pos r.line_flag f v l)
  unfolding drive
  conds_drive ok f v c l h =
      stores_keep (λ k. eqb (r.line_flag k) f) (λ k. place_of (r.line_task k) (r.line_pos k)) (λ k. v) (Conds r) r.lines
      (λ k m a e g. conds_set m (place_of (r.line_task k) (r.line_pos k)) v (ok.line_present k a) c g) l h
