-- L3: HOW MANY FLAGS a finish and a terminate serve at most: the task's off, and an on for each task that may be activated, itself among them.
use Rattle.std.specs.Prelude.{◌≡◌, ◌≢◌, length, get_or}
use Rattle.std.proofs.Math.Path.{refl, ap}
use Rattle.std.proofs.Common.{◌∙◌, ⊎_elim, arith, le_of_suc-le-suc, get_or-set_other}
use mathlib.Core.List.{List, [], ◌∷◌}
use Prim.Native.Nat.{ℕ, zero, suc, ◌+◌, ◌≤◌, ◌<◌, zero-le}
use Rattle.std.proofs.Math.ListN.{set}
use Rattle.laws.specs.Cases.{dec_eq}
use Rattle.laws.specs.Tables.{total, over}
use Rattle.laws.specs.Laws.Tables.{over_set, in_range}
use Rattle.rules.specs.Rig.{Rig}
use Rattle.rules.specs.RigOk.{RigOk}
use Rattle.rules.specs.State.{State, state_of}
use Rattle.rules.specs.Serving.{is_inactive, inactives}
use Rattle.rules.specs.Calls.{Call, terminate, finish, terminated, finished, effect, refusal, refusals, not_active, accepted, Step, step}
use Rattle.rules.specs.Proper.{Proper}
use Rattle.rules.specs.Soundness.{Within, Sound}
use Rattle.rules_laws.specs.Serve.{load, push_length}
use Rattle.rules_laws.specs.Testing.{settled_le}
use Rattle.rules_laws.specs.Bound.{inactive_le}
use Rattle.rules_laws.specs.Acceptance.{named_is}
use Rattle.rules_laws.specs.Refusals.{accepted_is, refused_is}
use Rattle.rules_laws.specs.Steps.{effect_ready}
use Rattle.rules_laws.specs.RunningOn.{effect_stays}

-- where only the places below n hold another number than 0, no more than n
below_inactives : (l : List ℕ) (n : ℕ) → ((i : ℕ) → get_or l i 0 ≢ 0 → i < n) → total is_inactive l ≤ n
unfolding total
below_inactives [] n h = zero-le
below_inactives (x ∷ l) zero h = go (dec_eq x 0) (below_inactives l 0 (λ i k. absurd (omega (arith, h (suc i) k))))
  where
    go : Dec (x ≡ 0) → total is_inactive l ≤ 0 → is_inactive x + total is_inactive l ≤ 0
    go (yes e) k = omega (arith, ap is_inactive e)
    go (no e) k = absurd (omega (arith, h 0 e))
below_inactives (x ∷ l) (suc n) h = omega (arith, inactive_le x, below_inactives l n (λ i k. le_of_suc-le-suc (h (suc i) k)))

-- and where those are places 1 to n, as of tasks, no more than n
within_inactives : (n : ℕ) (l : List ℕ) → Within n l → inactives l ≤ n
unfolding over
within_inactives n [] h = zero-le
within_inactives n (x ∷ l) h = below_inactives l n (λ i k. (h (suc i) k).1)

module _ (r : Rig) (ok : RigOk r) (s : State) (h : Sound r s) where
  -- of what a call leaves to the serving
  few_inactive : (k : Call) → Proper k → refusal r s k ≡ 0 → inactives (effect r s k).now.states ≤ r.tasks
  few_inactive k p e = within_inactives r.tasks (effect r s k).now.states (effect_ready r ok s h k p e).good.tasks.within

  -- accepted or refused
  served_most : (k : Call) (n : ℕ) → (refusal r s k ≡ 0 → load (effect r s k) ≤ n) → (step r s k).answer.report.served ≤ n
  unfolding accepted
  served_most k n l = go (refusal r s k) refl
    where
      go : (m : ℕ) → refusal r s k ≡ m → (step r s k).answer.report.served ≤ n
      go zero e = omega (arith, ap (λ (x : Step). x.answer.report.served) (accepted_is r s k e), settled_le r s k, l e)
      go (suc m) e = omega (arith, ap (λ (x : Step). x.answer.report.served) (refused_is r s k m e))

  -- a finish: one more than the rig's tasks
  pub finish_most : (step r s finish).answer.report.served ≤ suc r.tasks
  unfolding effect finished
  finish_most =
      served_most finish (suc r.tasks) (λ e. omega (arith, push_length (r.activation s.running) 0 [], few_inactive finish tt e))

  terminate_load : (t : ℕ) → refusal r s (terminate t) ≡ 0 → load (effect r s (terminate t)) ≤ r.tasks
  unfolding effect terminated refusal refusals
  terminate_load t e =
      omega (arith, push_length (r.activation t) 0 [], others s.running runs (in_range l s.running 2 up) (ap is_inactive up), within_inactives r.tasks (set l s.running 1) known)
    where
      l : List ℕ
      l = set s.states t 1

      runs : s.running ≢ 0
      runs = (named_is r s t (not_active s t) e).runs

      up : get_or l s.running 0 ≡ 3
      up = ⊎_elim (λ y. y.1) (λ y. absurd (runs y.0)) (effect_stays r ok s h runs (terminate t) e)

      known : Within r.tasks (set l s.running 1)
      known i n = go (dec_eq i s.running)
        where
          go : Dec (i ≡ s.running) → (1 ≤ i) × (i ≤ r.tasks)
          go (yes q) = h.tasks.within i (λ z. omega (arith, h.runs.up runs, z, ap (state_of s) q))
          go (no q) = (effect_ready r ok s h (terminate t) tt e).good.tasks.within i (λ z. n (get_or-set_other l s.running i 1 0 q ∙ z))

      -- were the caller inactive too, there would be one more
      others : (n : ℕ) → n ≢ 0 → n < length l → is_inactive (get_or l n 0) ≡ 0 → inactives (set l n 1) ≡ suc (inactives l)
      others zero z b i = absurd (z refl)
      others (suc n) z b i = omega (arith, over_set is_inactive l n 1 b)

  -- a terminate: as many as the rig's tasks, for its caller is one of them, and is not inactive
  pub terminate_most : (t : ℕ) → (step r s (terminate t)).answer.report.served ≤ r.tasks
  terminate_most t = served_most (terminate t) r.tasks (λ e. terminate_load t e)
