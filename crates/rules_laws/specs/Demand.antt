-- DEMAND 3, of the rules: from an accepted start, after any run, refused calls among it.
-- Each chain lists exactly who waits there, once; an activation flag is on exactly when its task is active; no call serves more than 79.
-- (That waking is exact, and that the order is that of the history, are theorems of their own.)
use Rattle.std.specs.Prelude.{◌≡◌, refl, ◌≢◌, ◌⊎◌, ◌↔◌, List, ℕ, zero, suc, ◌*◌, ◌≤◌, ◌<◌, get_or}
use Rattle.std.proofs.Common.{sym, ◌∙◌, inl, inr, ⊎_elim, arith, le_trans}
use Rattle.laws.specs.Cases.{dec_eq}
use Rattle.laws.specs.Members.{In, Distinct}
use Rattle.laws.specs.Order.{Sorted}
use Rattle.rules.specs.Rig.{Rig}
use Rattle.rules.specs.RigOk.{RigOk}
use Rattle.rules.specs.State.{Chain, time_chain, State, state_of, value_of, wake_of, active, on, waiting, dispatchable}
use Rattle.rules.specs.Calls.{Call, step, run, started, start}
use Rattle.rules.specs.Proper.{ProperRun}
use Rattle.rules.specs.Soundness.{Sound}
use Rattle.rules_laws.specs.Steps.{always}
use Rattle.rules_laws.specs.Bound.{served_79, start_served}

-- ---- what a sound state says, one sentence each

active_is : (n : ℕ) → n ≤ 3 → (active n ≡ 1) ↔ ((n ≡ 2) ⊎ (n ≡ 3))
active_is zero h = ((λ e. absurd (omega arith)), (λ e. ⊎_elim (λ q. absurd (omega arith)) (λ q. absurd (omega arith)) e))
active_is (suc zero) h = ((λ e. absurd (omega arith)), (λ e. ⊎_elim (λ q. absurd (omega arith)) (λ q. absurd (omega arith)) e))
active_is (suc (suc n)) h = ((λ e. go (dec_eq n 0)), (λ e. refl))
  where
    go : Dec (n ≡ 0) → (suc (suc n) ≡ 2) ⊎ (suc (suc n) ≡ 3)
    go (yes q) = inl (omega arith)
    go (no q) = inr (omega arith)

module _ (r : Rig) (ok : RigOk r) (s : State) (h : Sound r s) where
  -- an activation flag is on exactly when its task is active: "Active is 2 or 3."
  pub flag_on : (t : ℕ) → r.activation t ≢ 0 → (value_of s (r.activation t) ≡ on) ↔ ((state_of s t ≡ waiting) ⊎ (state_of s t ≡ dispatchable))
  flag_on t nz =
      let a = active_is (state_of s t) (h.tasks.small t) in
      ((λ e. a.0 (sym (h.agree t nz) ∙ e)), (λ e. h.agree t nz ∙ a.1 e))

  -- a task waits exactly when it is in a chain, and then in one alone
  pub waits_in_one : (t : ℕ) → (state_of s t ≡ waiting) ↔ ((c : Chain) × In t (s.chains c) × ((d : Chain) → In t (s.chains d) → d ≡ c))
  waits_in_one t = (
    (λ e. let w = h.chains.listed.there t e in (w.0, w.1, (λ d i. h.chains.apart t d w.0 i w.1))),
    (λ w. h.chains.listed.two t (w.0, w.1)),
  )

  -- who waits is a task of the rig
  pub waits_known : (t : ℕ) (c : Chain) → In t (s.chains c) → (1 ≤ t) × (t ≤ r.tasks)
  waits_known t c i = h.tasks.within t (λ q. omega (arith, q, h.chains.listed.two t (c, i)))

  -- the running task is none or a task of the rig
  pub running_known : s.running ≤ r.tasks
  running_known = go (dec_eq s.running 0)
    where
      go : Dec (s.running ≡ 0) → s.running ≤ r.tasks
      go (yes e) = omega arith
      go (no n) = (h.tasks.within s.running (λ q. omega (arith, q, h.runs.up n))).1

  -- places past the rig's counts are 0
  zero_else : (n i : ℕ) (P : ℕ → Type 0) → (n ≢ 0 → P i) → (P i → ⊥) → n ≡ 0
  zero_else zero i P f g = refl
  zero_else (suc n) i P f g = absurd (g (f (λ q. omega arith)))

  pub no_task_zero : (t : ℕ) → r.tasks < t → (state_of s t ≡ 0) × (wake_of s t ≡ 0)
  no_task_zero t l = (
    zero_else (state_of s t) t (λ u. (1 ≤ u) × (u ≤ r.tasks)) (h.tasks.within t) (λ p. omega (arith, p.1)),
    zero_else (wake_of s t) t (λ u. (1 ≤ u) × (u ≤ r.tasks)) (h.wakes.within t) (λ p. omega (arith, p.1)),
  )

  pub no_flag_zero : (f : ℕ) → r.flags < f → value_of s f ≡ 0
  no_flag_zero f l = zero_else (value_of s f) f (λ u. (1 ≤ u) × (u ≤ r.flags)) (h.flags.within f) (λ p. omega (arith, p.1))

  pub no_condition_zero : (i : ℕ) → 16 * suc r.tasks ≤ i → get_or s.conds i 0 ≡ 0
  no_condition_zero i l =
      zero_else (get_or s.conds i 0) i (λ j. (16 ≤ j) × (j < 16 * suc r.tasks))
      (λ n. ok.present_task i (h.conds.within i n)) (λ p. omega (arith, p.1))

-- ---- all of it

pub record Demand (r : Rig) (s : State) : Type 0 where
  pub flags : (t : ℕ) → r.activation t ≢ 0 → (value_of s (r.activation t) ≡ on) ↔ ((state_of s t ≡ waiting) ⊎ (state_of s t ≡ dispatchable))
  pub listed : (t : ℕ) → (state_of s t ≡ waiting) ↔ ((c : Chain) × In t (s.chains c) × ((d : Chain) → In t (s.chains d) → d ≡ c))
  pub once : (c : Chain) → Distinct (s.chains c)
  pub ordered : Sorted (λ (t : ℕ). wake_of s t) (s.chains time_chain)
  pub ahead : (t : ℕ) → In t (s.chains time_chain) → s.count < wake_of s t
  pub served : (k : Call) → (step r s k).answer.report.served ≤ 79

pub sound_demand : (r : Rig) → RigOk r → (s : State) → Sound r s → Demand r s
sound_demand r ok s h =
    record {
      flags = flag_on r ok s h;
      listed = waits_in_one r ok s h;
      once = h.chains.once;
      ordered = h.chains.ordered;
      ahead = h.chains.ahead;
      served = served_79 r s h.tasks.sized;
    }

pub demand : (r : Rig) → RigOk r → (ks : List Call) → ProperRun ks → Demand r (run r (start r) ks)
demand r ok ks p = sound_demand r ok (run r (start r) ks) (always r ok ks p)

pub start_79 : (r : Rig) → (started r).served ≤ 79
start_79 r = le_trans (start_served r) (omega arith)
