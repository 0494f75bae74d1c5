-- WAKING, of the rules: a task that waits for a count, and is not terminated or cancelled before, itself or through an
-- ancestor, is dispatchable after the tick that makes the count, and from the wait on at no lower count.
use Rattle.std.specs.Prelude.{◌≡◌, refl, ◌⊎◌, ◌↔◌, List, [], ◌∷◌, ℕ, suc, ◌≤◌, ◌<◌, length}
use Rattle.std.proofs.Common.{sym, ap, subst, inl, inr}
use Rattle.rules.specs.Rig.{Rig}
use Rattle.rules.specs.Sizes.{tick_words}
use Rattle.rules.specs.State.{State, state_of, waiting, dispatchable}
use Rattle.rules.specs.Family.{Under}
use Rattle.rules.specs.Calls.{Call, schedule, cancel, terminate, finish, tick, wait_until, wait_for, latched, unlatched, signal, read_flag, read_block, write_block, next_waking, read_overruns, why_not, refusal, step, run}
use Rattle.rules.specs.Waking.{Struck}

-- "terminated or cancelled": by an accepted call, itself or through an ancestor, and by no other call
pub struck_is : (r : Rig) (s : State) (k : Call) (t : ℕ)
    → Struck r s k t ↔ ((refusal r s k ≡ 0) × ((k ≡ terminate t) ⊎ ((u : ℕ) × (k ≡ cancel u) × Under r.controller u t)))
struck_is r s k t = (there k, (λ p. back k p.0 p.1))
  where
    there : (k : Call) → Struck r s k t → (refusal r s k ≡ 0) × ((k ≡ terminate t) ⊎ ((u : ℕ) × (k ≡ cancel u) × Under r.controller u t))
    there (schedule u) h = absurd h
    there (cancel u) h = (h.0, inr (u, refl, h.1))
    there (terminate u) h = (h.0, inl (ap terminate (sym h.1)))
    there finish h = absurd h
    there (tick buffer) h = absurd h
    there (wait_until c) h = absurd h
    there (wait_for n) h = absurd h
    there (latched f v) h = absurd h
    there (unlatched f v) h = absurd h
    there (signal f v) h = absurd h
    there (read_flag f) h = absurd h
    there (read_block n area buffer) h = absurd h
    there (write_block n area buffer) h = absurd h
    there next_waking h = absurd h
    there (read_overruns t) h = absurd h
    there (why_not t d) h = absurd h

    back : (k : Call) → refusal r s k ≡ 0 → (k ≡ terminate t) ⊎ ((u : ℕ) × (k ≡ cancel u) × Under r.controller u t) → Struck r s k t
    back k e (inl q) = subst (λ (c : Call). Struck r s c t) (sym q) (subst (λ (c : Call). refusal r s c ≡ 0) q e, refl)
    back k e (inr p) = subst (λ (c : Call). Struck r s c t) (sym p.1) (subst (λ (c : Call). refusal r s c ≡ 0) p.1 e, p.2)

-- no call of the run terminates task t, or cancels it
unfoldable pub Spared : Rig → State → List Call → ℕ → Type 0
Spared r s [] t = Unit {0}
Spared r s (k ∷ ks) t = (Struck r s k t → ⊥) × Spared r (step r s k).next ks t

-- Task t waits for the count c. After the calls ks made from s on:
pub record WakesByRules (r : Rig) (t c : ℕ) (s : State) (ks : List Call) : Type 0 where
  -- at a lower count it is waiting, so not dispatchable
  pub waits : (run r s ks).count < c → state_of (run r s ks) t ≡ waiting
  -- the next tick, if it makes the count c, is accepted and leaves it dispatchable
  pub wakes :
      (buffer : List ℕ) → tick_words ≤ length buffer → suc (run r s ks).count ≡ c →
      ((step r (run r s ks) (tick buffer)).answer.code ≡ 0)
      × ((step r (run r s ks) (tick buffer)).next.count ≡ c)
      × (state_of (step r (run r s ks) (tick buffer)).next t ≡ dispatchable)
