-- TICKS: which calls are ticks, and that only they change the count.
use Rattle.std.specs.Prelude.{◌≡◌, Bool, true, false, cond, List, ℕ, suc, ◌+◌, eqb, leb}
use Rattle.std.proofs.Math.Path.{refl}
use Rattle.std.proofs.lemmas.Bool.{false≢true}
use Rattle.rules.specs.Rig.{Rig}
use Rattle.rules.specs.State.{State, value_of}
use Rattle.rules.specs.Serving.{activate}
use Rattle.rules.specs.Waiting.{wait_on, wait_until_count, wake_due}
use Rattle.rules.specs.Calls.{Call, schedule, cancel, terminate, finish, tick, wait_until, wait_for, latched, unlatched, signal, read_flag, read_block, write_block, next_waking, read_overruns, why_not}
use Rattle.rules.specs.Calls.{is_tick, scheduled, finished, terminated, cancelled, ticked, effect}
use Rattle.rules_laws.specs.Testing.{tested_keeps}

pub is_tick_lem : (k : Call) → is_tick k ≡ true → (buffer : List ℕ) × (k ≡ tick buffer)
unfolding is_tick
is_tick_lem (schedule t) e = absurd (false≢true e)
is_tick_lem (cancel t) e = absurd (false≢true e)
is_tick_lem (terminate t) e = absurd (false≢true e)
is_tick_lem finish e = absurd (false≢true e)
is_tick_lem (tick buffer) e = (buffer, refl)
is_tick_lem (wait_until t) e = absurd (false≢true e)
is_tick_lem (wait_for n) e = absurd (false≢true e)
is_tick_lem (latched f v) e = absurd (false≢true e)
is_tick_lem (unlatched f v) e = absurd (false≢true e)
is_tick_lem (signal f v) e = absurd (false≢true e)
is_tick_lem (read_flag f) e = absurd (false≢true e)
is_tick_lem (read_block k area buffer) e = absurd (false≢true e)
is_tick_lem (write_block k area buffer) e = absurd (false≢true e)
is_tick_lem next_waking e = absurd (false≢true e)
is_tick_lem (read_overruns t) e = absurd (false≢true e)
is_tick_lem (why_not t d) e = absurd (false≢true e)

module _ (r : Rig) (s : State) where
  one_of : (b : Bool) (x : State) → x.count ≡ s.count → (cond b s x).count ≡ s.count
  one_of true x e = refl
  one_of false x e = e

  -- before anything is served
  pub effect_count : (k : Call) → (effect r s k).now.count ≡ cond (is_tick k) (suc s.count) s.count
  unfolding effect scheduled finished terminated cancelled ticked wake_due wait_on wait_until_count activate is_tick
  effect_count (schedule t) = tested_keeps r (λ x. x.count ≡ s.count) (λ u w a k. k) t _ refl
  effect_count (cancel t) = refl
  effect_count (terminate t) = refl
  effect_count finish = refl
  effect_count (tick buffer) = refl
  effect_count (wait_until k) = one_of (leb k s.count) (wait_until_count s k) refl
  effect_count (wait_for n) = one_of (leb (s.count + n) s.count) (wait_until_count s (s.count + n)) refl
  effect_count (latched f v) = one_of (eqb (value_of s f) v) (wait_on s f v) refl
  effect_count (unlatched f v) = refl
  effect_count (signal f v) = refl
  effect_count (read_flag f) = refl
  effect_count (read_block k area buffer) = refl
  effect_count (write_block k area buffer) = refl
  effect_count next_waking = refl
  effect_count (read_overruns t) = refl
  effect_count (why_not t d) = refl
