-- No call, tick or start serves more than 79 flags: what is queued and what is inactive is never more.
use Rattle.std.specs.Prelude.{◌≡◌, refl, Bool, true, false, cond, ◌&&◌, eqb, leb, length, get_or, set, replicate}
use Rattle.std.proofs.Common.{ap, ◌∙◌, arith, add-one, le_refl, length-set, get_or-set_other}
use mathlib.Core.List.{List, []}
use Prim.Native.Nat.{ℕ, zero, suc, ◌+◌, ◌%◌, ◌≤◌, ◌<◌, zero-le}
use Rattle.std.proofs.Math.Nat.{le_trans}
use Rattle.laws.specs.Iter.{iter}
use Rattle.laws.specs.Laws.Iter.{iter_ind}
use Rattle.laws.specs.Tables.{total, over}
use Rattle.laws.specs.Laws.Tables.{over_set, over_store, over_length, over_le, in_range}
use Rattle.laws.specs.Members.{keep}
use Rattle.rules.specs.Rig.{Rig}
use Rattle.rules.specs.State.{time_chain, State, Work, Done, Entry, active, value_of, blank}
use Rattle.rules.specs.Serving.{push, is_inactive, inactives, activate, serve}
use Rattle.rules.specs.Waiting.{wait_on, wait_until_count, wake_due, is_due}
use Rattle.rules.specs.Family.{family, is_marked, clear_one, cleared, off_one, offs}
use Rattle.rules.specs.Calls.{Call, schedule, cancel, terminate, finish, tick, wait_until, wait_for, latched, unlatched, signal, read_flag, read_block, write_block, next_waking, read_overruns, why_not}
use Rattle.rules.specs.Calls.{as_scheduled, scheduled, finished, terminated, cancelled, ticked, queue_one, cycle_queue, quiet, effect, refusal, accepted, after, step, started}
use Rattle.rules_laws.specs.Serve.{load, push_length, served_le, serve_nil}
use Rattle.rules_laws.specs.Testing.{tested_cases, settled_le}
use Rattle.rules_laws.specs.Lengths.{rouse_length}

-- ---- cancel: what it queues it takes from the invoked

invoked : ℕ → ℕ
invoked zero = 0
invoked (suc n) = 1

-- a task that is not yet reached is as it was
cleared_later : (marks l : List ℕ) (k u : ℕ) → k < u → get_or (iter k (clear_one marks) l) u 0 ≡ get_or l u 0
unfolding iter
cleared_later marks l zero u h = refl
cleared_later marks l (suc k) u h = rw add-one (go (is_marked marks (suc k)) (cleared_later marks l k u (omega arith)))
  where
    m : List ℕ
    m = iter k (clear_one marks) l

    go : (b : Bool) → get_or m u 0 ≡ get_or l u 0 → get_or (cond b (set m (suc k) 0) m) u 0 ≡ get_or l u 0
    go true ih = get_or-set_other m (suc k) u 0 0 (λ q. omega arith) ∙ ih
    go false ih = ih

weight : (activation : ℕ → ℕ) (marks l : List ℕ) (k : ℕ)
    → length (iter k (off_one activation marks l) []) + over invoked (iter k (clear_one marks) l) ≤ over invoked l
unfolding iter invoked
weight activation marks l zero = omega arith
weight activation marks l (suc k) =
    rw add-one (go (is_marked marks (suc k)) (get_or l (suc k) 0) refl (weight activation marks l k))
  where
    m : List ℕ
    m = iter k (clear_one marks) l

    q : List Entry
    q = iter k (off_one activation marks l) []

    go : (b : Bool) (n : ℕ) → get_or l (suc k) 0 ≡ n → length q + over invoked m ≤ over invoked l
        → length (cond (b && eqb (active n) 1) (push (activation (suc k)) 0 q) q) + over invoked (cond b (set m (suc k) 0) m) ≤ over invoked l
    go false n e ih = ih
    go true zero e ih = omega (arith, over_store invoked m (suc k) 0 refl)
    go true (suc zero) e ih = omega (arith, over_store invoked m (suc k) 0 refl)
    go true (suc (suc n)) e ih =
        let y : get_or m (suc k) 0 ≡ suc (suc n) = cleared_later marks l k (suc k) (omega arith) ∙ e in
        omega (
          arith,
          push_length (activation (suc k)) 0 q,
          ap invoked y,
          over_set invoked m k 0 (in_range m (suc k) (suc n) y),
        )

pub inactive_le : (x : ℕ) → is_inactive x ≤ 1
inactive_le zero = zero-le
inactive_le (suc zero) = le_refl _
inactive_le (suc (suc n)) = zero-le

invoked_le : (x : ℕ) → invoked x ≤ 1
unfolding invoked
invoked_le zero = zero-le
invoked_le (suc n) = le_refl _

inactive_invoked : (x : ℕ) → is_inactive x ≤ invoked x
unfolding invoked
inactive_invoked zero = zero-le
inactive_invoked (suc zero) = le_refl _
inactive_invoked (suc (suc n)) = zero-le

pub cancelled_load : (r : Rig) (s : State) (t : ℕ) → length s.states ≡ 65 → load (cancelled r s t) ≤ 64
unfolding cancelled offs cleared
cancelled_load r s t z =
    omega (
      arith,
      weight r.activation (family r.controller t) s.states 64,
      over_le is_inactive invoked inactive_invoked (iter 64 (clear_one (family r.controller t)) s.states),
      over_length invoked invoked_le s.states 64 z,
    )

-- ---- tick: at most 15 flags of a cycle

pub cycle_length : (flags : ℕ → ℕ) → length (cycle_queue flags) ≤ 15
unfolding cycle_queue
cycle_length flags =
    iter_ind (λ i q. length q ≤ i) (queue_one flags) [] (le_refl _)
    (λ i q h. omega (arith, push_length (flags i) 1 q)) 15

-- ---- each call

-- at most 15 queued, and no more than 64 tasks
light : (w : Work) → length w.queue ≤ 15 → length w.now.states ≡ 65 → load w ≤ 79
light w h e = omega (arith, over_length is_inactive inactive_le w.now.states 64 e)

module _ (r : Rig) (s : State) (z : length s.states ≡ 65) where
  quiet_load : (b : Bool) (x : State) → length x.states ≡ 65 → load (quiet (cond b s x)) ≤ 79
  quiet_load true x e = light (quiet s) zero-le z
  quiet_load false x e = light (quiet x) zero-le e

  stored : (t v : ℕ) → length (set s.states t v) ≡ 65
  stored t v = length-set s.states t v ∙ z

  pub scheduled_load : (t : ℕ) → load (scheduled r s t) ≤ 79
  unfolding scheduled activate
  scheduled_load t =
      tested_cases r t w.now (λ x. load x ≤ 79)
      (λ e m. light (activate r t w) (omega (arith, push_length (r.activation t) 1 [])) (length-set (set s.states t 1) t 3 ∙ stored t 1))
      (λ n. light w zero-le (stored t 1))
    where
      w : Work
      w = quiet (as_scheduled r s t)

  pub effect_load : (k : Call) → load (effect r s k) ≤ 79
  unfolding effect terminated finished ticked wake_due wait_on wait_until_count
  effect_load (schedule t) = scheduled_load t
  effect_load (cancel t) = omega (arith, cancelled_load r s t z)
  effect_load (terminate t) = light (terminated r s t) (omega (arith, push_length (r.activation t) 0 [])) (stored t 1)
  effect_load finish = light (finished r s) (omega (arith, push_length (r.activation s.running) 0 [])) (stored s.running 1)
  effect_load (tick buffer) =
      light (ticked r s) (cycle_length (r.minor (suc s.count % 64)))
      (rouse_length (keep (is_due s.wakes (suc s.count)) (s.chains time_chain)) s.states ∙ z)
  effect_load (wait_until k) = quiet_load (leb k s.count) (wait_until_count s k) (stored s.running 2)
  effect_load (wait_for n) = quiet_load (leb (s.count + n) s.count) (wait_until_count s (s.count + n)) (stored s.running 2)
  effect_load (latched f v) = quiet_load (eqb (value_of s f) v) (wait_on s f v) (stored s.running 2)
  effect_load (unlatched f v) = light (quiet (wait_on s f v)) zero-le (stored s.running 2)
  effect_load (signal f v) = light (record { now = s; queue = push f v [] }) (omega (arith, push_length f v [])) z
  effect_load (read_flag f) = light (quiet s) zero-le z
  effect_load (read_block k area buffer) = light (quiet s) zero-le z
  effect_load (write_block k area buffer) = light (quiet s) zero-le z
  effect_load next_waking = light (quiet s) zero-le z
  effect_load (read_overruns t) = light (quiet s) zero-le z
  effect_load (why_not t d) = light (quiet s) zero-le z

  -- THE BOUND: "Each call answers with the number of flags it served, which is at most 79."
  pub served_79 : (k : Call) → (step r s k).answer.report.served ≤ 79
  unfolding step after accepted
  served_79 k = go (refusal r s k)
    where
      go : (n : ℕ) → (after n r s k).answer.report.served ≤ 79
      go zero = le_trans (settled_le r s k) (effect_load k)
      go (suc n) = zero-le

none_left : inactives (set (set (replicate 65 0) 1 1) 1 3) ≡ 0
unfolding over total
none_left = refl

-- the start serves one flag at most: task 1's own
pub start_served : (r : Rig) → (started r).served ≤ 1
unfolding started scheduled activate blank
start_served r =
    tested_cases r 1 x (λ w. (serve r w).served ≤ 1)
    (λ e m. le_trans (served_le r (activate r 1 (quiet x))) (omega (arith, push_length (r.activation 1) 1 [], none_left)))
    (λ n. omega (arith, ap (λ (d : Done). d.served) (serve_nil r x)))
  where
    x : State
    x = as_scheduled r blank 1
