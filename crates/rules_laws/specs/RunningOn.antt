-- "After each accepted call: the running task goes on if it stayed dispatchable throughout and none has higher rank; else
-- the highest rank, lowest number first; else none."
use Rattle.std.specs.Prelude.{◌≡◌, refl, ◌≢◌, ◌⊎◌, Bool, cond, ℕ, suc, ◌+◌, ◌≤◌, ◌<◌, eqb, leb}
use Rattle.std.proofs.Math.Path.{sym, ap}
use Rattle.std.proofs.Common.{◌∙◌, subst, arith, le_refl, get_or-set_same}
use Rattle.std.proofs.Math.Logic.{inl, inr}
use Rattle.std.proofs.Math.Bool.{true, false}
use borrow.Author.Tests.{eqb-true, not-false}
use Rattle.std.proofs.Math.ListN.{length}
use Rattle.std.proofs.Math.Seq.{get_or-set_other}
use Rattle.laws.specs.Cases.{by, dec_eq}
use Rattle.laws.specs.Laws.Tables.{keeps, in_range}
use Rattle.laws.specs.Members.{keep}
use Rattle.rules.specs.Rig.{Rig}
use Rattle.rules.specs.RigOk.{RigOk}
use Rattle.rules.specs.State.{time_chain, chain_of, State, Work, state_of, value_of}
use Rattle.rules.specs.Serving.{activate, takes, wake, serve}
use Rattle.rules.specs.Waiting.{wait_on, wait_until_count, wake_due, is_due}
use Rattle.rules.specs.Family.{Under, itself, below, family, is_marked}
use Rattle.rules.specs.Running.{rank, chosen, dispatch}
use Rattle.rules.specs.Calls.{Call, schedule, cancel, terminate, finish, tick, wait_until, wait_for, latched, unlatched, signal, read_flag, read_block, write_block, next_waking, read_overruns, why_not}
use Rattle.rules.specs.Calls.{scheduled, finished, terminated, cancelled, ticked, effect, refusals, refusal, is_invoked, is_uninvoked, not_active, ended, again, settled, accepted, Step, step}
use Rattle.rules.specs.Proper.{Proper}
use Rattle.rules.specs.Soundness.{Sound}
use Rattle.rules_laws.specs.Rousing.{rouse_three}
use Rattle.rules_laws.specs.Ranks.{stays_on, lowest_first}
use Rattle.rules_laws.specs.Acceptance.{named_is}
use Rattle.rules_laws.specs.Refusals.{accepted_is}
use Rattle.rules_laws.specs.FamilyLaws.{family_is}
use Rattle.rules_laws.specs.Leaving.{cleared_miss}
use Rattle.rules_laws.specs.Good.{settle_keeps, settle_running, settle_good}
use Rattle.rules_laws.specs.Testing.{tested_keeps}
use Rattle.rules_laws.specs.Steps.{effect_ready}

-- a descendant has no lower number
pub under_le : (r : Rig) → RigOk r → (t u : ℕ) → Under r.controller t u → t ≤ u
under_le r ok t _ itself = le_refl _
under_le r ok t _ (below u h) = go (dec_eq u 0) (under_le r ok t (r.controller u) h)
  where
    go : Dec (u ≡ 0) → t ≤ r.controller u → t ≤ u
    go (yes e) l = omega (arith, ap r.controller e, ok.controller_none)
    go (no e) l = omega (arith, ok.controller_low u e)

-- nobody cancels itself: a controller is not of the family of the one it controls
pub caller_unmarked : (r : Rig) → RigOk r → (t : ℕ) → 1 ≤ t → t ≤ 64 → r.controller t ≢ 0 → is_marked (family r.controller t) (r.controller t) ≡ false
caller_unmarked r ok t a b n =
    let low : r.controller t < t = ok.controller_low t (λ q. omega arith) in
    by (is_marked (family r.controller t) (r.controller t))
    (λ e. absurd (omega (
      arith,
      under_le r ok t (r.controller t)
          ((family_is r ok t a b (r.controller t) (omega arith) (omega arith)).0 (eqb-true _ 1 e)),
    )))
    (λ e. e)

-- what was dispatchable is so after a serving, and after the test of task u
pub settle_three : (r : Rig) (u : ℕ) (w : Work) (t : ℕ) → state_of w.now t ≡ 3 → state_of (again r u (serve r w)).now t ≡ 3
unfolding takes wake activate
settle_three r u w t h =
    settle_keeps r (λ s. state_of s t ≡ 3) (λ e s k. k) (λ f v s k. rouse_three t (s.chains (chain_of f v)) s.states k)
    (λ v x g k. keeps x.now.states v t 3 k) u w h

-- who was running is running still and dispatchable when the queue is served, or is no longer the running task
abbrev pub Stays : State → State → Type 0
Stays s x = (x.running ≡ s.running) × (state_of x s.running ≡ 3)

-- a call takes the processor from its caller by a finish, or by a wait that begins
abbrev pub GivesUp : State → Call → State → Type 0
GivesUp s k x = (x.running ≡ 0) × ((k ≡ finish) ⊎ (state_of x s.running ≡ 2))

module _ (r : Rig) (ok : RigOk r) (s : State) (h : Sound r s) (n : s.running ≢ 0) where
  up : state_of s s.running ≡ 3
  up = h.runs.up n

  here : s.running < length s.states
  here = in_range s.states s.running 2 up

  until_stays : (k : Call) (b : Bool) (c : ℕ) → Stays s (cond b s (wait_until_count s c)) ⊎ GivesUp s k (cond b s (wait_until_count s c))
  unfolding wait_until_count
  until_stays k true c = inl (refl, up)
  until_stays k false c = inr (refl, inr (get_or-set_same s.states s.running 2 0 here))

  on_stays : (k : Call) (b : Bool) (f v : ℕ) → Stays s (cond b s (wait_on s f v)) ⊎ GivesUp s k (cond b s (wait_on s f v))
  unfolding wait_on
  on_stays k true f v = inl (refl, up)
  on_stays k false f v = inr (refl, inr (get_or-set_same s.states s.running 2 0 here))

  scheduled_stays : (t : ℕ) → t ≢ s.running → Stays s (scheduled r s t).now
  unfolding scheduled activate
  scheduled_stays t d =
      tested_keeps r (Stays s) (λ u w e k. (k.0, keeps w.now.states u s.running 3 k.1)) t _
      (refl, get_or-set_other s.states t s.running 1 0 (λ q. d (sym q)) ∙ up)

  pub effect_stays : (k : Call) → refusal r s k ≡ 0 → Stays s (effect r s k).now ⊎ GivesUp s k (effect r s k).now
  unfolding effect refusal refusals finished terminated cancelled ticked wake_due
  effect_stays (schedule t) e =
      let m = named_is r s t (is_invoked s t) e in
      let z : state_of s t ≡ 0 = eqb-true (state_of s t) 0 (not-false (eqb (state_of s t) 0) m.right) in
      inl (scheduled_stays t (λ q. omega (arith, z, up, ap (state_of s) q)))
  effect_stays (cancel t) e =
      let m = named_is r s t (is_uninvoked s t) e in
      let c = caller_unmarked r ok t m.task.0 (omega (arith, m.task.1, ok.tasks_le)) (λ q. n (sym m.control ∙ q)) in
      inl (refl, cleared_miss (family r.controller t) s.states s.running (subst (λ (u : ℕ). is_marked (family r.controller t) u ≡ false) m.control c) ∙ up)
  effect_stays (terminate t) e =
      let m = named_is r s t (not_active s t) e in
      inl (refl, get_or-set_other s.states t s.running 1 0 (λ q. omega (arith, m.control, ok.controller_low t (λ z. omega (arith, m.task.0)))) ∙ up)
  effect_stays finish e = inr (refl, inl refl)
  effect_stays (tick buffer) e =
      inl (refl, rouse_three s.running (keep (is_due s.wakes (suc s.count)) (s.chains time_chain)) s.states up)
  effect_stays (wait_until t) e = until_stays (wait_until t) (leb t s.count) t
  effect_stays (wait_for m) e = until_stays (wait_for m) (leb (s.count + m) s.count) (s.count + m)
  effect_stays (latched f v) e = on_stays (latched f v) (eqb (value_of s f) v) f v
  effect_stays (unlatched f v) e = on_stays (unlatched f v) false f v
  effect_stays (signal f v) e = inl (refl, up)
  effect_stays (read_flag f) e = inl (refl, up)
  effect_stays (read_block k area buffer) e = inl (refl, up)
  effect_stays (write_block k area buffer) e = inl (refl, up)
  effect_stays next_waking e = inl (refl, up)
  effect_stays (read_overruns t) e = inl (refl, up)
  effect_stays (why_not t d) e = inl (refl, up)

-- ---- after an accepted call

module _ (r : Rig) (ok : RigOk r) (s : State) (h : Sound r s) (k : Call) (p : Proper k) (e : refusal r s k ≡ 0) where
  -- who did not give up is dispatchable after the call
  pub stays_dispatchable : s.running ≢ 0 → (effect r s k).now.running ≢ 0 → state_of (step r s k).next s.running ≡ 3
  unfolding accepted settled dispatch
  stays_dispatchable n m =
      ap (λ (x : Step). state_of x.next s.running) (accepted_is r s k e)
      ∙ settle_three r (ended s k) (effect r s k) s.running (go (effect_stays r ok s h n k e))
    where
      go : Stays s (effect r s k).now ⊎ GivesUp s k (effect r s k).now → state_of (effect r s k).now s.running ≡ 3
      go (inl y) = y.1
      go (inr y) = absurd (m y.0)

  -- the running task after the call is chosen from the states after it
  next_running : (step r s k).next.running ≡ chosen r.privileged r.priority (step r s k).next.states (effect r s k).now.running
  unfolding accepted settled dispatch
  next_running =
      ap (λ (x : Step). x.next.running) (accepted_is r s k e)
      ∙ ap (λ (m : ℕ). chosen r.privileged r.priority (settled r s k).now.states m) (settle_running r (effect r s k) (ended s k))
      ∙ sym (ap (λ (x : Step). chosen r.privileged r.priority x.next.states (effect r s k).now.running) (accepted_is r s k e))

  next_sized : length (step r s k).next.states ≡ 65
  unfolding accepted settled dispatch
  next_sized =
      ap (λ (x : Step). length x.next.states) (accepted_is r s k e)
      ∙ (settle_good r ok (ended s k) (effect r s k) (effect_ready r ok s h k p e)).tasks.sized

  -- WHO STAYS RUNS ON: the call did not finish its caller or put it to wait, and nobody dispatchable has higher rank
  pub runs_on : s.running ≢ 0 → (effect r s k).now.running ≢ 0
      → ((t : ℕ) → t ≢ 0 → state_of (step r s k).next t ≡ 3 → rank r.privileged r.priority t ≤ rank r.privileged r.priority s.running)
      → (step r s k).next.running ≡ s.running
  runs_on n m top =
      next_running
      ∙ ap (λ (u : ℕ). chosen r.privileged r.priority (step r s k).next.states u) (same (effect_stays r ok s h n k e))
      ∙ stays_on r.privileged r.priority (step r s k).next.states next_sized s.running n (stays_dispatchable n m) top
    where
      same : Stays s (effect r s k).now ⊎ GivesUp s k (effect r s k).now → (effect r s k).now.running ≡ s.running
      same (inl y) = y.0
      same (inr y) = absurd (m y.0)

  -- "else the highest rank, lowest number first": who begins to run ranks above every dispatchable task of a lower number
  pub lowest_number_first : (t : ℕ) → (step r s k).next.running ≢ (effect r s k).now.running → t ≢ 0 → t < (step r s k).next.running
      → state_of (step r s k).next t ≡ 3
      → rank r.privileged r.priority t < rank r.privileged r.priority (step r s k).next.running
  lowest_number_first t d a b c =
      subst (λ (m : ℕ). rank r.privileged r.priority t < rank r.privileged r.priority m) (sym next_running)
      (lowest_first r.privileged r.priority (step r s k).next.states (effect r s k).now.running t
      (λ q. d (next_running ∙ q)) a (subst (λ (m : ℕ). t < m) next_running b) c)

-- L3: "A task that finishes has not stayed dispatchable, even if it is active again": after a finish who runs is chosen as if nobody had run
pub finish_anew : (r : Rig) → RigOk r → (s : State) → Sound r s → refusal r s finish ≡ 0
    → (step r s finish).next.running ≡ chosen r.privileged r.priority (step r s finish).next.states 0
unfolding effect finished
finish_anew r ok s h e = next_running r ok s h finish tt e
