-- "A condition is tested for activation on schedule and on service of one of its flags.": NO OTHER RULE ACTIVATES.
-- Over any call, a task that was not active before it and is after it was activated by its own schedule, or by the service of
-- a flag in one of its conditions; and then all its conditions were as desired. L3's test is for a task that was active and that the call ended:
-- such a task is active again by a service of one of its flags, or by the test (`settle_activates`).
use Rattle.std.specs.Prelude.{◌≡◌, ◌≢◌, ◌⊎◌, Bool, cond, eqb, leb, length, get_or, set}
use Rattle.std.proofs.Math.Path.{refl, sym, ap}
use Rattle.std.proofs.Common.{◌∙◌, subst, inr, ⊎_elim, arith, le_refl, eqb-true, get_or-set_other}
use Rattle.std.proofs.Math.Logic.{inl}
use Rattle.std.proofs.Math.Bool.{true, false}
use mathlib.Core.List.{List, [], ◌∷◌}
use Prim.Native.Nat.{ℕ, zero, suc, ◌+◌, ◌≤◌, ◌<◌}
use Rattle.std.proofs.lemmas.Bool.{eqb-false}
use Rattle.laws.specs.Cases.{dec_eq, and_true}
use Rattle.laws.specs.Laws.Tables.{same_under, keeps_under}
use Rattle.laws.specs.Members.{keep}
use Rattle.laws.specs.Laws.Members.{in_keep}
use Rattle.laws.specs.Laws.Stores.{stores_keep}
use Rattle.rules.specs.Rig.{Rig, place_of}
use Rattle.rules.specs.RigOk.{RigOk}
use Rattle.rules.specs.State.{State, Work, Entry, state_of, value_of, active, inactive, chain_of, time_chain, with_count}
use Rattle.rules.specs.Conditions.{relax, met, names}
use Rattle.rules.specs.Serving.{activate, takes, wake, ready, serve_flag, serving, serve, inactives}
use Rattle.rules.specs.Waiting.{wait_on, wait_until_count, is_due, wake_due}
use Rattle.rules.specs.Family.{family, is_marked, cleared}
use Rattle.rules.specs.Running.{dispatch}
use Rattle.rules.specs.Calls.{Call, schedule, cancel, terminate, finish, tick, wait_until, wait_for, latched, unlatched, signal, read_flag, read_block, write_block, next_waking, read_overruns, why_not}
use Rattle.rules.specs.Calls.{tested, scheduled, finished, terminated, cancelled, ticked, effect, refusal, refusals, not_active, ended, again, settled, accepted, Step, step}
use Rattle.rules.specs.Proper.{Proper}
use Rattle.rules.specs.Soundness.{Sound}
use Rattle.rules_laws.specs.ConditionLaws.{met_is, names_is}
use Rattle.rules_laws.specs.Rousing.{rouse_one, rouse_same}
use Rattle.rules_laws.specs.Offering.{called, offers_changed}
use Rattle.rules_laws.specs.Serve.{load, serve_flag_load}
use Rattle.rules_laws.specs.Good.{Good, Ready, clean_ready, serve_flag_clean, serve_good, tested_ready}
use Rattle.rules_laws.specs.Acceptance.{somebody_runs, named_is}
use Rattle.rules_laws.specs.Refusals.{accepted_is, refused_is}
use Rattle.rules_laws.specs.Steps.{effect_ready}
use Rattle.rules_laws.specs.Testing.{tested_cases}
use Rattle.rules_laws.specs.WhileServing.{Reached, begin, onward, Through, queued, afterwards}

-- ---- in the paper's words

-- "all conditions as desired", by the values conds
abbrev pub AsDesired : Rig → ℕ → List ℕ → Type 0
AsDesired r t conds = (p : ℕ) → p < 16 → r.present (place_of t p) ≡ 1 → get_or conds (place_of t p) 0 ≡ r.desired (place_of t p)

-- task t has "that flag in a condition": an A line says so
abbrev pub HasFlag : Rig → ℕ → ℕ → Type 0
HasFlag r t f = (l : ℕ) × (l < r.lines) × ((r.line_task l ≡ t) × (r.line_flag l ≡ f))

-- task t is activated by its schedule: its unlatched conditions have taken the undesired value, and still all are as desired
pub record BySchedule (r : Rig) (s : State) (k : Call) (t : ℕ) : Type 0 where
  pub call : k ≡ schedule t
  pub desired : AsDesired r t (relax r.present r.latched r.desired t s.conds)

-- it is activated on the way, which comes through what C says: a flag of one of its conditions is served, and with what the
-- conditions then take it is inactive with all of them as desired
pub record ByService (r : Rig) (C : Work → Type 0) (t : ℕ) : Type 0 where
  pub before : State
  pub entry : Entry
  pub behind : List Entry
  pub reached : C (record { now = before; queue = entry ∷ behind })
  pub was : state_of before t ≡ inactive
  pub flag : HasFlag r t entry.flag
  pub desired : AsDesired r t (takes r entry before).conds

-- L3: it is the task u that the call ended, and once the queue of w is empty it is "still inactive with all conditions as desired"
pub record ByTest (r : Rig) (u : ℕ) (w : Work) (t : ℕ) : Type 0 where
  pub ended : t ≡ u
  pub some : t ≢ 0
  pub was : state_of (serve r w).now t ≡ inactive
  pub desired : AsDesired r t (serve r w).now.conds

-- ---- the tests in these words

as_desired : (r : Rig) (t : ℕ) (conds : List ℕ) → met r.present r.desired t conds ≡ true → AsDesired r t conds
as_desired r t conds e p l c =
    ⊎_elim (λ n. absurd (n c)) (λ q. q) ((met_is r.present r.latched r.desired t conds).0 e p l)

idle_busy : (n m : ℕ) → active n ≡ 0 → active m ≡ 1 → n ≡ m → ⊥
idle_busy n m a b e = omega (arith, a, b, ap active e)

busy : (n : ℕ) → active n ≢ 0 → active n ≡ 1
busy zero h = absurd (h refl)
busy (suc zero) h = absurd (h refl)
busy (suc (suc n)) h = refl

-- ---- one flag is served

module _ (r : Rig) (e : Entry) (s : State) (q : List Entry) (g : Good r s (e ∷ q)) (t : ℕ) where
  -- who is not active before the service, and is after it
  record Turned : Type 0 where
    was : state_of s t ≡ inactive
    flag : HasFlag r t e.flag
    desired : AsDesired r t (takes r e s).conds

  woken : Work
  woken = record { now = wake (chain_of e.flag e.value) (takes r e s); queue = q }

  -- those who are woken were active before
  still_idle : active (state_of woken.now t) ≡ active (state_of s t)
  unfolding woken wake takes
  still_idle =
      let c = chain_of e.flag e.value in
      rouse_same active (s.chains c) s.states (λ u i. sym (ap active (g.chains.listed.two u (c, i)))) t

  turned : called r e.flag woken t ≡ true → Turned
  unfolding woken wake takes ready
  turned c =
      let a = and_true (eqb (state_of woken.now t) 1) (ready r e.flag t woken.now) c in
      let b = and_true (names r.lines r.line_task r.line_flag t e.flag) (met r.present r.desired t (takes r e s).conds) a.1 in
      record {
        was = rouse_one t (s.chains (chain_of e.flag e.value)) s.states (eqb-true _ 1 a.0);
        flag = (names_is r.lines r.line_task r.line_flag t e.flag).0 b.0;
        desired = as_desired r t (takes r e s).conds b.1;
      }

  turn : active (state_of s t) ≡ 0 → active (state_of (serve_flag r e s q).now t) ≡ 1 → Turned
  unfolding serve_flag woken
  turn i n = turned (offers_changed r e.flag woken t (λ same. omega (arith, i, n, still_idle, ap active same)))

-- ---- the serving

module _ (r : Rig) (ok : RigOk r) (w : Work) (t : ℕ) where
  serving_activates : (k : ℕ) (s : State) (q : List Entry) → length q + inactives s.states ≤ k → Ready r (record { now = s; queue = q })
      → Reached r w (record { now = s; queue = q }) → active (state_of s t) ≡ 0 → active (state_of (serving r k s q).now t) ≡ 1 → ByService r (Reached r w) t
  unfolding serving
  serving_activates zero s q h c p i n = absurd (omega arith)
  serving_activates (suc k) s [] h c p i n = absurd (omega arith)
  serving_activates (suc k) s (e ∷ q) h c p i n =
      let l = serve_flag_load r e s q in
      let x = serve_flag_clean r ok e s q c.good c.clear in
      go (dec_eq (active (state_of (serve_flag r e s q).now t)) 0)
      (λ j. serving_activates k (serve_flag r e s q).now (serve_flag r e s q).queue (omega arith) (clean_ready r (serve_flag r e s q) x) (onward s e q p) j n)
    where
      go : Dec (active (state_of (serve_flag r e s q).now t) ≡ 0) → (active (state_of (serve_flag r e s q).now t) ≡ 0 → ByService r (Reached r w) t)
          → ByService r (Reached r w) t
      go (yes j) later = later j
      go (no j) later =
          let d = turn r e s q c.good t i (busy (state_of (serve_flag r e s q).now t) j) in
          record { before = s; entry = e; behind = q; reached = p; was = d.was; flag = d.flag; desired = d.desired }

  -- a task that a serving activates
  serve_activates : Ready r w → active (state_of w.now t) ≡ 0 → active (state_of (serve r w).now t) ≡ 1 → ByService r (Reached r w) t
  unfolding serve
  serve_activates c i n = serving_activates (load w) w.now w.queue (le_refl _) c begin i n

-- more may be said of the way
on_the_way : (r : Rig) (C D : Work → Type 0) (t : ℕ) → ((x : Work) → C x → D x) → ByService r C t → ByService r D t
on_the_way r C D t f b =
    record { before = b.before; entry = b.entry; behind = b.behind; reached = f _ b.reached; was = b.was; flag = b.flag; desired = b.desired }

-- ---- the test, and the serving after it

module _ (r : Rig) (ok : RigOk r) (u : ℕ) (w : Work) (c : Ready r w) (t : ℕ) where
  -- by a service, or by the test
  abbrev pub Called : Type 0
  Called = ByService r (Through r u w) t ⊎ ByTest r u w t

  -- the test activates nobody but the task that is tested
  tested_other : (s : State) → active (state_of s t) ≡ 0 → active (state_of (tested r u s).now t) ≡ 1
      → (t ≡ u) × (state_of s t ≡ 1) × (met r.present r.desired t s.conds ≡ true)
  unfolding activate
  tested_other s i =
      tested_cases r u s (λ x. active (state_of x.now t) ≡ 1 → (t ≡ u) × (state_of s t ≡ 1) × (met r.present r.desired t s.conds ≡ true))
      (λ e m n. go e m n (dec_eq t u)) (λ k n. absurd (omega (arith, i, n)))
    where
      go : state_of s u ≡ 1 → met r.present r.desired u s.conds ≡ true → active (get_or (set s.states u 3) t 0) ≡ 1 → Dec (t ≡ u)
          → (t ≡ u) × (state_of s t ≡ 1) × (met r.present r.desired t s.conds ≡ true)
      go e m n (yes q) = (q, ap (state_of s) q ∙ e, ap (λ (v : ℕ). met r.present r.desired v s.conds) q ∙ m)
      go e m n (no q) = absurd (omega (arith, i, n, ap active (get_or-set_other s.states u t 3 0 q)))

  after_the_first : u ≢ 0 → active (state_of (serve r w).now t) ≡ 0
      → active (state_of (serve r (tested r u (serve r w).now)).now t) ≡ 1 → Called
  after_the_first z i n = go (dec_eq (active (state_of x.now t)) 0)
    where
      x : Work
      x = tested r u (serve r w).now

      go : Dec (active (state_of x.now t) ≡ 0) → Called
      go (yes j) =
          inl (on_the_way r (Reached r x) (Through r u w) t (λ y p. afterwards y z p)
          (serve_activates r ok x t (tested_ready r ok u (serve r w).now (serve_good r ok w c)) j n))
      go (no j) =
          let a = tested_other (serve r w).now i (busy (state_of x.now t) j) in
          inr (record { ended = a.0; some = λ q. z (sym a.0 ∙ q); was = a.1; desired = as_desired r t (serve r w).now.conds a.2 })

  pub settle_activates : active (state_of w.now t) ≡ 0 → active (state_of (again r u (serve r w)).now t) ≡ 1 → Called
  unfolding again
  settle_activates i n = go u refl (dec_eq (active (state_of (serve r w).now t)) 0)
    where
      first : active (state_of (serve r w).now t) ≢ 0 → Called
      first j =
          inl (on_the_way r (Reached r w) (Through r u w) t (λ y p. queued y p) (serve_activates r ok w t c i (busy (state_of (serve r w).now t) j)))

      go : (v : ℕ) → u ≡ v → Dec (active (state_of (serve r w).now t) ≡ 0) → Called
      go v e (no j) = first j
      go zero e (yes j) = absurd (omega (arith, j, n, ap (λ (y : ℕ). active (state_of (again r y (serve r w)).now t)) e))
      go (suc v) e (yes j) =
          after_the_first (λ q. omega (arith, e, q)) j
          (subst (λ (y : ℕ). active (state_of (serve r (tested r y (serve r w).now)).now t) ≡ 1) (sym e)
          (subst (λ (y : ℕ). active (state_of (again r y (serve r w)).now t) ≡ 1) e n))

-- ---- what a call does before its queue is served

module _ (r : Rig) (s : State) (h : Sound r s) (t : ℕ) (i : active (state_of s t) ≡ 0) where
  -- t is not active in x
  abbrev Idle : State → Type 0
  Idle x = active (state_of x t) ≡ 0

  -- the running task was active before it waits
  wait_idle : s.running ≢ 0 → active (get_or (set s.states s.running 2) t 0) ≡ 0
  wait_idle n = same_under active s.states s.running t 2 (sym (ap active (h.runs.up n))) ∙ i

  until_idle : (b : Bool) (c : ℕ) → s.running ≢ 0 → Idle (cond b s (wait_until_count s c))
  unfolding wait_until_count
  until_idle true c n = i
  until_idle false c n = wait_idle n

  on_idle : (b : Bool) (f v : ℕ) → s.running ≢ 0 → Idle (cond b s (wait_on s f v))
  unfolding wait_on
  on_idle true f v n = i
  on_idle false f v n = wait_idle n

  -- who is due was waiting
  due_idle : (n : ℕ) → Idle (wake_due (with_count s n))
  unfolding wake_due
  due_idle n =
      rouse_same active (keep (is_due s.wakes n) (s.chains time_chain)) s.states
      (λ u m. sym (ap active (h.chains.listed.two u (time_chain, in_keep (is_due s.wakes n) u (s.chains time_chain) m)))) t
      ∙ i

  cleared_idle : (marks : List ℕ) → active (get_or (cleared marks s.states) t 0) ≡ 0
  unfolding cleared
  cleared_idle marks =
      stores_keep (λ i. is_marked marks (i + 1)) (λ i. i + 1) (λ i. 0) (λ m. active (get_or m t 0) ≡ 0) 64
      (λ j m a e g. keeps_under active 0 m (j + 1) t 0 refl g) s.states i

  -- the task that is scheduled, if all its conditions are as desired, and no other
  scheduled_idle : (u : ℕ) → Idle (scheduled r s u).now ⊎ BySchedule r s (schedule u) t
  unfolding scheduled activate
  scheduled_idle u =
      tested_cases r u _ (λ x. Idle x.now ⊎ BySchedule r s (schedule u) t) (λ e m. go m (dec_eq t u)) (λ n. inl one)
    where
      conds : List ℕ
      conds = relax r.present r.latched r.desired u s.conds

      one : active (get_or (set s.states u 1) t 0) ≡ 0
      one = keeps_under active 0 s.states u t 1 refl i

      go : met r.present r.desired u conds ≡ true → Dec (t ≡ u)
          → (active (get_or (set (set s.states u 1) u 3) t 0) ≡ 0) ⊎ BySchedule r s (schedule u) t
      go e (no d) = inl (ap active (get_or-set_other (set s.states u 1) u t 3 0 d) ∙ one)
      go e (yes d) =
          inr (subst (λ (v : ℕ). BySchedule r s (schedule u) v) (sym d) (record { call = refl; desired = as_desired r u conds e }))

  effect_activates : (k : Call) → refusal r s k ≡ 0 → Idle (effect r s k).now ⊎ BySchedule r s k t
  unfolding effect refusal refusals finished terminated cancelled ticked
  effect_activates (schedule u) e = scheduled_idle u
  effect_activates (cancel u) e = inl (cleared_idle (family r.controller u))
  effect_activates (terminate u) e = inl (keeps_under active 0 s.states u t 1 refl i)
  effect_activates finish e = inl (keeps_under active 0 s.states s.running t 1 refl i)
  effect_activates (tick buffer) e = inl (due_idle (suc s.count))
  effect_activates (wait_until c) e = inl (until_idle (leb c s.count) c (somebody_runs s _ e))
  effect_activates (wait_for n) e = inl (until_idle (leb (s.count + n) s.count) (s.count + n) (somebody_runs s _ e))
  effect_activates (latched f v) e = inl (on_idle (eqb (value_of s f) v) f v (somebody_runs s _ e))
  effect_activates (unlatched f v) e = inl (on_idle false f v (somebody_runs s _ e))
  effect_activates (signal f v) e = inl i
  effect_activates (read_flag f) e = inl i
  effect_activates (read_block k area buffer) e = inl i
  effect_activates (write_block k area buffer) e = inl i
  effect_activates next_waking e = inl i
  effect_activates (read_overruns t) e = inl i
  effect_activates (why_not t d) e = inl i

-- ---- who is ended by a call was active before it

ended_active : (r : Rig) (s : State) → Sound r s → (k : Call) → refusal r s k ≡ 0 → ended s k ≢ 0 → active (state_of s (ended s k)) ≡ 1
unfolding ended refusal refusals
ended_active r s h (schedule u) e n = absurd (n refl)
ended_active r s h (cancel u) e n = absurd (n refl)
ended_active r s h (terminate u) e n = busy (state_of s u) (eqb-false (active (state_of s u)) 0 (named_is r s u (not_active s u) e).right)
ended_active r s h finish e n = ap active (h.runs.up n)
ended_active r s h (tick buffer) e n = absurd (n refl)
ended_active r s h (wait_until c) e n = absurd (n refl)
ended_active r s h (wait_for m) e n = absurd (n refl)
ended_active r s h (latched f v) e n = absurd (n refl)
ended_active r s h (unlatched f v) e n = absurd (n refl)
ended_active r s h (signal f v) e n = absurd (n refl)
ended_active r s h (read_flag f) e n = absurd (n refl)
ended_active r s h (read_block k area buffer) e n = absurd (n refl)
ended_active r s h (write_block k area buffer) e n = absurd (n refl)
ended_active r s h next_waking e n = absurd (n refl)
ended_active r s h (read_overruns t) e n = absurd (n refl)
ended_active r s h (why_not t d) e n = absurd (n refl)

-- ---- THE THEOREM

pub activated_by_lem : (r : Rig) → RigOk r → (s : State) → Sound r s → (k : Call) → Proper k → (t : ℕ)
    → active (state_of s t) ≡ 0 → active (state_of (step r s k).next t) ≡ 1
    → BySchedule r s k t ⊎ ByService r (Through r (ended s k) (effect r s k)) t
unfolding accepted settled dispatch
activated_by_lem r ok s h k p t i n = go (refusal r s k) refl
  where
    settles : refusal r s k ≡ 0 → active (state_of (again r (ended s k) (serve r (effect r s k))).now t) ≡ 1
    settles e = ap (λ (x : Step). active (state_of x.next t)) (sym (accepted_is r s k e)) ∙ n

    -- who was not active is not who is tested
    untested : refusal r s k ≡ 0 → ByTest r (ended s k) (effect r s k) t → ⊥
    untested e b =
        omega (arith, i, ended_active r s h k e (λ q. b.some (b.ended ∙ q)), ap (λ (u : ℕ). active (state_of s u)) b.ended)

    go : (m : ℕ) → refusal r s k ≡ m → BySchedule r s k t ⊎ ByService r (Through r (ended s k) (effect r s k)) t
    go zero e =
        ⊎_elim
        (λ j. inr (⊎_elim (λ b. b) (λ b. absurd (untested e b)) (settle_activates r ok (ended s k) (effect r s k) (effect_ready r ok s h k p e) t j (settles e))))
        (λ j. inl j) (effect_activates r s h t i k e)
    go (suc m) e = absurd (omega (arith, i, n, ap (λ (x : Step). active (state_of x.next t)) (refused_is r s k m e)))
