-- STARTS THAT CAME TOO SOON: after any run a task's number of overruns "equals the smaller of that stop and the number counted from the
-- history since the last schedule".
use Rattle.std.specs.Prelude.{◌≡◌, ◌≢◌, Bool, ◌&&◌, eqb, leb, ltb, length, set}
use Rattle.std.proofs.Math.Path.{refl, sym, ap, subst}
use Rattle.std.proofs.Common.{◌∙◌, ⊎_elim, add-one, ltb-true, ltb-false, get_or-set_same}
use Rattle.std.proofs.Math.Bool.{true, false, cond, true≢false}
use mathlib.Core.List.{List, [], ◌∷◌}
use Prim.Native.Nat.{ℕ, zero, suc, ◌+◌, ◌≤◌, ◌<◌, min}
use native.Mathlib.Omega.{arith}
use Rattle.std.proofs.Math.ListN.{get_or, length-set, length-replicate}
use Rattle.std.proofs.Math.Seq.{get_or-set_other}
use Rattle.laws.specs.Cases.{by, by_eqb, if_yes, if_no}
use Rattle.laws.specs.Decides.{Is}
use Rattle.laws.specs.Laws.Decides.{is_eqb, is_and, is_said}
use Rattle.laws.specs.Laws.Iter.{iter_ind}
use Rattle.laws.specs.Laws.Stores.{stores_length, stores_hit, stores_miss}
use Rattle.laws.specs.Laws.Tables.{zeros}
use Rattle.rules.specs.Rig.{Rig}
use Rattle.rules.specs.State.{State, Entry, Work, Done, state_of, value_of, overruns_of, active, blank}
use Rattle.rules.specs.Conditions.{names}
use Rattle.rules.specs.Serving.{activate, too_soon, most_overruns, more_by_one, overrun, takes, wake, ready, offer, offer_next, offers, serve_flag, serving, serve}
use Rattle.rules.specs.Waiting.{wait_on, wait_until_count, wake_due}
use Rattle.rules.specs.Running.{dispatch}
use Rattle.rules.specs.Calls.{Call, schedule, cancel, terminate, finish, tick, wait_until, wait_for, latched, unlatched, signal, read_flag, read_block, write_block, next_waking, read_overruns, why_not}
use Rattle.rules.specs.Calls.{as_scheduled, tested, scheduled, finished, terminated, cancelled, ticked, effect, ended, again, settled, decide, no_such_one, refusals, refusal, value_only, output, accepted, after, step, run, started, start}
use Rattle.rules.specs.Soundness.{Sound}
use Rattle.rules.specs.Reasons.{NoSuch}
use Rattle.rules.specs.Overruns.{InACondition, TooSoon, Event, scheduling, service, serving_events, serve_events, again_events, scheduling_of, accepted_events, events_if, events_from, start_events, events_of, overruns_counted}
use Rattle.rules_laws.specs.ConditionLaws.{names_is}
use Rattle.rules_laws.specs.Testing.{tested_keeps}
use Rattle.rules_laws.specs.Steps.{question_step}
use Rattle.rules_laws.specs.RefusedExactly.{is_no_such, is_minor_lem}

-- ---- the test says what the words say

is_named : (r : Rig) (f t : ℕ) → Is (names r.lines r.line_task r.line_flag t f) (InACondition r f t)
is_named r f t =
    is_said (names_is r.lines r.line_task r.line_flag t f) (λ w. (w.0, w.1, w.2.0, w.2.1)) (λ w. (w.0, w.1, (w.2, w.3)))

pub too_soon_lem : (r : Rig) (f : ℕ) (s : State) (t : ℕ) → Is (too_soon r f s t) (TooSoon r f s t)
unfolding too_soon
too_soon_lem r f s t =
    is_said
    (is_and (is_eqb (active (state_of s t)) 1) (is_and (is_named r f t) (is_minor_lem r f)))
    (λ w. record { minor = w.1.1; named = w.1.0; already = w.0 })
    (λ w. (w.already, (w.named, w.minor)))

-- ---- one more, and the stop

-- "It stops at 65,535.": one more than the smaller of the stop and n is the smaller of the stop and one more than n
one_more : (n : ℕ) → more_by_one (min most_overruns n) ≡ min most_overruns (suc n)
unfolding more_by_one
one_more n =
    by (ltb (min most_overruns n) most_overruns)
    (λ e. if_yes _ e (omega (arith, ltb-true (min most_overruns n) most_overruns e)))
    (λ e. if_no _ e (omega (arith, ltb-false (min most_overruns n) most_overruns e)))

-- ---- a service counts

module _ (r : Rig) (f : ℕ) (s : State) where
  abbrev test : ℕ → Bool
  test k = too_soon r f s (k + 1)

  abbrev place : ℕ → ℕ
  place k = k + 1

  abbrev number : ℕ → ℕ
  number k = more_by_one (overruns_of s (k + 1))

  overrun_length : length (overrun r f s) ≡ length s.overruns
  unfolding overrun
  overrun_length = stores_length test place number 64 s.overruns

  -- the numbers of tasks 1 to 64 after a service of flag f
  overrun_at : length s.overruns ≡ 65 → (i : ℕ) → i < 64
      → get_or (overrun r f s) (i + 1) 0 ≡ cond (too_soon r f s (i + 1)) (more_by_one (overruns_of s (i + 1))) (overruns_of s (i + 1))
  unfolding overrun
  overrun_at z i h =
      by (too_soon r f s (i + 1))
      (λ e.
      stores_hit test place number 64 s.overruns i h e (omega (arith, z)) (λ j a b c. ap (λ (k : ℕ). more_by_one (overruns_of s k)) c)
      ∙ sym (if_yes _ e refl))
      (λ e. stores_miss test place number 64 s.overruns (i + 1) (λ k a b c. true≢false (sym b ∙ ap (too_soon r f s) (sym c) ∙ e)) ∙ sym (if_no _ e refl))

-- ---- the numbers in the record, by the history

pub record NumbersBy (r : Rig) (h : List Event) (l : List ℕ) : Type 0 where
  pub sized : length l ≡ 65
  pub is : (i : ℕ) → i < 64 → get_or l (i + 1) 0 ≡ min most_overruns (overruns_counted r (i + 1) h)

module _ (r : Rig) where
  service_counts : (e : Entry) (s : State) (h : List Event) → NumbersBy r h s.overruns → NumbersBy r (service s e ∷ h) (overrun r e.flag s)
  unfolding overruns_counted
  service_counts e s h n =
      record {
        sized = overrun_length r e.flag s ∙ n.sized;
        is = λ i a.
            overrun_at r e.flag s n.sized i a
            ∙ go i (too_soon r e.flag s (i + 1)) (n.is i a);
      }
    where
      go : (i : ℕ) (b : Bool) → overruns_of s (i + 1) ≡ min most_overruns (overruns_counted r (i + 1) h)
          → cond b (more_by_one (overruns_of s (i + 1))) (overruns_of s (i + 1)) ≡ min most_overruns (cond b (suc (overruns_counted r (i + 1) h)) (overruns_counted r (i + 1) h))
      go i true q = ap more_by_one q ∙ one_more (overruns_counted r (i + 1) h)
      go i false q = q

  -- nothing else in a service touches the numbers
  offer_numbers : (f t : ℕ) (w : Work) → (offer r f t w).now.overruns ≡ w.now.overruns
  unfolding offer activate
  offer_numbers f t w = go (eqb (state_of w.now t) 1 && ready r f t w.now)
    where
      go : (b : Bool) → (cond b (activate r t w) w).now.overruns ≡ w.now.overruns
      go true = refl
      go false = refl

  serve_flag_numbers : (e : Entry) (s : State) (q : List Entry) → overrun r e.flag s ≡ (serve_flag r e s q).now.overruns
  unfolding serve_flag offers wake takes
  serve_flag_numbers e s q =
      sym (iter_ind (λ i w. w.now.overruns ≡ overrun r e.flag s) (offer_next r e.flag) _ refl (λ i w h. offer_numbers e.flag (i + 1) w ∙ h) 64)

  serving_counts : (k : ℕ) (s : State) (q : List Entry) (h : List Event) → NumbersBy r h s.overruns
      → NumbersBy r (serving_events r k s q h) (serving r k s q).now.overruns
  unfolding serving serving_events
  serving_counts zero s q h n = n
  serving_counts (suc k) s [] h n = n
  serving_counts (suc k) s (e ∷ q) h n =
      let w = serve_flag r e s q in
      serving_counts k w.now w.queue (service s e ∷ h) (subst (NumbersBy r (service s e ∷ h)) (serve_flag_numbers e s q) (service_counts e s h n))

  serve_counts : (w : Work) (h : List Event) → NumbersBy r h w.now.overruns → NumbersBy r (serve_events r w h) (serve r w).now.overruns
  unfolding serve serve_events
  serve_counts w h n = serving_counts _ w.now w.queue h n

  tested_numbers : (t : ℕ) (s : State) → s.overruns ≡ (tested r t s).now.overruns
  unfolding activate
  tested_numbers t s = tested_keeps r (λ x. s.overruns ≡ x.overruns) (λ u w e h. h) t s refl

  again_counts : (t : ℕ) (d : Done) (h : List Event) → NumbersBy r h d.now.overruns → NumbersBy r (again_events r t d h) (again r t d).now.overruns
  unfolding again again_events
  again_counts zero d h n = n
  again_counts (suc t) d h n = serve_counts (tested r (suc t) d.now) h (subst (NumbersBy r h) (tested_numbers (suc t) d.now) n)

  -- ---- a schedule sets 0, and other calls keep

  zero_stop : 0 ≡ min most_overruns 0
  unfolding most_overruns
  zero_stop = refl

  either : (b : Bool) (s u : State) (h : List Event) → NumbersBy r h s.overruns → NumbersBy r h u.overruns → NumbersBy r h (cond b s u).overruns
  either true s u h n m = n
  either false s u h n m = m

  scheduled_counts : (t : ℕ) (s : State) (h : List Event) → NumbersBy r h s.overruns → NumbersBy r (scheduling t ∷ h) (set s.overruns t 0)
  unfolding overruns_counted
  scheduled_counts t s h n =
      record {
        sized = length-set s.overruns t 0 ∙ n.sized;
        is = λ i a.
            by_eqb t (i + 1)
            (λ b. get_or (set s.overruns t 0) (i + 1) 0 ≡ min most_overruns (cond b 0 (overruns_counted r (i + 1) h)))
            (λ e. subst (λ (u : ℕ). get_or (set s.overruns t 0) u 0 ≡ 0) e (get_or-set_same s.overruns t 0 0 (omega (arith, e, a, n.sized))) ∙ zero_stop)
            (λ e. get_or-set_other s.overruns t (i + 1) 0 0 (λ q. e (sym q)) ∙ n.is i a);
      }

  effect_counts : (s : State) (k : Call) (h : List Event) → NumbersBy r h s.overruns → NumbersBy r (scheduling_of k h) (effect r s k).now.overruns
  unfolding effect scheduling_of scheduled finished terminated cancelled ticked wake_due wait_on wait_until_count
  effect_counts s (schedule t) h n = subst (NumbersBy r (scheduling t ∷ h)) (tested_numbers t (as_scheduled r s t)) (scheduled_counts t s h n)
  effect_counts s (cancel t) h n = n
  effect_counts s (terminate t) h n = n
  effect_counts s finish h n = n
  effect_counts s (tick buffer) h n = n
  effect_counts s (wait_until t) h n = either (leb t s.count) s (wait_until_count s t) h n n
  effect_counts s (wait_for m) h n = either (leb (s.count + m) s.count) s (wait_until_count s (s.count + m)) h n n
  effect_counts s (latched f v) h n = either (eqb (value_of s f) v) s (wait_on s f v) h n n
  effect_counts s (unlatched f v) h n = n
  effect_counts s (signal f v) h n = n
  effect_counts s (read_flag f) h n = n
  effect_counts s (read_block k area buffer) h n = n
  effect_counts s (write_block k area buffer) h n = n
  effect_counts s next_waking h n = n
  effect_counts s (read_overruns t) h n = n
  effect_counts s (why_not t d) h n = n

  -- ---- every step, every run

  pub step_counts : (s : State) (k : Call) (h : List Event) → NumbersBy r h s.overruns → NumbersBy r (events_if (refusal r s k) r s k h) (step r s k).next.overruns
  unfolding step after accepted settled dispatch events_if accepted_events
  step_counts s k h n = go (refusal r s k)
    where
      go : (x : ℕ) → NumbersBy r (events_if x r s k h) (after x r s k).next.overruns
      go zero =
          again_counts (ended s k) (serve r (effect r s k)) (serve_events r (effect r s k) (scheduling_of k h))
          (serve_counts (effect r s k) (scheduling_of k h) (effect_counts s k h n))
      go (suc x) = n

  run_counts : (s : State) (ks : List Call) (h : List Event) → NumbersBy r h s.overruns → NumbersBy r (events_from r s ks h) (run r s ks).overruns
  unfolding run events_from
  run_counts s [] h n = n
  run_counts s (k ∷ ks) h n = run_counts (step r s k).next ks _ (step_counts s k h n)

  -- at the start nothing has been counted
  blank_counts : NumbersBy r [] blank.overruns
  unfolding blank overruns_counted
  blank_counts = record { sized = length-replicate {A = ℕ} 65 0; is = λ i a. zeros 65 (i + 1) ∙ zero_stop }

  pub start_counts : NumbersBy r (start_events r) (start r).overruns
  unfolding start started start_events dispatch scheduled
  start_counts =
      serve_counts (scheduled r blank 1) (scheduling 1 ∷ [])
      (subst (NumbersBy r (scheduling 1 ∷ [])) (tested_numbers 1 (as_scheduled r blank 1)) (scheduled_counts 1 blank [] blank_counts))

  -- THE LAW: "the smaller of that stop and the number counted from the history since the last schedule"
  pub counted_since : (ks : List Call) (t : ℕ) → 1 ≤ t → t ≤ 64
      → overruns_of (run r (start r) ks) t ≡ min most_overruns (overruns_counted r t (events_of r ks))
  unfolding events_of
  counted_since ks zero a b = absurd (omega arith)
  counted_since ks (suc i) a b =
      subst (λ (t : ℕ). overruns_of (run r (start r) ks) t ≡ min most_overruns (overruns_counted r t (events_of r ks))) (add-one i)
      ((run_counts (start r) ks (start_events r) start_counts).is i (omega arith))

-- ---- the history leaves no service out: it has as many more as the call says that it served

module _ (r : Rig) where
  serving_many : (k : ℕ) (s : State) (q : List Entry) (h : List Event) → length (serving_events r k s q h) ≡ (serving r k s q).served + length h
  unfolding serving serving_events
  serving_many zero s q h = omega arith
  serving_many (suc k) s [] h = omega arith
  serving_many (suc k) s (e ∷ q) h =
      let w = serve_flag r e s q in
      omega (arith, serving_many k w.now w.queue (service s e ∷ h))

  serve_many : (w : Work) (h : List Event) → length (serve_events r w h) ≡ (serve r w).served + length h
  unfolding serve serve_events
  serve_many w h = serving_many _ w.now w.queue h

  again_many : (t : ℕ) (d : Done) (h : List Event) → length (again_events r t d h) + d.served ≡ (again r t d).served + length h
  unfolding again again_events
  again_many zero d h = omega arith
  again_many (suc t) d h = omega (arith, serve_many (tested r (suc t) d.now) h)

  pub events_many : (s : State) (k : Call) (h : List Event) → length (accepted_events r s k h) ≡ (settled r s k).served + length (scheduling_of k h)
  unfolding accepted_events settled
  events_many s k h =
      let w = effect r s k in
      omega (arith, again_many (ended s k) (serve r w) (serve_events r w (scheduling_of k h)), serve_many w (scheduling_of k h))

-- ---- the question itself

-- 6: "no such task"
pub read_refused : (r : Rig) (s : State) (t : ℕ) → NoSuch r.tasks t → refusal r s (read_overruns t) ≡ 6
unfolding refusal refusals decide
read_refused r s t h = if_yes _ ((is_no_such r.tasks t).1 h) refl

-- the state is what it was, no flag is served, and the task's number is told

pub read_step : (r : Rig) (s : State) → Sound r s → (t : ℕ) → 1 ≤ t → t ≤ r.tasks
    → step r s (read_overruns t) ≡ record { next = s; answer = record { code = 0; report = value_only (overruns_of s t) }; lent = [] }
unfolding ended refusal refusals decide effect output
read_step r s h t a b =
    question_step r s h (read_overruns t) refl refl
    (if_no 6 (by (no_such_one r.tasks t) (λ e. absurd (⊎_elim (λ q. omega (arith, q, a)) (λ q. omega (arith, q, b)) ((is_no_such r.tasks t).0 e))) (λ e. e)) refl)
