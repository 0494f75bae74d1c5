-- "A fresh record is sound and every call keeps it so".
use Rattle.std.specs.Prelude.{◌≡◌, ◌≢◌, true, eqb, leb}
use Rattle.std.proofs.Math.Path.{refl, sym, ap}
use Rattle.std.proofs.Common.{◌∙◌, subst, true≢false, arith, eqb-true, leb-false}
use Rattle.std.proofs.Math.Bool.{Bool, false, cond}
use mathlib.Core.List.{List, [], ◌∷◌}
use Prim.Native.Nat.{ℕ, zero, suc, ◌+◌, ◌≤◌}
use Rattle.std.proofs.lemmas.Bool.{not-false}
use Rattle.std.proofs.Math.ListN.{length-replicate}
use Rattle.laws.specs.Cases.{by, or_false}
use Rattle.laws.specs.Laws.Tables.{zeros}
use Rattle.rules.specs.Rig.{Rig, is_minor, is_activation, not_plain}
use Rattle.rules.specs.RigOk.{RigOk}
use Rattle.rules.specs.State.{State, Work, Done, state_of, value_of, active, with_running, blank}
use Rattle.rules.specs.Serving.{activate, unserved, serve}
use Rattle.rules.specs.Waiting.{wait_on, wait_until_count}
use Rattle.rules.specs.Running.{dispatch}
use Rattle.rules.specs.Calls.{Call, schedule, cancel, terminate, finish, tick, wait_until, wait_for, latched, unlatched, signal, read_flag, read_block, write_block, next_waking, read_overruns, why_not}
use Rattle.rules.specs.Calls.{is_tick, scheduled, quiet, effect, refusals, refusal, is_invoked, not_active, last_count, ended, again, settled, reported, output, accepted, after, Step, step, run, started, start}
use Rattle.rules.specs.Proper.{Proper, ProperRun}
use Rattle.rules.specs.Soundness.{Sound}
use Rattle.rules_laws.specs.Queued.{look}
use Rattle.rules_laws.specs.Ranks.{chosen_runs, runs_chosen}
use Rattle.rules_laws.specs.Acceptance.{passed, somebody_runs, named_is, flagged_is, no_activation}
use Rattle.rules_laws.specs.Good.{Good, Ready, sound_good, settle_good, settle_count}
use Rattle.rules_laws.specs.Serve.{serve_nil}
use Rattle.rules_laws.specs.Testing.{tested_keeps}
use Rattle.rules_laws.specs.Effects.{quiet_ready, scheduled_ready, finished_ready, terminated_ready, wait_on_ready, wait_until_ready, signal_ready, ticked_ready}
use Rattle.rules_laws.specs.Cancelling.{cancelled_ready}
use Rattle.rules_laws.specs.Ticking.{is_tick_lem, effect_count}

-- ---- dispatch

pub dispatch_sound : (r : Rig) (s : State) → Good r s [] → s.count ≤ last_count → Sound r (dispatch r s)
unfolding dispatch look
dispatch_sound r s g n =
    record {
      range = n;
      tasks = g.tasks;
      flags = g.flags;
      conds = g.conds;
      wakes = g.wakes;
      overruns = g.overruns;
      chains = g.chains;
      agree = g.agree;
      runs = chosen_runs r.privileged r.priority s.states g.tasks.sized s.running;
    }

-- in a sound state the running task is the one that a dispatch chooses
pub dispatch_same : (r : Rig) (s : State) → Sound r s → dispatch r s ≡ s
unfolding dispatch
dispatch_same r s h =
    ap (λ (n : ℕ). with_running s n) (runs_chosen r.privileged r.priority s.states h.tasks.sized s.running h.runs)

-- a question: nothing is queued and nobody ended; where it is not refused the state is what it was, no flag is served, and what it puts out is told
pub question_step : (r : Rig) (s : State) → Sound r s → (k : Call) → effect r s k ≡ quiet s → ended s k ≡ 0 → refusal r s k ≡ 0
    → step r s k ≡ record { next = s; answer = record { code = 0; report = reported (unserved s) (output r s k).words (output r s k).value }; lent = (output r s k).lent }
unfolding step after accepted settled again
question_step r s h k quiet_so nobody fine =
    ap (λ (n : ℕ). after n r s k) fine
    ∙ ap (λ (w : Work). said (again r (ended s k) (serve r w))) quiet_so
    ∙ ap (λ (t : ℕ). said (again r t (serve r (quiet s)))) nobody
    ∙ ap said (serve_nil r s)
    ∙ ap (λ (n : State). told n (unserved s)) (dispatch_same r s h)
  where
    told : State → Done → Step
    told n d = let o = output r n k in record { next = n; answer = record { code = 0; report = reported d o.words o.value }; lent = o.lent }

    said : Done → Step
    said d = told (dispatch r d.now) d

-- ---- what each accepted call hands to the serving

active_some : (n : ℕ) → eqb (active n) 0 ≡ false → n ≢ 0
active_some zero h = absurd (true≢false h)
active_some (suc n) h = λ q. omega arith

module _ (r : Rig) (ok : RigOk r) (s : State) (h : Sound r s) where
  good : Good r s []
  good = sound_good r s h

  up : s.running ≢ 0 → state_of s s.running ≡ 3
  up n = h.runs.up n

  until_ready : (k : ℕ) → s.running ≢ 0 → Ready r (quiet (cond (leb k s.count) s (wait_until_count s k)))
  until_ready k n = go (leb k s.count) refl
    where
      go : (b : Bool) → leb k s.count ≡ b → Ready r (quiet (cond b s (wait_until_count s k)))
      go true e = quiet_ready r s good
      go false e = wait_until_ready r ok s good k (up n) (leb-false k s.count e)

  on_ready : (b : Bool) (f v : ℕ) → s.running ≢ 0 → (1 ≤ f) × (f ≤ r.flags) → v ≤ 1 → Ready r (quiet (cond b s (wait_on s f v)))
  on_ready true f v n a c = quiet_ready r s good
  on_ready false f v n a c = wait_on_ready r ok s good f v (up n) a.0 (omega (arith, a.1, ok.flags_le)) c

  pub effect_ready : (k : Call) → Proper k → refusal r s k ≡ 0 → Ready r (effect r s k)
  unfolding effect refusal refusals
  effect_ready (schedule t) p e =
      let n = named_is r s t (is_invoked s t) e in
      scheduled_ready r ok s good t n.task.0 n.task.1
      (λ q z. omega (arith, z, ap (state_of s) n.control, up n.runs))
      (eqb-true (state_of s t) 0 (not-false (eqb (state_of s t) 0) n.right))
  effect_ready (cancel t) p e = cancelled_ready r ok s good t
  effect_ready (terminate t) p e =
      terminated_ready r ok s good t (active_some (state_of s t) (named_is r s t (not_active s t) e).right)
  effect_ready finish p e = finished_ready r ok s good (up (somebody_runs s _ e))
  effect_ready (tick buffer) p e = ticked_ready r ok s good
  effect_ready (wait_until k) p e = until_ready k (somebody_runs s _ e)
  effect_ready (wait_for n) p e = until_ready (s.count + n) (somebody_runs s _ e)
  effect_ready (latched f v) p e =
      let n = flagged_is r s f (is_minor r.minor f) e in
      on_ready (eqb (value_of s f) v) f v n.runs n.flag p
  effect_ready (unlatched f v) p e =
      let n = flagged_is r s f (is_minor r.minor f) e in
      on_ready false f v n.runs n.flag p
  effect_ready (signal f v) p e =
      let n = flagged_is r s f (not_plain r f) e in
      let other = (or_false (is_minor r.minor f) (is_activation r.activation f) n.right).1 in
      signal_ready r ok s good f v n.flag.1 p
      (λ u nz. let a = ok.activation_task u nz in no_activation r.activation f other u a.0 (omega (arith, a.1, ok.tasks_le)))
  effect_ready (read_flag f) p e = quiet_ready r s good
  effect_ready (read_block k area buffer) p e = quiet_ready r s good
  effect_ready (write_block k area buffer) p e = quiet_ready r s good
  effect_ready next_waking p e = quiet_ready r s good
  effect_ready (read_overruns t) p e = quiet_ready r s good
  effect_ready (why_not t d) p e = quiet_ready r s good

  -- the count rises in a tick alone, and not past the last
  pub effect_range : (k : Call) → refusal r s k ≡ 0 → (effect r s k).now.count ≤ last_count
  unfolding refusal refusals
  effect_range k e =
      by (is_tick k)
      (λ t.
      let named = is_tick_lem k t in
      let ahead = below named.0 (subst (λ (c : Call). refusal r s c ≡ 0) named.1 e) in
      omega (arith, ahead, effect_count r s k ∙ ap risen t))
      (λ t. omega (arith, h.range, effect_count r s k ∙ ap risen t))
    where
      risen : Bool → ℕ
      risen b = cond b (suc s.count) s.count

      below : (buffer : List ℕ) → refusal r s (tick buffer) ≡ 0 → suc s.count ≤ last_count
      below buffer e = leb-false last_count s.count (passed 8 (leb last_count s.count) _ e).0

-- ---- every step, every run

module _ (r : Rig) (ok : RigOk r) where
  -- what is handed to the serving is served, task t tested, and then it is dispatched
  settle_sound : (t : ℕ) (w : Work) → Ready r w → w.now.count ≤ last_count → Sound r (dispatch r (again r t (serve r w)).now)
  settle_sound t w c n = dispatch_sound r (again r t (serve r w)).now (settle_good r ok t w c) (omega (arith, settle_count r w t))

  pub accepted_sound : (s : State) → Sound r s → (k : Call) → Proper k → refusal r s k ≡ 0 → Sound r (accepted r s k).next
  unfolding accepted settled
  accepted_sound s h k p e = settle_sound (ended s k) (effect r s k) (effect_ready r ok s h k p e) (effect_range r ok s h k e)

  pub step_sound : (s : State) → Sound r s → (k : Call) → Proper k → Sound r (step r s k).next
  unfolding step after
  step_sound s h k p = go (refusal r s k) refl
    where
      go : (n : ℕ) → refusal r s k ≡ n → Sound r (after n r s k).next
      go zero e = accepted_sound s h k p e
      go (suc n) e = h

  pub run_sound : (s : State) → Sound r s → (ks : List Call) → ProperRun ks → Sound r (run r s ks)
  unfolding run
  run_sound s h [] p = h
  run_sound s h (k ∷ ks) p = run_sound (step r s k).next (step_sound s h k p.0) ks p.1

  -- ---- the start

  pub blank_good : Good r blank []
  unfolding blank look
  blank_good =
      record {
        tasks =
            record {
              sized = length-replicate {A = ℕ} 65 0;
              small = λ t. omega (arith, zeros 65 t);
              within = λ t n. absurd (n (zeros 65 t));
              tree = λ t m n. absurd (n (zeros 65 t));
            };
        flags =
            record {
              sized = length-replicate {A = ℕ} 129 0;
              small = λ f. omega (arith, zeros 129 f);
              within = λ f n. absurd (n (zeros 129 f));
            };
        conds =
            record {
              sized = length-replicate {A = ℕ} 1040 0;
              small = λ i. omega (arith, zeros 1040 i);
              within = λ i n. absurd (n (zeros 1040 i));
            };
        wakes = record { sized = length-replicate {A = ℕ} 65 0; within = λ t n. absurd (n (zeros 65 t)) };
        overruns =
            record {
              sized = length-replicate {A = ℕ} 65 0;
              small = λ t. omega (arith, zeros 65 t);
              within = λ t n. absurd (n (zeros 65 t));
            };
        chains =
            record {
              listed = record { there = λ t e. absurd (omega (arith, e, zeros 65 t)); two = λ t w. absurd w.1 };
              apart = λ t c d i j. absurd i;
              once = λ c. tt;
              only = λ t c i. absurd i;
              ordered = tt;
              ahead = λ t i. absurd i;
            };
        agree = λ t nz. zeros 129 (r.activation t) ∙ sym (ap active (zeros 65 t));
        fine = tt;
      }

  pub started_ready : Ready r (scheduled r blank 1)
  unfolding blank
  started_ready = scheduled_ready r ok blank blank_good 1 (omega arith) ok.tasks_some (λ n. absurd (n refl)) (zeros 65 1)

  started_count : (scheduled r blank 1).now.count ≤ last_count
  unfolding scheduled blank activate last_count
  started_count = tested_keeps r (λ x. x.count ≤ 2147483647) (λ u w a k. k) 1 _ (omega arith)

  pub start_sound : Sound r (start r)
  unfolding start started again
  start_sound = settle_sound 0 (scheduled r blank 1) started_ready started_count

  -- after any run from an accepted start, refused calls among it: "12 never follows from an accepted start"
  pub always : (ks : List Call) → ProperRun ks → Sound r (run r (start r) ks)
  always ks p = run_sound (start r) start_sound ks p
