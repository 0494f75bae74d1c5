-- WHICH FLAGS A CALL SERVES: activation flags; for a signal a plain flag; for a tick those on the list of its cycle. So which of them are
-- minor-cycle flags is told by that list alone, and by none where the call is no tick: nobody has to look at all cycles to know it.
use Rattle.std.specs.Prelude.{◌≡◌, ◌≢◌, Bool, cond, ◌&&◌, get_or, set}
use Rattle.std.proofs.Math.Path.{refl, sym, ap}
use Rattle.std.proofs.Common.{◌∙◌, true≢false, arith, le_refl}
use Rattle.std.proofs.Math.Bool.{true, false}
use mathlib.Core.List.{List, [], ◌∷◌}
use Prim.Native.Nat.{ℕ, zero, suc, ◌+◌, ◌%◌, ◌≤◌, ◌<◌}
use borrow.Author.Tests.{eqb-true, eq-eqb}
use Rattle.std.proofs.Math.Dec.{eqb}
use Rattle.laws.specs.Cases.{by_bool, or_false}
use Rattle.laws.specs.Iter.{iter}
use Rattle.laws.specs.Laws.Iter.{iter_ind}
use Rattle.laws.specs.Laws.Any.{any_at, any_some}
use Rattle.rules.specs.Rig.{Rig, in_cycle_one, in_cycle, is_minor, is_activation, not_plain}
use Rattle.rules.specs.RigOk.{RigOk}
use Rattle.rules.specs.State.{chain_of, State, Entry, Work, Done, state_of, overruns_of, active, with_values, with_overruns, blank}
use Rattle.rules.specs.Conditions.{drive, names}
use Rattle.rules.specs.Serving.{push, activate, ready, too_soon, more_by_one, overrun, takes, wake, offer, offer_next, offers, serve_flag, woken_by, activated_by, another, serving, serve}
use Rattle.rules.specs.Family.{family, is_marked, off_one, offs}
use Rattle.rules.specs.Calls.{Call, schedule, cancel, terminate, finish, tick, wait_until, wait_for, latched, unlatched, signal, read_flag, read_block, write_block, next_waking, read_overruns, why_not}
use Rattle.rules.specs.Calls.{is_tick, tested, scheduled, finished, terminated, cancelled, queue_one, cycle_queue, ticked, effect, refusals, refusal, ended, further, again, settled, started}
use Rattle.rules_laws.specs.Testing.{tested_cases}
use Rattle.rules_laws.specs.Acceptance.{flagged_is}
use Rattle.rules_laws.specs.RefusedExactly.{is_minor_lem}

-- ---- every entry of a queue

abbrev pub EachEntry : (Entry → Type 0) → List Entry → Type 0
EachEntry P [] = Unit {0}
EachEntry P (e ∷ q) = P e × EachEntry P q

pub each_push : (P : Entry → Type 0) (f v : ℕ) (q : List Entry) → (f ≢ 0 → P (record { flag = f; value = v })) → EachEntry P q → EachEntry P (push f v q)
each_push P zero v q a h = h
each_push P (suc f) v q a h = (a (λ z. omega arith), h)

-- a service queues activation flags, and a test does
module _ (r : Rig) (P : Entry → Type 0) (act : (t : ℕ) → r.activation t ≢ 0 → P (record { flag = r.activation t; value = 1 })) where
  each_offer : (f t : ℕ) (w : Work) → EachEntry P w.queue → EachEntry P (offer r f t w).queue
  unfolding offer activate
  each_offer f t w h = go (eqb (state_of w.now t) 1 && ready r f t w.now)
    where
      go : (b : Bool) → EachEntry P (cond b (activate r t w) w).queue
      go true = each_push P (r.activation t) 1 w.queue (act t) h
      go false = h

  pub each_serve_flag : (e : Entry) (s : State) (q : List Entry) → EachEntry P q → EachEntry P (serve_flag r e s q).queue
  unfolding serve_flag offers
  each_serve_flag e s q h = iter_ind (λ i w. EachEntry P w.queue) (offer_next r e.flag) _ h (λ i w k. each_offer e.flag (i + 1) w k) 64

  pub each_tested : (t : ℕ) (s : State) → EachEntry P (tested r t s).queue
  unfolding activate
  each_tested t s = tested_cases r t s (λ w. EachEntry P w.queue) (λ e m. each_push P (r.activation t) 1 [] (act t) tt) (λ n. tt)

-- ---- a rig with other minor cycles serves alike, as long as the same of its flags are minor-cycle flags

abbrev pub with_minor : Rig → (ℕ → ℕ → ℕ) → Rig
with_minor r m =
    record {
      tasks = r.tasks;
      flags = r.flags;
      master = r.master;
      controller = r.controller;
      priority = r.priority;
      privileged = r.privileged;
      activation = r.activation;
      present = r.present;
      latched = r.latched;
      desired = r.desired;
      lines = r.lines;
      line_task = r.line_task;
      line_pos = r.line_pos;
      line_flag = r.line_flag;
      minor = m;
      rows = r.rows;
      row = r.row;
    }

module _ (r : Rig) (m : ℕ → ℕ → ℕ) where
  abbrev Same : Entry → Type 0
  Same e = is_minor m e.flag ≡ is_minor r.minor e.flag

  serve_flag_same : (e : Entry) (s : State) (q : List Entry) → Same e → serve_flag (with_minor r m) e s q ≡ serve_flag r e s q
  unfolding serve_flag offers offer ready activate takes overrun too_soon
  serve_flag_same e s q h = ap (λ (l : List ℕ). offers r e.flag 64 (record { now = wake (chain_of e.flag e.value) (with_overruns there l); queue = q })) counts
    where
      there : State
      there =
          with_values s
          (set s.flags e.flag e.value)
          (drive r.lines r.line_task r.line_pos r.line_flag e.flag e.value s.conds)

      counts : overrun (with_minor r m) e.flag s ≡ overrun r e.flag s
      counts =
          ap
          (λ (b : Bool). iter 64
          (λ i l. cond (eqb (active (state_of s (i + 1))) 1 && (names r.lines r.line_task r.line_flag (i + 1) e.flag && b))
          (set l (i + 1) (more_by_one (overruns_of s (i + 1)))) l) s.overruns) h

  module _ (act : (t : ℕ) → r.activation t ≢ 0 → is_minor m (r.activation t) ≡ is_minor r.minor (r.activation t)) where
    serving_same : (k : ℕ) (s : State) (q : List Entry) → EachEntry Same q → serving (with_minor r m) k s q ≡ serving r k s q
    unfolding serving
    serving_same zero s q h = refl
    serving_same (suc k) s [] h = refl
    serving_same (suc k) s (e ∷ q) h =
        let w = serve_flag r e s q in
        ap (λ (x : Work). another (woken_by s x) (activated_by s x) (serving (with_minor r m) k x.now x.queue)) (serve_flag_same e s q h.0)
        ∙ ap (another (woken_by s w) (activated_by s w)) (serving_same k w.now w.queue (each_serve_flag r Same act e s q h.1))

    serve_same : (w : Work) → EachEntry Same w.queue → serve (with_minor r m) w ≡ serve r w
    unfolding serve
    serve_same w h = serving_same _ w.now w.queue h

    again_same : (t : ℕ) (d : Done) → again (with_minor r m) t d ≡ again r t d
    unfolding again tested activate
    again_same zero d = refl
    again_same (suc t) d = ap (further d) (serve_same (tested r (suc t) d.now) (each_tested r Same act (suc t) d.now))

    settle_same : (t : ℕ) (w : Work) → EachEntry Same w.queue → again (with_minor r m) t (serve (with_minor r m) w) ≡ again r t (serve r w)
    settle_same t w h = ap (again (with_minor r m) t) (serve_same w h) ∙ again_same t (serve r w)

-- ---- the list that tells it

-- the cycle of a tick; no flag for another call
unfoldable pub heard_by : Rig → State → Call → ℕ → ℕ
heard_by r s k = cond (is_tick k) (r.minor (suc s.count % 64)) (λ i. 0)

-- no flag is on an empty list
pub none_heard : (f : ℕ) → f ≢ 0 → in_cycle (λ i. 0) f ≡ false
unfolding in_cycle
none_heard f n = by_bool (in_cycle (λ i. 0) f) (λ b. b ≡ false) (λ e. absurd (n (sym (eqb-true 0 f (any_some 15 _ e).2)))) (λ e. refl)

module _ (r : Rig) (ok : RigOk r) where
  -- one that is on a cycle's list is a minor-cycle flag
  in_minor : (c f : ℕ) → c < 64 → in_cycle (r.minor c) f ≡ true → is_minor r.minor f ≡ true
  unfolding in_cycle
  in_minor c f h e = let w = any_some 15 (in_cycle_one (r.minor c) f) e in (is_minor_lem r f).1 (c, h, (w.0, w.1, eqb-true _ f w.2))

  not_in : (c f : ℕ) → c < 64 → is_minor r.minor f ≡ false → in_cycle (r.minor c) f ≡ false
  not_in c f h e = by_bool (in_cycle (r.minor c) f) (λ b. b ≡ false) (λ i. absurd (true≢false (sym (in_minor c f h i) ∙ e))) (λ i. refl)

  -- "An activation flag .. is no minor-cycle flag."
  activation_plain : (t : ℕ) → r.activation t ≢ 0 → is_minor r.minor (r.activation t) ≡ false
  activation_plain t n =
      by_bool (is_minor r.minor (r.activation t)) (λ b. b ≡ false)
      (λ e. let w = (is_minor_lem r (r.activation t)).0 e in absurd (ok.activation_not_minor t w.0 w.2.0 w.1 w.2.1 n w.2.2)) (λ e. refl)

  -- a list tells of a flag whether it is a minor-cycle flag
  abbrev Tells : (ℕ → ℕ) → Entry → Type 0
  Tells list e = (e.flag ≢ 0) × (is_minor r.minor e.flag ≡ in_cycle list e.flag)

  by_none : (f : ℕ) → f ≢ 0 → is_minor r.minor f ≡ false → (f ≢ 0) × (is_minor r.minor f ≡ in_cycle (λ i. 0) f)
  by_none f n e = (n, e ∙ sym (none_heard f n))

  -- the list of a call, of a flag that is none
  plain_tells : (s : State) (k : Call) (f : ℕ) → f ≢ 0 → is_minor r.minor f ≡ false → in_cycle (heard_by r s k) f ≡ false
  unfolding heard_by
  plain_tells s k f n e = go (is_tick k)
    where
      go : (b : Bool) → in_cycle (cond b (r.minor (suc s.count % 64)) (λ i. 0)) f ≡ false
      go true = not_in (suc s.count % 64) f (omega arith) e
      go false = none_heard f n

  off_tells : (t : ℕ) → EachEntry (Tells (λ i. 0)) (push (r.activation t) 0 [])
  off_tells t = each_push (Tells (λ i. 0)) (r.activation t) 0 [] (λ n. by_none _ n (activation_plain t n)) tt

  offs_tells : (marks l : List ℕ) → EachEntry (Tells (λ i. 0)) (offs r.activation marks l)
  unfolding offs
  offs_tells marks l = iter_ind (λ i q. EachEntry (Tells (λ i. 0)) q) (off_one r.activation marks l) [] tt (λ i q h. go i q h (is_marked marks (i + 1) && eqb (active (get_or l (i + 1) 0)) 1)) 64
    where
      go : (i : ℕ) (q : List Entry) → EachEntry (Tells (λ i. 0)) q → (b : Bool) → EachEntry (Tells (λ i. 0)) (cond b (push (r.activation (i + 1)) 0 q) q)
      go i q h true = each_push (Tells (λ i. 0)) (r.activation (i + 1)) 0 q (λ n. by_none _ n (activation_plain (i + 1) n)) h
      go i q h false = h

  cycle_tells : (c : ℕ) → c < 64 → EachEntry (Tells (r.minor c)) (cycle_queue (r.minor c))
  unfolding cycle_queue in_cycle
  cycle_tells c h =
      iter_ind (λ i q. i ≤ 15 → EachEntry (Tells (r.minor c)) q) (queue_one (r.minor c)) [] (λ l. tt)
      (λ i q g l. each_push (Tells (r.minor c)) (r.minor c i) 1 q (λ n. (n, there i (omega arith))) (g (omega arith))) 15 (le_refl _)
    where
      there : (i : ℕ) → i < 15 → is_minor r.minor (r.minor c i) ≡ in_cycle (r.minor c) (r.minor c i)
      there i a =
          (is_minor_lem r (r.minor c i)).1 (c, h, (i, a, refl))
          ∙ sym (any_at 15 (in_cycle_one (r.minor c) (r.minor c i)) i a (eq-eqb (r.minor c i) (r.minor c i) refl))

  -- what an accepted call queues
  effect_tells : (s : State) (k : Call) → refusal r s k ≡ 0 → EachEntry (Tells (heard_by r s k)) (effect r s k).queue
  unfolding effect refusal refusals heard_by is_tick scheduled finished terminated cancelled ticked
  effect_tells s (schedule t) e = each_tested r (Tells (λ i. 0)) (λ u n. by_none _ n (activation_plain u n)) t _
  effect_tells s (cancel t) e = offs_tells (family r.controller t) s.states
  effect_tells s (terminate t) e = off_tells t
  effect_tells s finish e = off_tells s.running
  effect_tells s (tick buffer) e = cycle_tells (suc s.count % 64) (omega arith)
  effect_tells s (wait_until t) e = tt
  effect_tells s (wait_for n) e = tt
  effect_tells s (latched f v) e = tt
  effect_tells s (unlatched f v) e = tt
  effect_tells s (signal f v) e =
      each_push (Tells (λ i. 0)) f v []
      (λ n. by_none f n (or_false (is_minor r.minor f) (is_activation r.activation f) (flagged_is r s f (not_plain r f) e).right).0) tt
  effect_tells s (read_flag f) e = tt
  effect_tells s (read_block k area buffer) e = tt
  effect_tells s (write_block k area buffer) e = tt
  effect_tells s next_waking e = tt
  effect_tells s (read_overruns t) e = tt
  effect_tells s (why_not t d) e = tt

  each_map : (P Q : Entry → Type 0) → ((e : Entry) → P e → Q e) → (q : List Entry) → EachEntry P q → EachEntry Q q
  each_map P Q h [] a = tt
  each_map P Q h (e ∷ q) a = (h e a.0, each_map P Q h q a.1)

  -- THE LAW: with the list in place of all cycles an accepted call comes to the same
  pub settle_by_list : (s : State) (k : Call) → refusal r s k ≡ 0
      → (m : ℕ → ℕ → ℕ) → ((f : ℕ) → f ≢ 0 → is_minor m f ≡ in_cycle (heard_by r s k) f)
      → again (with_minor r m) (ended s k) (serve (with_minor r m) (effect r s k)) ≡ settled r s k
  unfolding settled
  settle_by_list s k e m h =
      settle_same r m (λ t n. h (r.activation t) n ∙ plain_tells s k (r.activation t) n (activation_plain t n) ∙ sym (activation_plain t n))
      (ended s k) (effect r s k)
      (each_map (Tells (heard_by r s k)) (λ x. is_minor m x.flag ≡ is_minor r.minor x.flag) (λ x w. h x.flag w.0 ∙ sym w.1) (effect r s k).queue (effect_tells s k e))

  -- and so does the start
  pub start_by_list : (m : ℕ → ℕ → ℕ) → ((f : ℕ) → f ≢ 0 → is_minor m f ≡ false) → serve (with_minor r m) (scheduled r blank 1) ≡ started r
  unfolding started scheduled
  start_by_list m h =
      let act : (t : ℕ) → r.activation t ≢ 0 → is_minor m (r.activation t) ≡ is_minor r.minor (r.activation t) =
      λ t n. h (r.activation t) n ∙ sym (activation_plain t n) in
      serve_same r m act (scheduled r blank 1) (each_tested r (λ x. is_minor m x.flag ≡ is_minor r.minor x.flag) act 1 _)
