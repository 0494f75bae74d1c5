-- What an accepted call has queued is served, and then it is decided who runs: what this asks holds of every call, and what
-- it gives is what the call owes.
use Rattle.std.specs.Prelude.{◌≡◌, refl, ◌≢◌, Bool, true, false, cond, ℕ, suc, ◌+◌, ◌*◌, ◌%◌, ◌≤◌, eqb, leb, replicate}
use Rattle.std.proofs.Common.{sym, ◌∙◌, arith}
use Rattle.std.proofs.Math.Path.{ap, subst}
use mathlib.Core.List.{List, [], ◌∷◌}
use Rattle.laws.specs.Laws.Tables.{zeros}
use Rattle.chains.specs.Held.{at, Sized}
use Rattle.chains.specs.Held as L
use Rattle.rig.specs.Rules.{Right}
use Rattle.rig.specs.declared.Cycle.{Cycle}
use Rattle.rig.specs.declared.Rig.{Rig}
use Rattle.rules.specs.Rig as G
use Rattle.rules.specs.Rig.{in_cycle, is_minor}
use Rattle.rules.specs.State as S
use Rattle.rules.specs.Serving.{activate, serve}
use Rattle.rules.specs.Waiting.{wait_on, wait_until_count, wake_due}
use Rattle.rules.specs.Running.{dispatch}
use Rattle.rules.specs.Calls as R
use Rattle.rules.specs.Proper as P
use Rattle.rules_laws.specs.Queued.{Fine}
use Rattle.rules_laws.specs.Serve.{load}
use Rattle.rules_laws.specs.Testing.{tested_keeps}
use Rattle.rules_laws.specs.Good.{settle_running}
use Rattle.rules_laws.specs.Bound.{effect_load}
use Rattle.rules_laws.specs.Steps.{effect_ready}
use Rattle.rules_laws.specs.Heard.{ChainsIn}
use Rattle.rules_laws.specs.Heeding.{none_heard, heard_by, settle_by_list}
use Rattle.exec_queue.specs.View.{minor_of}
use Rattle.exec_queue.specs.Laws.Cycles.{one_cycle}
use Rattle.exec_state.specs.View.{rig_of, view_of, work_of}
use Rattle.exec_state.specs.Post.{Dispatched}
use Rattle.exec_state.specs.declared.State.{State}
use Rattle.exec_state.specs.Work.{Work}
use Rattle.exec_serving.specs.Post.{Fits, Servable, Begins, Emptied}
use Rattle.exec_serving.specs.View.{rig_in_cycle}
use Rattle.exec_serving.specs.Done.{Done}
use Rattle.exec_sound.specs.Sound.{SoundParts}
use Rattle.exec_sound.specs.Laws.RightRig.{rig_ok}
use Rattle.exec_sound.specs.Laws.Check.{running_low}
use Rattle.exec_outcome.specs.Outcome.{Outcome, telling_of, Tells}
use Rattle.exec_outcome.specs.Laws.Meeting.{accepted_tells, Silent, silent_ticks, silent_output}

-- what is asked
pub record Settles (g : Rig) (w : Work) : Type 0 where
  pub begins : Begins g.lines g.line_task g.line_pos g.activation w.st w.queue
  pub low : w.st.running ≤ 64

-- a cycle with no flag
abbrev pub empty_cycle : Cycle
empty_cycle = record { flags = replicate 15 0 }

-- what is given: an accepted call that told nothing but what the serving came to, and the test of task t after it; 0 for none
pub record Settled (g : Rig) (cycle : Cycle) (w : Work) (t : ℕ) (o : Outcome) : Type 0 where
  pub now : view_of o.st ≡ dispatch (rig_in_cycle g cycle) (R.again (rig_in_cycle g cycle) t (serve (rig_in_cycle g cycle) (work_of w.st w.queue))).now
  pub told : telling_of o ≡ R.reported (R.again (rig_in_cycle g cycle) t (serve (rig_in_cycle g cycle) (work_of w.st w.queue))) 0 0
  pub small : (o.woken ≤ 64 * o.served) × (o.activated ≤ 64 * o.served)
  pub accepted : o.refusal ≡ 0
  pub sound : L.HoldsChains o.st.links
  pub sized : Sized o.st.links

module _ (g : Rig) (cycle : Cycle) (w : Work) (d : Done) (e : Emptied g cycle w.st w.queue d) where
  -- who runs is not touched by the serving
  pub settled_low : Settles g w → d.st.running ≤ 64
  unfolding R.again
  settled_low h =
      omega (arith, ap (λ (y : S.Done). y.now.running) e.is, settle_running (rig_in_cycle g cycle) (work_of w.st w.queue) 0, h.low)

  pub settled_is : (s : State) → Dispatched d.st g s
      → Settled g cycle w 0 (record { st = s; refusal = 0; served = d.served; woken = d.woken; activated = d.activated; words = 0; value = 0 })
  unfolding R.again
  settled_is s f =
      record {
        now = f.is (cycle ∷ []) ∙ ap (λ (y : S.Done). dispatch (rig_in_cycle g cycle) y.now) e.is;
        told = ap (λ (y : S.Done). R.reported y 0 0) e.is;
        small = e.small;
        accepted = refl;
        sound = subst L.HoldsChains (sym f.links) e.sound;
        sized = f.sized;
      }

-- ---- what is asked holds of every accepted call

pub fits : (g : Rig) (cycles : List Cycle) → Right g cycles → Fits g.lines g.line_task g.line_pos g.activation
fits g cycles h =
    record {
      lines =
          record {
            few = h.line_count;
            task = λ k b. omega (arith, (h.lines k b).task.1, h.task_count.1);
            pos = λ k b. (h.lines k b).position;
          };
      flags = λ t. omega (arith, (rig_ok g cycles h).activation_le t, h.flag_count.1);
    }

pub servable : (r : G.Rig) → r.flags ≤ 128 → (q : List S.Entry) → Fine r q → Servable q
servable r b [] h = tt
servable r b (e ∷ q) h =
    (record { some = h.0.0; flag = omega (arith, h.0.1); value = h.0.2 }, servable r b q h.1)

either : (b : Bool) (s t : S.State) → s.running ≤ 64 → t.running ≤ 64 → (cond b s t).running ≤ 64
either true s t h k = h
either false s t h k = k

-- no call makes a task the running one: that is for the dispatch
pub effect_low : (r : G.Rig) (s : S.State) → s.running ≤ 64 → (k : R.Call) → (R.effect r s k).now.running ≤ 64
unfolding R.effect R.scheduled R.finished R.terminated R.cancelled R.ticked wake_due wait_on wait_until_count activate
effect_low r s h (R.schedule t) = tested_keeps r (λ y. y.running ≤ 64) (λ u y i c. c) t _ h
effect_low r s h (R.cancel t) = h
effect_low r s h (R.terminate t) = h
effect_low r s h R.finish = omega arith
effect_low r s h (R.tick buffer) = h
effect_low r s h (R.wait_until n) = either (leb n s.count) s (wait_until_count s n) h (omega arith)
effect_low r s h (R.wait_for n) = either (leb (s.count + n) s.count) s (wait_until_count s (s.count + n)) h (omega arith)
effect_low r s h (R.latched f v) = either (eqb (S.value_of s f) v) s (wait_on s f v) h (omega arith)
effect_low r s h (R.unlatched f v) = omega arith
effect_low r s h (R.signal f v) = h
effect_low r s h (R.read_flag f) = h
effect_low r s h (R.read_block k area buffer) = h
effect_low r s h (R.write_block k area buffer) = h
effect_low r s h R.next_waking = h
effect_low r s h (R.read_overruns t) = h
effect_low r s h (R.why_not t d) = h

-- no flag is on the empty list
nothing_there : at empty_cycle.flags ≡ (λ j. 0)
nothing_there i j = zeros 15 j i

pub empty_plain : (f : ℕ) → f ≢ 0 → is_minor (minor_of (empty_cycle ∷ [])) f ≡ false
empty_plain f n = one_cycle empty_cycle f n ∙ ap (λ (l : ℕ → ℕ). in_cycle l f) nothing_there ∙ none_heard f n

-- the list of a call that is no tick is empty
no_list : (r : G.Rig) (s : S.State) (k : R.Call) → Silent k → at empty_cycle.flags ≡ heard_by r s k
unfolding heard_by
no_list r s k z = nothing_there ∙ ap (λ (b : Bool). cond b (r.minor (suc s.count % 64)) (λ j. 0)) (sym (silent_ticks k z))

module _ (g : Rig) (cycles : List Cycle) (s : State) (h : SoundParts g cycles s) (k : R.Call) (p : P.Proper k) (e : 0 ≡ R.refusal (rig_of g cycles) (view_of s) k) (w : Work)
    (q : work_of w.st w.queue ≡ R.effect (rig_of g cycles) (view_of s) k) where
  pub settles : L.HoldsChains w.st.links → Settles g w
  settles l =
      let c = (effect_ready (rig_of g cycles) (rig_ok g cycles h.rig) (view_of s) h.state k p (sym e)).good in
      record {
        begins =
            record {
              fits = fits g cycles h.rig;
              room = subst (λ (y : S.Work). load y ≤ 79) (sym q) (effect_load (rig_of g cycles) (view_of s) h.state.tasks.sized k);
              sound = l;
              chains = subst (λ (y : S.Work). ChainsIn y.now) (sym q) c.chains;
              entries =
                  subst (λ (y : S.Work). Servable y.queue) (sym q)
                  (servable (rig_of g cycles) h.rig.flag_count.1 (R.effect (rig_of g cycles) (view_of s) k).queue c.fine);
            };
        low = subst (λ (y : S.Work). y.now.running ≤ 64) (sym q) (effect_low (rig_of g cycles) (view_of s) (running_low g cycles s h) k);
      }

  -- ---- what is given is what the call owes, served with the list that tells which flags are minor-cycle flags in it
  module _ (cycle : Cycle) (list : at cycle.flags ≡ heard_by (rig_of g cycles) (view_of s) k) (o : Outcome) (m : Settled g cycle w (R.ended (view_of s) k) o) where
    whole : R.again (rig_in_cycle g cycle) (R.ended (view_of s) k) (serve (rig_in_cycle g cycle) (work_of w.st w.queue)) ≡ R.settled (rig_of g cycles) (view_of s) k
    whole =
        ap (λ (y : S.Work). R.again (rig_in_cycle g cycle) (R.ended (view_of s) k) (serve (rig_in_cycle g cycle) y)) q
        ∙ settle_by_list (rig_of g cycles) (rig_ok g cycles h.rig) (view_of s) k (sym e) (minor_of (cycle ∷ []))
        (λ f n. one_cycle cycle f n ∙ ap (λ (l : ℕ → ℕ). in_cycle l f) list)

    pub next_is : view_of o.st ≡ (R.accepted (rig_of g cycles) (view_of s) k).next
    unfolding R.accepted dispatch
    next_is = m.now ∙ ap (λ (y : S.Done). dispatch (rig_of g cycles) y.now) whole

    pub told_is : telling_of o ≡ R.reported (R.settled (rig_of g cycles) (view_of s) k) 0 0
    told_is = m.told ∙ ap (λ (y : S.Done). R.reported y 0 0) whole

  -- a call that answers only what the serving came to, and writes nothing: it is no tick
  pub settled_tells : (o : Outcome) → Settled g empty_cycle w (R.ended (view_of s) k) o → Silent k → Tells g cycles s k o []
  unfolding R.accepted
  settled_tells o m z =
      let list = no_list (rig_of g cycles) (view_of s) k z in
      let n = silent_output (rig_of g cycles) (R.accepted (rig_of g cycles) (view_of s) k).next k z in
      accepted_tells g cycles s k h p e o [] m.accepted (next_is empty_cycle list o m)
      (told_is empty_cycle list o m ∙ ap (λ (y : R.Output). R.reported (R.settled (rig_of g cycles) (view_of s) k) y.words y.value) (sym n))
      (λ i. (sym n i).lent) m.sound m.sized
