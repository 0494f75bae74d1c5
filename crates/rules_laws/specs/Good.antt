-- What holds of a state and its queue all through a serving, and so after it.
use Rattle.std.specs.Prelude.{◌≡◌, ◌≢◌, Bool, cond, ◌&&◌, length}
use Rattle.std.proofs.Math.Path.{refl, sym}
use Rattle.std.proofs.Common.{ap, ◌∙◌, arith, le_refl, eqb-true}
use Rattle.std.proofs.Math.Bool.{true, false}
use mathlib.Core.List.{List, [], ◌∷◌}
use Prim.Native.Nat.{ℕ, zero, suc, ◌+◌, ◌≤◌}
use Rattle.std.proofs.Math.Dec.{eqb}
use Rattle.std.proofs.Math.ListN.{get_or}
use Rattle.laws.specs.Laws.Iter.{iter_ind}
use Rattle.laws.specs.Laws.Tables.{in_range}
use Rattle.rules.specs.Rig.{Rig}
use Rattle.rules.specs.RigOk.{RigOk}
use Rattle.rules.specs.State.{Chain, chain_of, State, Work, Done, Entry, state_of, active}
use Rattle.rules.specs.Serving.{inactives, activate, ready, offer, offer_next, offers, wake, takes, serve_flag, serving, serve}
use Rattle.rules.specs.Calls.{quiet, tested, again}
use Rattle.rules.specs.Soundness.{Tasks, Flags, Conds, WakingCounts, Overruns, Chains, Sound}
use Rattle.rules_laws.specs.Queued.{Fine, fine_push, look, Agree, Clear, rest, rest_absent}
use Rattle.rules_laws.specs.Agreement.{restate, popped, clear_activate}
use Rattle.rules_laws.specs.Rousing.{rouse_one, rouse_same}
use Rattle.rules_laws.specs.TableLaws.{tasks_move, tasks_rouse, flags_set, conds_relax, conds_drive, overruns_count}
use Rattle.rules_laws.specs.WaitingLaws.{chains_wake, chains_set}
use Rattle.rules_laws.specs.Serve.{load, serve_flag_load}
use Rattle.rules_laws.specs.Testing.{tested_cases, tested_keeps}

-- THE PRINCIPLE: what taking a value, waking a flag's chain and activating keep, a serving keeps
module _ (r : Rig) (P : State → Type 0) (tk : (e : Entry) (s : State) → P s → P (takes r e s)) (wk : (f v : ℕ) (s : State) → P s → P (wake (chain_of f v) s))
    (ac : (t : ℕ) (w : Work) → state_of w.now t ≡ 1 → P w.now → P (activate r t w).now) where
  offer_keeps : (f t : ℕ) (w : Work) → P w.now → P (offer r f t w).now
  unfolding offer
  offer_keeps f t w h = go (eqb (state_of w.now t) 1) refl (ready r f t w.now)
    where
      go : (a : Bool) → eqb (state_of w.now t) 1 ≡ a → (b : Bool) → P (cond (a && b) (activate r t w) w).now
      go true e true = ac t w (eqb-true _ 1 e) h
      go true e false = h
      go false e b = h

  offers_keeps : (f k : ℕ) (w : Work) → P w.now → P (offers r f k w).now
  unfolding offers
  offers_keeps f k w h = iter_ind (λ i x. P x.now) (offer_next r f) w h (λ i x g. offer_keeps f (i + 1) x g) k

  pub serve_flag_keeps : (e : Entry) (s : State) (q : List Entry) → P s → P (serve_flag r e s q).now
  unfolding serve_flag
  serve_flag_keeps e s q h = offers_keeps e.flag 64 _ (wk e.flag e.value (takes r e s) (tk e s h))

  pub serving_keeps : (k : ℕ) (s : State) (q : List Entry) → P s → P (serving r k s q).now
  unfolding serving
  serving_keeps zero s q h = h
  serving_keeps (suc k) s [] h = h
  serving_keeps (suc k) s (e ∷ q) h =
      serving_keeps k (serve_flag r e s q).now (serve_flag r e s q).queue (serve_flag_keeps e s q h)

  pub serve_keeps : (w : Work) → P w.now → P (serve r w).now
  unfolding serve
  serve_keeps w h = serving_keeps _ w.now w.queue h

  -- and so does a test, with the serving after it
  pub again_keeps : (t : ℕ) (d : Done) → P d.now → P (again r t d).now
  unfolding again
  again_keeps zero d h = h
  again_keeps (suc t) d h = serve_keeps (tested r (suc t) d.now) (tested_keeps r P ac (suc t) d.now h)

  pub settle_keeps : (t : ℕ) (w : Work) → P w.now → P (again r t (serve r w)).now
  settle_keeps t w h = again_keeps t (serve r w) (serve_keeps w h)

-- who ran, and the count, are not touched by a serving, nor by the test of task t and the serving after it
module _ (r : Rig) (w : Work) (t : ℕ) where
  pub settle_running : (again r t (serve r w)).now.running ≡ w.now.running
  unfolding takes wake activate
  settle_running = settle_keeps r (λ s. s.running ≡ w.now.running) (λ e s h. h) (λ f v s h. h) (λ u x g h. h) t w refl

  pub settle_count : (again r t (serve r w)).now.count ≡ w.now.count
  unfolding takes wake activate
  settle_count = settle_keeps r (λ s. s.count ≡ w.now.count) (λ e s h. h) (λ f v s h. h) (λ u x g h. h) t w refl

-- a sound state with q queued, but for the running task and the range of the count
pub record Good (r : Rig) (s : State) (q : List Entry) : Type 0 where
  pub tasks : Tasks r s.states
  pub flags : Flags r s.flags
  pub conds : Conds r s.conds
  pub wakes : WakingCounts r s.wakes
  pub overruns : Overruns r s.overruns
  pub chains : Chains s.count s.wakes s.chains s.states
  pub agree : Agree r s.flags s.states q
  pub fine : Fine r q

-- the same, and nothing queued of an inactive task's flag
pub record Clean (r : Rig) (w : Work) : Type 0 where
  pub good : Good r w.now w.queue
  pub clear : Clear r w.now.states w.queue

-- what a serving starts from: nothing is queued of an inactive task's flag but what is served first
pub record Ready (r : Rig) (w : Work) : Type 0 where
  pub good : Good r w.now w.queue
  pub clear : Clear r w.now.states (rest w.queue)

pub sound_good : (r : Rig) (s : State) → Sound r s → Good r s []
unfolding look
sound_good r s h =
    record {
      tasks = h.tasks;
      flags = h.flags;
      conds = h.conds;
      wakes = h.wakes;
      overruns = h.overruns;
      chains = h.chains;
      agree = h.agree;
      fine = tt;
    }

pub clean_ready : (r : Rig) (w : Work) → Clean r w → Ready r w
clean_ready r w c = record { good = c.good; clear = λ t nz e. rest_absent (r.activation t) w.queue (c.clear t nz e) }

module _ (r : Rig) (ok : RigOk r) where
  pub activate_clean : (t : ℕ) (w : Work) → state_of w.now t ≡ 1 → Clean r w → Clean r (activate r t w)
  unfolding activate
  activate_clean t w h c =
      let l = w.now.states in
      let some : get_or l t 0 ≢ 0 = λ q. omega (arith, h, q) in
      record {
        good =
            record {
              tasks = tasks_move r l t 3 some (λ q. omega arith) (omega arith) c.good.tasks;
              flags = c.good.flags;
              conds = conds_relax r t w.now.conds c.good.conds;
              wakes = c.good.wakes;
              overruns = c.good.overruns;
              chains = chains_set w.now.count w.now.wakes w.now.chains l t 3 (λ q. omega (arith, h, q)) (λ q. omega arith) c.good.chains;
              agree = restate r ok t 3 w.now.flags l w.queue (in_range l t 0 h) (λ nz. c.clear t nz h) c.good.agree;
              fine = fine_push r (r.activation t) 1 w.queue (ok.activation_le t) (omega arith) c.good.fine;
            };
        clear = clear_activate r ok t l w.queue h c.clear;
      }

  offer_clean : (f t : ℕ) (w : Work) → Clean r w → Clean r (offer r f t w)
  unfolding offer
  offer_clean f t w c = go (eqb (state_of w.now t) 1) refl (ready r f t w.now)
    where
      go : (a : Bool) → eqb (state_of w.now t) 1 ≡ a → (b : Bool) → Clean r (cond (a && b) (activate r t w) w)
      go true e true = activate_clean t w (eqb-true _ 1 e) c
      go true e false = c
      go false e b = c

  pub offers_clean : (f k : ℕ) (w : Work) → Clean r w → Clean r (offers r f k w)
  unfolding offers
  offers_clean f k w c = iter_ind (λ i x. Clean r x) (offer_next r f) w c (λ i x g. offer_clean f (i + 1) x g) k

  pub wake_good : (c : Chain) (s : State) (q : List Entry) → Good r s q → Good r (wake c s) q
  unfolding wake
  wake_good c s q g =
      record {
        tasks = tasks_rouse r (s.chains c) s.states (λ t i e. omega (arith, e, g.chains.listed.two t (c, i))) g.tasks;
        flags = g.flags;
        conds = g.conds;
        wakes = g.wakes;
        overruns = g.overruns;
        chains = chains_wake s.count s.wakes s.chains s.states c g.chains;
        agree = λ t nz.
            g.agree t nz ∙ sym (rouse_same active (s.chains c) s.states (λ t i. sym (ap active (g.chains.listed.two t (c, i)))) t);
        fine = g.fine;
      }

  -- waking makes nobody inactive
  wake_clear : (c : Chain) (s : State) (q : List Entry) → Clear r s.states q → Clear r (wake c s).states q
  unfolding wake
  wake_clear c s q h t nz e = h t nz (rouse_one t (s.chains c) s.states e)

  pub takes_good : (e : Entry) (s : State) (q : List Entry) → Good r s (e ∷ q) → Good r (takes r e s) q
  unfolding takes
  takes_good e s q g =
      let f = g.fine.0 in
      record {
        tasks = g.tasks;
        flags = flags_set r s.flags e.flag e.value f.0 f.1 f.2 g.flags;
        conds = conds_drive r ok e.flag e.value f.2 s.conds g.conds;
        wakes = g.wakes;
        overruns = overruns_count r e.flag s g.tasks g.overruns;
        chains = g.chains;
        agree = popped r ok e s.flags s.states q g.flags.sized g.agree;
        fine = g.fine.1;
      }

  pub serve_flag_clean : (e : Entry) (s : State) (q : List Entry) → Good r s (e ∷ q) → Clear r s.states q → Clean r (serve_flag r e s q)
  unfolding serve_flag takes
  serve_flag_clean e s q g c =
      offers_clean e.flag 64 _
      (record {
        good = wake_good (chain_of e.flag e.value) (takes r e s) q (takes_good e s q g);
        clear = wake_clear (chain_of e.flag e.value) (takes r e s) q c;
      })

  -- THE LOOP: with room for its load it ends with an empty queue
  serving_good : (k : ℕ) (s : State) (q : List Entry) → length q + inactives s.states ≤ k → Ready r (record { now = s; queue = q })
      → Good r (serving r k s q).now []
  unfolding serving
  serving_good zero s [] h c = c.good
  serving_good zero s (e ∷ q) h c = absurd (omega arith)
  serving_good (suc k) s [] h c = c.good
  serving_good (suc k) s (e ∷ q) h c =
      let l = serve_flag_load r e s q in
      let n : Clean r (serve_flag r e s q) = serve_flag_clean e s q c.good c.clear in
      serving_good k (serve_flag r e s q).now (serve_flag r e s q).queue (omega arith) (clean_ready r (serve_flag r e s q) n)

  pub serve_good : (w : Work) → Ready r w → Good r (serve r w).now []
  unfolding serve
  serve_good w c = serving_good (load w) w.now w.queue (le_refl _) c

  -- ---- THE TEST: with nothing queued it is as an offer

  pub tested_clean : (t : ℕ) (s : State) → Good r s [] → Clean r (tested r t s)
  tested_clean t s g =
      let c : Clean r (quiet s) = record { good = g; clear = λ u nz e. tt } in
      tested_cases r t s (λ w. Clean r w) (λ e m. activate_clean t (quiet s) e c) (λ n. c)

  pub tested_ready : (t : ℕ) (s : State) → Good r s [] → Ready r (tested r t s)
  tested_ready t s g = clean_ready r (tested r t s) (tested_clean t s g)

  pub settle_good : (t : ℕ) (w : Work) → Ready r w → Good r (again r t (serve r w)).now []
  unfolding again
  settle_good zero w c = serve_good w c
  settle_good (suc t) w c = serve_good (tested r (suc t) (serve r w).now) (tested_ready (suc t) (serve r w).now (serve_good w c))
