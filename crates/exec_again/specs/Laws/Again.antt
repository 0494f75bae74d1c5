-- What is served, with the test of task t after it and what that queues: what it asks, and that it gives what the call owes.
use Rattle.std.specs.Prelude.{◌≡◌, refl, ℕ, zero, suc, ◌+◌, ◌≤◌}
use Rattle.std.proofs.Math.Path.{sym, ap, subst}
use Rattle.std.proofs.Common.{◌∙◌}
use mathlib.Core.List.{[], ◌∷◌}
use native.Mathlib.Omega.{arith}
use Rattle.chains.specs.Held as L
use Rattle.rig.specs.declared.Cycle.{Cycle}
use Rattle.rig.specs.declared.Rig.{Rig}
use Rattle.rules.specs.Rig as G
use Rattle.rules.specs.State as S
use Rattle.rules.specs.Serving.{inactives, activate, serve}
use Rattle.rules.specs.Running.{dispatch}
use Rattle.rules.specs.Calls as R
use Rattle.rules_laws.specs.Serve.{load, served_left}
use Rattle.rules_laws.specs.Testing.{tested_cases, tested_keeps, tested_load, again_le}
use Rattle.rules_laws.specs.WaitingLaws.{chains_set}
use Rattle.rules_laws.specs.Heard.{ChainsIn}
use Rattle.exec_state.specs.View.{view_of, work_of}
use Rattle.exec_state.specs.Post.{Tested}
use Rattle.exec_state.specs.Work.{Work}
use Rattle.exec_serving.specs.Post.{Servable, Emptied}
use Rattle.exec_serving.specs.Laws.Serving.{servable_push}
use Rattle.exec_serving.specs.View.{done_of, rig_in_cycle}
use Rattle.exec_serving.specs.Done.{Done}
use Rattle.exec_outcome.specs.Laws.Settling.{Settles, Settled, settled_low}
use Rattle.exec_outcome.specs.Outcome.{Outcome}

-- what is asked: what a serving asks, and a task t to be tested after it
pub record SettlesAgain (g : Rig) (w : Work) (t : ℕ) : Type 0 where
  pub first : Settles g w
  pub some : 1 ≤ t
  pub there : t ≤ 64

-- what a serving came to, and what is told of the one after it: no sum of such numbers goes out of range
pub record Small (d : Done) (o : Outcome) : Type 0 where
  pub served : d.served + o.served ≤ 79
  pub woken : d.woken + o.woken ≤ 5056
  pub activated : d.activated + o.activated ≤ 5056
  pub words : o.words ≡ 0

-- a task with a number is tested
some_load : (r : G.Rig) (t : ℕ) → 1 ≤ t → (s : S.State) → load (R.tested r t s) ≤ inactives s.states
some_load r zero b s = let z : ⊥ = omega arith in absurd z
some_load r (suc k) b s = tested_load r k s

some_again : (r : G.Rig) (t : ℕ) → 1 ≤ t → (d : S.Done) → R.further d (serve r (R.tested r t d.now)) ≡ R.again r t d
unfolding R.again
some_again r zero b d = let z : ⊥ = omega arith in absurd z
some_again r (suc k) b d = refl

module _ (g : Rig) (cycle : Cycle) (w : Work) (d : Done) (e : Emptied g cycle w.st w.queue d) (t : ℕ) (h : SettlesAgain g w t) (x : Work)
    (m : Tested d.st g t x) where
  pub again_settles : Settles g x
  unfolding activate
  again_settles =
      let r = rig_in_cycle g cycle in
      let s = view_of d.st in
      let q = sym (m.is (cycle ∷ [])) in
      record {
        begins =
            record {
              fits = h.first.begins.fits;
              room =
                  subst (λ (y : S.Work). load y ≤ 79) q
                  (omega (
                    arith,
                    some_load r t h.some s,
                    ap (λ (y : S.Done). inactives y.now.states) e.is,
                    served_left r (work_of w.st w.queue),
                    h.first.begins.room,
                  ));
              sound = subst L.HoldsChains (sym m.links) e.sound;
              chains =
                  subst (λ (y : S.Work). ChainsIn y.now) q
                  (tested_keeps r ChainsIn
                  (λ u y i c. chains_set y.now.count y.now.wakes y.now.chains y.now.states u 3 (λ z. omega (arith, i, z)) (λ z. omega arith) c)
                  t s e.chains);
              entries =
                  subst (λ (y : S.Work). Servable y.queue) q
                  (tested_cases r t s (λ y. Servable y.queue)
                  (λ i c. servable_push (r.activation t) 1 [] (h.first.begins.fits.flags t) (omega arith) tt) (λ n. tt));
            };
        low = subst (λ (y : S.Work). y.now.running ≤ 64) q (tested_keeps r (λ y. y.running ≤ 64) (λ u y i c. c) t s (settled_low g cycle w d e h.first));
      }

  module _ (o : Outcome) (f : Settled g cycle x 0 o) where
    -- what is told is what both servings came to
    further_is :
        R.reported (R.further (done_of d) (record { now = view_of o.st; served = o.served; woken = o.woken; activated = o.activated })) 0 0
        ≡ R.reported (R.again (rig_in_cycle g cycle) t (serve (rig_in_cycle g cycle) (work_of w.st w.queue))) 0 0
    unfolding R.again
    further_is =
        let r = rig_in_cycle g cycle in
        let a = f.told in
        (λ i. record {
          served = d.served + (a i).served;
          woken = d.woken + (a i).woken;
          activated = d.activated + (a i).activated;
          words = 0;
          value = 0;
        })
        ∙ ap (λ (y : S.Work). R.reported (R.further (done_of d) (serve r y)) 0 0) (m.is (cycle ∷ []))
        ∙ ap (λ (y : S.Done). R.reported y 0 0) (some_again r t h.some (done_of d) ∙ ap (R.again r t) e.is)

    -- "the number of flags it served, which is at most 79"
    pub again_small : Small d o
    unfolding R.again
    again_small =
        let n : d.served + o.served ≤ 79 =
        omega (arith, ap (λ (y : R.Report). y.served) further_is, again_le (rig_in_cycle g cycle) t (work_of w.st w.queue), h.first.begins.room) in
        record {
          served = n;
          woken = omega (arith, n, e.small.0, f.small.0);
          activated = omega (arith, n, e.small.1, f.small.1);
          words = ap (λ (y : R.Report). y.words) f.told;
        }

    pub again_is : Settled g cycle w t
        (record { st = o.st; refusal = 0; served = d.served + o.served; woken = d.woken + o.woken; activated = d.activated + o.activated; words = 0; value = 0 })
    unfolding R.again
    again_is =
        record {
          now =
              let r = rig_in_cycle g cycle in
              f.now
              ∙ ap (λ (y : S.Work). dispatch r (serve r y).now) (m.is (cycle ∷ []))
              ∙ ap (λ (y : S.Done). dispatch r y.now) (some_again r t h.some (done_of d) ∙ ap (R.again r t) e.is);
          told = further_is;
          small = (omega (arith, e.small.0, f.small.0), omega (arith, e.small.1, f.small.1));
          accepted = refl;
          sound = f.sound;
          sized = f.sized;
        }
