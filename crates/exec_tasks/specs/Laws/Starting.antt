-- The start: what the code does, and that it is what the rules' start gives.
use Rattle.std.specs.Prelude.{◌≡◌, ◌⊎◌, List, [], ◌∷◌, ℕ, ◌≤◌}
use Rattle.std.proofs.Common.{sym, ◌∙◌, arith}
use Rattle.std.proofs.Math.Path.{ap, subst}
use Rattle.std.proofs.lemmas.List.{length-replicate}
use Rattle.chains.specs.Held as L
use Rattle.rig.specs.Rules.{Right}
use Rattle.rig.specs.declared.Cycle.{Cycle}
use Rattle.rig.specs.declared.Rig.{Rig}
use Rattle.rules.specs.State as S
use Rattle.rules.specs.Serving.{serve}
use Rattle.rules.specs.Running.{dispatch}
use Rattle.rules.specs.Calls as R
use Rattle.rules.specs.Soundness as Rules
use Rattle.rules_laws.specs.Serve.{load}
use Rattle.rules_laws.specs.Bound.{scheduled_load}
use Rattle.rules_laws.specs.Steps.{started_ready, start_sound}
use Rattle.rules_laws.specs.Heard.{ChainsIn}
use Rattle.rules_laws.specs.Heeding.{start_by_list}
use Rattle.exec_queue.specs.View.{minor_of}
use Rattle.exec_state.specs.View.{rig_of, view_of, work_of}
use Rattle.exec_state.specs.Post.{Blank, Scheduled}
use Rattle.exec_serving.specs.Post.{Servable}
use Rattle.exec_serving.specs.View.{rig_in_cycle}
use Rattle.exec_state.specs.declared.State.{State}
use Rattle.exec_state.specs.Work.{Work}
use Rattle.exec_sound.specs.Sound.{SoundParts}
use Rattle.exec_sound.specs.Laws.RightRig.{rig_ok}
use Rattle.exec_outcome.specs.Outcome.{Outcome, telling_of, answer_in}
use Rattle.exec_outcome.specs.Laws.Settling.{Settles, empty_cycle, Settled, fits, servable, effect_low, empty_plain}

-- the rules' start: the state that the record shows, what the serving came to; the record is sound
pub record Began (g : Rig) (cycles : List Cycle) (o : Outcome) : Type 0 where
  pub next : view_of o.st ≡ R.start (rig_of g cycles)
  pub answer : answer_in o ≡ record { code = 0; report = R.reported (R.started (rig_of g cycles)) 0 0 }
  pub sound : SoundParts g cycles o.st

-- or 4 where the rig breaks a rule
pub record Begins (g : Rig) (cycles : List Cycle) (o : Outcome) : Type 0 where
  pub is : (Right g cycles × Began g cycles o) ⊎ ((Right g cycles → ⊥) × (o.refusal ≡ 4))

module _ (g : Rig) (cycles : List Cycle) (h : Right g cycles) (s : State) (b : Blank s) (w : Work) (m : Scheduled s g 1 w) where
  start_work : work_of w.st w.queue ≡ R.scheduled (rig_of g cycles) S.blank 1
  start_work = m.is cycles ∙ ap (λ (v : S.State). R.scheduled (rig_of g cycles) v 1) b.is

  blank_low : (R.scheduled (rig_of g cycles) S.blank 1).now.running ≤ 64
  unfolding S.blank R.effect
  blank_low = effect_low (rig_of g cycles) S.blank (omega arith) (R.schedule 1)

  blank_load : load (R.scheduled (rig_of g cycles) S.blank 1) ≤ 79
  unfolding S.blank
  blank_load = scheduled_load (rig_of g cycles) S.blank (length-replicate {A = ℕ} 65 0) 1

  pub start_settles : Settles g w
  start_settles =
      let c = (started_ready (rig_of g cycles) (rig_ok g cycles h)).good in
      record {
        begins =
            record {
              fits = fits g cycles h;
              room = subst (λ (y : S.Work). load y ≤ 79) (sym start_work) blank_load;
              sound = subst L.HoldsChains (sym m.links) b.sound;
              chains = subst (λ (y : S.Work). ChainsIn y.now) (sym start_work) c.chains;
              entries =
                  subst (λ (y : S.Work). Servable y.queue) (sym start_work)
                  (servable (rig_of g cycles) h.flag_count.1 (R.scheduled (rig_of g cycles) S.blank 1).queue c.fine);
            };
        low = subst (λ (y : S.Work). y.now.running ≤ 64) (sym start_work) blank_low;
      }

  pub began_is : (o : Outcome) → Settled g empty_cycle w 0 o → Began g cycles o
  unfolding R.start R.again dispatch
  began_is o k =
      let d : serve (rig_in_cycle g empty_cycle) (work_of w.st w.queue) ≡ R.started (rig_of g cycles) =
      ap (serve (rig_in_cycle g empty_cycle)) start_work ∙ start_by_list (rig_of g cycles) (rig_ok g cycles h) (minor_of (empty_cycle ∷ [])) empty_plain in
      let e : view_of o.st ≡ R.start (rig_of g cycles) = k.now ∙ ap (λ (y : S.Done). dispatch (rig_of g cycles) y.now) d in
      let t : telling_of o ≡ R.reported (R.started (rig_of g cycles)) 0 0 = k.told ∙ ap (λ (y : S.Done). R.reported y 0 0) d in
      record {
        next = e;
        answer = λ i. record { code = k.accepted i; report = t i };
        sound =
            record {
              rig = h;
              links = k.sound;
              sized = k.sized;
              state = subst (λ (y : S.State). Rules.Sound (rig_of g cycles) y) (sym e) (start_sound (rig_of g cycles) (rig_ok g cycles h));
            };
      }
