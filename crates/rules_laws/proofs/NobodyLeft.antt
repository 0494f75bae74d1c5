-- L3: NOBODY IS LEFT, after every call and over any run (the calls are those of specs/NobodyLeft.antt).
use Rattle.std.specs.Prelude.{◌≡◌, refl, ◌≢◌, ◌⊎◌, Bool, ◌&&◌, eqb, leb, length, set}
use Rattle.std.proofs.Math.Path.{sym, ap}
use Rattle.std.proofs.Common.{◌∙◌, inl, inr, true≢false, arith, eqb-true, eq-eqb, length-set, get_or-set_same, get_or-set_other}
use Rattle.std.proofs.Math.Bool.{true, false, cond}
use mathlib.Core.List.{List, [], ◌∷◌}
use Prim.Native.Nat.{ℕ, zero, suc, ◌+◌, ◌≤◌, ◌<◌}
use Rattle.std.proofs.Math.ListN.{get_or}
use Rattle.std.proofs.lemmas.List.{length-replicate}
use Rattle.laws.specs.Cases.{by, dec_eq, and_true}
use Rattle.laws.specs.Laws.Stores.{stores_keep}
use Rattle.laws.specs.Laws.Tables.{in_range, was_there, zeros}
use Rattle.laws.specs.Members.{keep}
use Rattle.rules.specs.Rig.{Rig, place_of}
use Rattle.rules.specs.RigOk.{RigOk}
use Rattle.rules.specs.State.{time_chain, chain_of, State, Work, Entry, state_of, value_of, inactive, blank}
use Rattle.rules.specs.Conditions.{met, drive, names}
use Rattle.rules.specs.Serving.{activate, takes, wake, ready, serve_flag, serving, serve}
use Rattle.rules.specs.Waiting.{wait_on, wait_until_count, is_due, wake_due}
use Rattle.rules.specs.Family.{family, is_marked, cleared}
use Rattle.rules.specs.Running.{dispatch}
use Rattle.rules.specs.Calls.{Call, schedule, cancel, terminate, finish, tick, wait_until, wait_for, latched, unlatched, signal, read_flag, read_block, write_block, next_waking, read_overruns, why_not}
use Rattle.rules.specs.Calls.{tested, scheduled, finished, terminated, cancelled, ticked, effect, ended, again, settled, refusal, accepted, after, step, run, started, start}
use Rattle.rules.specs.Proper.{ProperRun}
use Rattle.rules_laws.specs.ConditionLaws.{met_is, met_same, same_task, driven_not, names_is}
use Rattle.rules_laws.specs.Rousing.{rouse_one}
use Rattle.rules_laws.specs.Lengths.{rouse_length}
use Rattle.rules_laws.specs.Offering.{met_other, called, offers_states, offers_changed, offers_tests}
use Rattle.rules_laws.specs.Testing.{tested_cases}
use Rattle.rules_laws.specs.Heard.{service_up}
use Rattle.rules_laws.specs.Made.{up_same}
use Rattle.rules_laws.specs.Activation.{AsDesired}
use Rattle.rules_laws.specs.Steps.{always}
use Rattle.rules_laws.specs.NobodyLeft.{NobodyLeft, Calm, settle_calm, scheduled_calm, effect_calm}

module _ (r : Rig) (ok : RigOk r) (s : State) (c : Calm r 0 s) where
  -- EVERY CALL, accepted or refused, leaves nobody
  step_calm : (k : Call) → Calm r 0 (step r s k).next
  unfolding step after accepted settled dispatch
  step_calm k = go (refusal r s k)
    where
      go : (n : ℕ) → Calm r 0 (after n r s k).next
      go zero = settle_calm r ok (ended s k) (effect r s k) (effect_calm r ok s c k)
      go (suc n) = c

-- ---- runs

module _ (r : Rig) (ok : RigOk r) where
  blank_calm : Calm r 0 blank
  unfolding blank
  blank_calm = (length-replicate {A = ℕ} 65 0, (λ u z n i. absurd (omega (arith, i, zeros 65 u))))

  start_calm : Calm r 0 (start r)
  unfolding start started again dispatch
  start_calm = settle_calm r ok 0 (scheduled r blank 1) (scheduled_calm r ok blank blank_calm 1)

  run_calm : (ks : List Call) (s : State) → Calm r 0 s → Calm r 0 (run r s ks)
  unfolding run
  run_calm [] s c = c
  run_calm (k ∷ ks) s c = run_calm ks (step r s k).next (step_calm r ok s c k)

  -- the test says what the words say
  desired_met : (t : ℕ) (conds : List ℕ) → AsDesired r t conds → met r.present r.desired t conds ≡ true
  desired_met t conds d = (met_is r.present r.latched r.desired t conds).1 (λ p l. go p l (dec_eq (r.present (place_of t p)) 1))
    where
      go : (p : ℕ) → p < 16 → Dec (r.present (place_of t p) ≡ 1) → (r.present (place_of t p) ≢ 1) ⊎ (get_or conds (place_of t p) 0 ≡ r.desired (place_of t p))
      go p l (yes e) = inr (d p l e)
      go p l (no e) = inl e

  -- THE THEOREM, after any run from an accepted start, refused calls among it
  pub nobody_left : (ks : List Call) → ProperRun ks → NobodyLeft r (run r (start r) ks)
  nobody_left ks p t i d =
      let z : t ≢ 0 = λ q. omega (arith, ((always r ok ks p).tasks.within t (λ k. omega (arith, i, k))).0, q) in
      true≢false (sym (desired_met t (run r (start r) ks).conds d) ∙ (run_calm ks (start r) start_calm).1 t z z i)
