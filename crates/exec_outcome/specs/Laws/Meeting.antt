-- How an outcome meets what it owes: refused by 12, refused by its table, or accepted.
use Rattle.std.specs.Prelude.{◌≡◌, ◌≢◌, ◌↔◌, Bool, true, false, not, List, [], ℕ, zero, suc, Result}
use Rattle.std.specs.Result.{IsErrAnd}
use Rattle.std.proofs.Math.Path.{refl, sym, ap, subst}
use Rattle.std.proofs.Common.{◌∙◌, inr}
use Rattle.std.proofs.Math.Logic.{inl}
use Rattle.std.proofs.lemmas.Bool.{false≢true, not-false}
use Rattle.chains.specs.Held.{Sized}
use Rattle.chains.specs.Held as L
use Rattle.rig.specs.declared.Cycle.{Cycle}
use Rattle.rig.specs.declared.Rig.{Rig}
use Rattle.rules.specs.Rig as G
use Rattle.rules.specs.State as S
use Rattle.rules.specs.Calls as R
use Rattle.rules.specs.Calls.{is_tick}
use Rattle.rules.specs.Proper as P
use Rattle.rules.specs.Soundness as Rules
use Rattle.rules_laws.specs.Acceptance.{passed}
use Rattle.rules_laws.specs.Refusals.{decide_here, decide_next}
use Rattle.rules.specs.Serving.{unserved, serve}
use Rattle.rules_laws.specs.Serve.{serve_nil}
use Rattle.rules.specs.Running.{dispatch}
use Rattle.rules_laws.specs.Steps.{accepted_sound, dispatch_same}
use Rattle.exec_state.specs.View.{rig_of, view_of}
use Rattle.exec_state.specs.declared.State.{State}
use Rattle.exec_sound.specs.Sound.{SoundParts}
use Rattle.exec_sound.specs.Laws.RightRig.{rig_ok}
use Rattle.refusals.specs.declared.Refusal.{Refusal}
use Rattle.refusals.specs.Numbers.{refusal_number, some_number, handed_on}
use Rattle.exec_refusals.specs.Numbers.{not_sound_no}
use Rattle.exec_refusals.specs.Rows.{judge}
use Rattle.exec_outcome.specs.Outcome.{Outcome, telling_of, refused_by, kept_with, outcome_of, Obeys, Tells}
use Rattle.exec_outcome.specs.declared.Report.{Report}

module _ (g : Rig) (cycles : List Cycle) (s : State) (k : R.Call) where
  obeys_refused : (n : ℕ) → SoundParts g cycles s → R.refusal (rig_of g cycles) (view_of s) k ≡ suc n
      → Obeys g cycles s k (refused_by s (suc n)) (R.lent k)
  unfolding R.step R.after
  obeys_refused n h e =
      record {
        next = sym (ap (λ (m : ℕ). (R.after m (rig_of g cycles) (view_of s) k).next) e);
        answer = sym (ap (λ (m : ℕ). (R.after m (rig_of g cycles) (view_of s) k).answer) e);
        lent = sym (ap (λ (m : ℕ). (R.after m (rig_of g cycles) (view_of s) k).lent) e);
        sound = h;
      }

  refused_tells : SoundParts g cycles s → (n : ℕ) → n ≡ R.refusal (rig_of g cycles) (view_of s) k → n ≢ 0 → (o : Outcome) → o ≡ refused_by s n
      → (after : List ℕ) → after ≡ R.lent k → Tells g cycles s k o after
  refused_tells h zero e z o q after f = absurd (z refl)
  refused_tells h (suc n) e z o q after f = rw (q, f) (record { is = inl (h, obeys_refused n h (sym e)) })

  -- an accepted call: the state that it leaves shows what the rules give, its links are sound
  pub accepted_tells : SoundParts g cycles s → P.Proper k → 0 ≡ R.refusal (rig_of g cycles) (view_of s) k → (o : Outcome) (after : List ℕ)
      → o.refusal ≡ 0
      → view_of o.st ≡ (R.accepted (rig_of g cycles) (view_of s) k).next
      → telling_of o ≡ (R.accepted (rig_of g cycles) (view_of s) k).answer.report
      → after ≡ (R.accepted (rig_of g cycles) (view_of s) k).lent
      → L.HoldsChains o.st.links → Sized o.st.links
      → Tells g cycles s k o after
  unfolding R.step R.after R.accepted
  accepted_tells h q z o after c e f v l y =
      let a : R.step (rig_of g cycles) (view_of s) k ≡ R.accepted (rig_of g cycles) (view_of s) k = ap (λ (n : ℕ). R.after n (rig_of g cycles) (view_of s) k) (sym z) in
      record {
        is = inl (
          h,
          record {
            next = e ∙ sym (ap (λ (w : R.Step). w.next) a);
            answer = (λ i. record { code = c i; report = f i }) ∙ sym (ap (λ (w : R.Step). w.answer) a);
            lent = v ∙ sym (ap (λ (w : R.Step). w.lent) a);
            sound =
                record {
                  rig = h.rig;
                  links = l;
                  sized = y;
                  state =
                      subst (λ (w : S.State). Rules.Sound (rig_of g cycles) w) (sym e)
                      (accepted_sound (rig_of g cycles) (rig_ok g cycles h.rig) (view_of s) h.state k q (sym z));
                };
          },
        );
      }

-- ---- "For a call, 12 comes first, then the smallest number."

module _ (g : Rig) (cycles : List Cycle) (s : State) (sound : Bool) (is : (sound ≡ true) ↔ SoundParts g cycles s) (rows : List R.Refusal) (n : ℕ) (j : n ≡ judge sound rows) where
  -- no number: the record is sound, and the table gives none
  pub judged_sound : n ≡ 0 → SoundParts g cycles s
  judged_sound z = is.0 (not-false sound (passed 11 (not sound) rows (sym j ∙ z)).0)

  pub judged_none : n ≡ 0 → 0 ≡ R.decide rows
  judged_none z = sym (passed 11 (not sound) rows (sym j ∙ z)).1

  -- a call with this table is refused by the number
  pub judged_tells : (k : R.Call) → R.decide rows ≡ R.refusal (rig_of g cycles) (view_of s) k → n ≢ 0 → (o : Outcome) → o ≡ refused_by s n
      → (after : List ℕ) → after ≡ R.lent k → Tells g cycles s k o after
  judged_tells k e z o q after f = go sound is j
    where
      go : (b : Bool) → (b ≡ true) ↔ SoundParts g cycles s → n ≡ judge b rows → Tells g cycles s k o after
      go true h m = refused_tells g cycles s k (h.0 refl) n (m ∙ decide_next not_sound_no false rows refl ∙ e) z o q after f
      go false h m =
          record { is = inr ((λ p. false≢true (h.1 p)), q ∙ ap (refused_by s) (m ∙ decide_here not_sound_no true rows refl), f) }

-- the code has judged a call: the record is sound, and its table gives no refusal
pub record Passed (g : Rig) (cycles : List Cycle) (s : State) (rows : List R.Refusal) (k : R.Call) : Type 0 where
  pub sound : SoundParts g cycles s
  pub quiet : 0 ≡ R.decide rows
  pub none : 0 ≡ R.refusal (rig_of g cycles) (view_of s) k

pub judged_passed : (g : Rig) (cycles : List Cycle) (s : State) (sound : Bool) → (sound ≡ true) ↔ SoundParts g cycles s → (rows : List R.Refusal) (k : R.Call)
    → R.decide rows ≡ R.refusal (rig_of g cycles) (view_of s) k → 0 ≡ judge sound rows → Passed g cycles s rows k
judged_passed g cycles s sound is rows k t j =
    record {
      sound = judged_sound g cycles s sound is rows 0 j refl;
      quiet = judged_none g cycles s sound is rows 0 j refl;
      none = judged_none g cycles s sound is rows 0 j refl ∙ t;
    }

-- the code hands on the refusal that its table gave
pub refusal_tells : (g : Rig) (cycles : List Cycle) (s : State) (sound : Bool) → (sound ≡ true) ↔ SoundParts g cycles s → (rows : List R.Refusal) (k : R.Call)
    → R.decide rows ≡ R.refusal (rig_of g cycles) (view_of s) k → (r : Result Report Refusal) (e : Refusal) → IsErrAnd r (λ x. x ≡ e)
    → refusal_number e ≡ judge sound rows → (after : List ℕ) → after ≡ R.lent k → Tells g cycles s k (outcome_of s r) after
refusal_tells g cycles s sound is rows k t r e h j after f =
    rw (handed_on r e h)
    (judged_tells g cycles s sound is rows (refusal_number e) j k t (some_number e) (refused_by s (refusal_number e)) refl after f)

-- ---- calls that leave the state as it is: they queue nothing, and nobody is tested after them

module _ (g : Rig) (cycles : List Cycle) (s : State) (k : R.Call) (h : SoundParts g cycles s) (q : R.effect (rig_of g cycles) (view_of s) k ≡ R.quiet (view_of s))
    (n : R.ended (view_of s) k ≡ 0) where
  quiet_settled : R.settled (rig_of g cycles) (view_of s) k ≡ unserved (view_of s)
  unfolding R.settled R.again
  quiet_settled =
      ap (λ (t : ℕ). R.again (rig_of g cycles) t (serve (rig_of g cycles) (R.effect (rig_of g cycles) (view_of s) k))) n
      ∙ ap (serve (rig_of g cycles)) q ∙ serve_nil (rig_of g cycles) (view_of s)

  stays : view_of s ≡ (R.accepted (rig_of g cycles) (view_of s) k).next
  unfolding R.accepted
  stays = sym (ap (λ (d : S.Done). dispatch (rig_of g cycles) d.now) quiet_settled ∙ dispatch_same (rig_of g cycles) (view_of s) h.state)

  -- the state as it was, and what the call puts out
  pub kept_tells : P.Proper k → 0 ≡ R.refusal (rig_of g cycles) (view_of s) k → (v : ℕ) (o : Outcome) → o ≡ kept_with s v → (after : List ℕ)
      → R.output (rig_of g cycles) (view_of s) k ≡ record { words = 0; value = v; lent = after }
      → Tells g cycles s k o after
  unfolding R.accepted
  kept_tells p z v o f after e =
      let u : R.output (rig_of g cycles) (R.accepted (rig_of g cycles) (view_of s) k).next k ≡ record { words = 0; value = v; lent = after } =
      ap (λ (w : S.State). R.output (rig_of g cycles) w k) (sym stays) ∙ e in
      rw f
      (accepted_tells g cycles s k h p z (kept_with s v) after refl stays
      (λ i. R.reported (sym quiet_settled i) (sym u i).words (sym u i).value)
      (λ i. (sym u i).lent) h.links h.sized)

-- ---- calls that answer only what the serving came to, and lend nothing

abbrev pub Silent : R.Call → Type 0
Silent (R.schedule t) = Unit {0}
Silent (R.cancel t) = Unit {0}
Silent (R.terminate t) = Unit {0}
Silent R.finish = Unit {0}
Silent (R.tick buffer) = ⊥
Silent (R.wait_until t) = Unit {0}
Silent (R.wait_for n) = Unit {0}
Silent (R.latched f v) = Unit {0}
Silent (R.unlatched f v) = Unit {0}
Silent (R.signal f v) = Unit {0}
Silent (R.read_flag f) = ⊥
Silent (R.read_block k area buffer) = ⊥
Silent (R.write_block k area buffer) = ⊥
Silent R.next_waking = ⊥
Silent (R.read_overruns t) = ⊥
Silent (R.why_not t d) = ⊥

pub silent_ticks : (k : R.Call) → Silent k → is_tick k ≡ false
unfolding is_tick
silent_ticks (R.schedule t) h = refl
silent_ticks (R.cancel t) h = refl
silent_ticks (R.terminate t) h = refl
silent_ticks R.finish h = refl
silent_ticks (R.tick buffer) h = absurd h
silent_ticks (R.wait_until t) h = refl
silent_ticks (R.wait_for n) h = refl
silent_ticks (R.latched f v) h = refl
silent_ticks (R.unlatched f v) h = refl
silent_ticks (R.signal f v) h = refl
silent_ticks (R.read_flag f) h = absurd h
silent_ticks (R.read_block k area buffer) h = absurd h
silent_ticks (R.write_block k area buffer) h = absurd h
silent_ticks R.next_waking h = absurd h
silent_ticks (R.read_overruns t) h = absurd h
silent_ticks (R.why_not t d) h = absurd h

pub silent_lent : (k : R.Call) → Silent k → [] ≡ R.lent k
unfolding R.lent
silent_lent (R.schedule t) h = refl
silent_lent (R.cancel t) h = refl
silent_lent (R.terminate t) h = refl
silent_lent R.finish h = refl
silent_lent (R.tick buffer) h = absurd h
silent_lent (R.wait_until t) h = refl
silent_lent (R.wait_for n) h = refl
silent_lent (R.latched f v) h = refl
silent_lent (R.unlatched f v) h = refl
silent_lent (R.signal f v) h = refl
silent_lent (R.read_flag f) h = absurd h
silent_lent (R.read_block k area buffer) h = absurd h
silent_lent (R.write_block k area buffer) h = absurd h
silent_lent R.next_waking h = absurd h
silent_lent (R.read_overruns t) h = absurd h
silent_lent (R.why_not t d) h = absurd h

pub silent_output : (r : G.Rig) (s : S.State) (k : R.Call) → Silent k → R.output r s k ≡ R.silent
unfolding R.output
silent_output r s (R.schedule t) h = refl
silent_output r s (R.cancel t) h = refl
silent_output r s (R.terminate t) h = refl
silent_output r s R.finish h = refl
silent_output r s (R.tick buffer) h = absurd h
silent_output r s (R.wait_until t) h = refl
silent_output r s (R.wait_for n) h = refl
silent_output r s (R.latched f v) h = refl
silent_output r s (R.unlatched f v) h = refl
silent_output r s (R.signal f v) h = refl
silent_output r s (R.read_flag f) h = absurd h
silent_output r s (R.read_block k area buffer) h = absurd h
silent_output r s (R.write_block k area buffer) h = absurd h
silent_output r s R.next_waking h = absurd h
silent_output r s (R.read_overruns t) h = absurd h
silent_output r s (R.why_not t d) h = absurd h
