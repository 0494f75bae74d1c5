-- FOR THE READER: what a host may rely on, from what it is told.
use Rattle.std.specs.Prelude.{◌≡◌, refl, ◌≢◌, ◌↔◌, List, ℕ, zero, suc}
use Rattle.std.proofs.Common.{sym, ap, subst, ◌∙◌, ⊎_elim}
use Rattle.rules.specs.Calls as R
use Rattle.rules_laws.specs.Refusals.{code_is}
use Rattle.rig_meaning.proofs.Reading.{read_of}
use Rattle.exec.specs.Sound.{rig_in, view, SoundRecord}
use Rattle.exec.specs.Call.{answer_of, refuse}
use Rattle.exec.specs.Starting.{no_exec}
use Rattle.exec.specs.Laws.Starting.{zeros_refused}
use Rattle.exec.specs.Laws.Promises.{twelve_exactly, refused_unchanged, stays_sound}
use Rattle.exec.specs.declared.Exec.{Exec}
use Rattle.exec.specs.declared.Step.{Step}
use Rattle.host_replies.specs.Told.{coded, Replies, StartRepliesFrom}
use Rattle.host_replies.specs.declared.Reply.{Reply}
use Rattle.host_replies.specs.declared.Coded.{Coded}

-- the numbers of a step of the rules
abbrev pub numbers_of : R.Step → Reply
numbers_of s =
    record {
      refusal = s.answer.code;
      line = 0;
      served = s.answer.report.served;
      words = s.answer.report.words;
      value = s.answer.report.value;
      count = s.next.count;
      running = s.next.running;
      woken = s.answer.report.woken;
      activated = s.answer.report.activated;
    }

module _ (x : Exec) (k : R.Call) (r : Coded) (after : List ℕ) (p : Replies x k r after) where
  number : r.reply.refusal ≡ (answer_of p.step.answer).code
  number = ap (λ (c : Coded). c.reply.refusal) p.told

  same_record : r.exec ≡ p.step.exec
  same_record = ap (λ (c : Coded). c.exec) p.told

  -- of a sound record, a host is told the numbers of the rules' step, and its buffer holds that step's words
  pub told_rules : SoundRecord x → (r.reply ≡ numbers_of (R.step (rig_in x) (view x) k)) × (after ≡ (R.step (rig_in x) (view x) k).lent)
  told_rules h =
      ⊎_elim
      (λ m.
      let f = m.1 in
      let e : (coded p.step).reply ≡ numbers_of (R.step (rig_in x) (view x) k) =
      λ i. numbers_of (record { next = f.next i; answer = f.answer i; lent = after }) in
      (ap (λ (c : Coded). c.reply) p.told ∙ e, f.lent))
      (λ m. absurd (m.0 h))
      p.meets.is

  -- "A refused call returns the record unchanged and writes nothing"
  pub refused_keeps : r.reply.refusal ≢ 0 → (r.exec ≡ x) × (after ≡ R.lent k)
  refused_keeps n =
      ⊎_elim
      (λ m. of_sound m.0 (R.refusal (rig_in x) (view x) k) (ap (λ (a : R.Answer). a.code) m.1.answer ∙ code_is (rig_in x) (view x) k) refl)
      (λ m. (same_record ∙ m.1.exec, m.2))
      p.meets.is
    where
      of_sound : SoundRecord x → (c : ℕ) → (answer_of p.step.answer).code ≡ c → R.refusal (rig_in x) (view x) k ≡ c → (r.exec ≡ x) × (after ≡ R.lent k)
      of_sound h zero e f = absurd (n (number ∙ e))
      of_sound h (suc c) e f =
          let u = refused_unchanged x k p.step after p.meets h c f in
          (same_record ∙ ap (λ (s : Step). s.exec) u.0, u.1)

  -- 12: "the record handed in is not sound", and for nothing else
  pub twelve_told : (r.reply.refusal ≡ 12) ↔ (SoundRecord x → ⊥)
  twelve_told =
      let t = twelve_exactly x k p.step after p.meets in
      ((λ e. t.0 (sym number ∙ e)), (λ h. number ∙ t.1 h))

  -- "every call keeps it so"
  pub keeps_sound : SoundRecord x → SoundRecord r.exec
  keeps_sound h = subst SoundRecord (sym same_record) (stays_sound x k p.step after p.meets h)

-- "a record of all zeros, which every call refuses by 12"
pub zeros_told : (k : R.Call) (r : Coded) (after : List ℕ) → Replies no_exec k r after → (r ≡ coded (refuse no_exec 12)) × (after ≡ R.lent k)
zeros_told k r after p =
    let z = zeros_refused k p.step after p.meets in
    (p.told ∙ ap coded z.0, z.1)

module _ (file : List ℕ) (r : Coded) (p : StartRepliesFrom file r) where
  -- a start is accepted exactly when its file is: no accepted file is refused by 4 afterwards
  pub start_accepted : (r.reply.refusal ≡ 0) ↔ ((read_of file).no ≡ 0)
  start_accepted = (
    (λ e. ⊎_elim (λ q. q.0) (λ q. sym (ap (λ (c : Coded). c.reply.refusal) q.1) ∙ e) p.is),
    (λ e. ⊎_elim (λ q. ap (λ (c : Coded). c.reply.refusal) q.1.told ∙ ap (λ (a : R.Answer). a.code) q.1.started.answer) (λ q. absurd (q.0 e)) p.is),
  )

  -- a fresh record is sound
  pub start_sound : r.reply.refusal ≡ 0 → SoundRecord r.exec
  start_sound e =
      ⊎_elim
      (λ q. subst SoundRecord (sym (ap (λ (c : Coded). c.exec) q.1.told)) q.1.started.sound)
      (λ q. absurd (q.0 (start_accepted.0 e)))
      p.is

  -- "a refused start returns a record of all zeros"
  pub start_refused : r.reply.refusal ≢ 0 → r.exec ≡ no_exec
  start_refused n =
      ⊎_elim (λ q. absurd (n (start_accepted.1 q.0))) (λ q. ap (λ (c : Coded). c.exec) q.1) p.is
