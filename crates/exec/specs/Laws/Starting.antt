-- What a start owes fixes it, and what the code does meets it.
use Rattle.std.specs.Prelude.{◌≡◌, refl, ◌≢◌, ◌⊎◌, List, ℕ}
use Rattle.std.proofs.Common.{sym, ◌∙◌, ap, subst, ⊎_elim, inl, inr, arith}
use Rattle.rig.specs.Rules.{Right}
use Rattle.rig.specs.Forms.{cycles_of}
use Rattle.rig.specs.declared.Cycle.{Cycle}
use Rattle.rig.specs.declared.Rig.{Rig}
use Rattle.rules.specs.Calls as R
use Rattle.exec.specs.Sound.{SoundRecord}
use Rattle.exec_refusals.specs.Numbers.{not_sound_no}
use Rattle.exec_outcome.specs.Outcome.{Outcome}
use Rattle.exec_tasks.specs.Laws.Starting.{Began, Begins}
use Rattle.exec.specs.Call.{Meets, Refuses, answer_of, refuse}
use Rattle.exec.specs.Laws.Unique.{record_same, answer_same, refuses_is}
use Rattle.exec.specs.Laws.Made.{answer_from, report_from}
use Rattle.exec.specs.Laws.Meeting.{proper_answer}
use Rattle.exec.specs.declared.Step.{Step}
use Rattle.exec.specs.Starting.{no_exec, broken_rig, Started, Starts}

-- THE STATEMENT FIXES THE RESULT
started_same : (g : Rig) (cycles : List Cycle) (r s : Step) → Started g cycles r → Started g cycles s → r ≡ s
started_same g cycles r s a b =
    let e : r.exec ≡ s.exec =
    record_same r.exec s.exec a.sound b.sound (a.rig ∙ sym b.rig) (a.cycles ∙ sym b.cycles) (a.next ∙ sym b.next) in
    let w : r.answer ≡ s.answer = answer_same r.answer s.answer a.proper b.proper (a.answer ∙ sym b.answer) in
    λ i. record { exec = e i; answer = w i }

pub starts_same : (g : Rig) (table : List (List ℕ)) (r s : Step) → Starts g table r → Starts g table s → r ≡ s
starts_same g table r s a b =
    ⊎_elim
    (λ p. ⊎_elim (λ q. started_same g (cycles_of table) r s p.1 q.1) (λ q. absurd (q.0 p.0)) b.is)
    (λ p. ⊎_elim (λ q. absurd (p.0 q.0)) (λ q. four r p.1 ∙ sym (four s q.1)) b.is)
    a.is
  where
    four : (w : Step) → Refuses no_exec broken_rig w → w ≡ refuse no_exec broken_rig
    four w h = refuses_is no_exec broken_rig (λ z. omega arith) w h

-- "which every call refuses by 12"
pub zeros_unsound : SoundRecord no_exec → ⊥
zeros_unsound h = omega (arith, h.rig.task_count.0)

pub zeros_refused : (k : R.Call) (r : Step) (after : List ℕ) → Meets no_exec k r after → (r ≡ refuse no_exec not_sound_no) × (after ≡ R.lent k)
zeros_refused k r after m =
    ⊎_elim (λ p. absurd (zeros_unsound p.0)) (λ p. (refuses_is no_exec not_sound_no (λ z. omega arith) r p.1, p.2)) m.is

-- ---- what the code does: the cycles as the record has them, and the start of its parts

module _ (g : Rig) (table : List (List ℕ)) (rows : List Cycle) (e : rows ≡ cycles_of table) (o : Outcome) (b : Begins g rows o) where
  -- a number: the rig breaks a rule, and the number is 4
  pub refused_start : o.refusal ≢ 0 → (r : Step) → r ≡ record { exec = no_exec; answer = answer_from o.refusal (report_from o) } → Starts g table r
  refused_start n r q =
      ⊎_elim
      (λ p. absurd (n (λ i. (p.1.answer i).code)))
      (λ p. record {
        is = inr (
          (λ h. p.0 (subst (Right g) (sym e) h)),
          record {
            exec = ap (λ (w : Step). w.exec) q;
            answer = ap (λ (w : Step). answer_of w.answer) q ∙ ap (λ (m : ℕ). answer_of (answer_from m (report_from o))) p.1;
          },
        );
      })
      b.is

  began_started : Began g rows o → Started g rows (record { exec = record { rig = g; cycles = rows; st = o.st }; answer = answer_from o.refusal (report_from o) })
  began_started w =
      let a = w.answer in
      record {
        next = w.next;
        answer = ap (λ (m : ℕ). answer_of (answer_from m (report_from o))) (λ i. (a i).code) ∙ (λ i. record { code = 0; report = (a i).report });
        proper = proper_answer o.refusal (report_from o);
        rig = refl;
        cycles = refl;
        sound = w.sound;
      }

  -- none: the rules' start
  pub accepted_start : o.refusal ≡ 0 → (r : Step)
      → r ≡ record { exec = record { rig = g; cycles = rows; st = o.st }; answer = answer_from o.refusal (report_from o) } → Starts g table r
  accepted_start n r q =
      ⊎_elim
      (λ p. record { is = inl (subst (Right g) e p.0, subst (λ (l : List Cycle). Started g l r) e (rw q (began_started p.1))) })
      (λ p. absurd (omega (arith, n, p.1)))
      b.is
