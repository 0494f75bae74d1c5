-- What a call came to, as the next record and the answer, meets what the call owes.
use Rattle.std.specs.Prelude.{◌≡◌, refl, ◌≢◌, List, ℕ, zero, suc, Result, Ok, Err}
use Rattle.std.proofs.Common.{sym, ⊎_elim, inr, arith}
use Rattle.std.proofs.Math.Path.{ap}
use Rattle.std.proofs.Math.Logic.{inl}
use Rattle.rules.specs.Rig as G
use Rattle.rules.specs.State as S
use Rattle.rules.specs.Calls as R
use Rattle.exec_outcome.specs.Outcome.{Outcome, outcome_of, Tells}
use Rattle.exec.specs.Sound.{rig_in, view, SoundRecord}
use Rattle.exec.specs.Call.{Meets, ProperAnswer, report_of, answer_of, with_state, refuse}
use Rattle.refusals.specs.declared.Refusal.{Refusal}
use Rattle.refusals.specs.Numbers.{refusal_number, some_number}
use Rattle.exec_state.specs.declared.State.{State}
use Rattle.exec.specs.Laws.Made.{answer_from, report_from, step_from, answer_made}
use Rattle.exec.specs.declared.Exec.{Exec}
use Rattle.exec_outcome.specs.declared.Report.{Report}
use Rattle.exec.specs.declared.Answer.{Answer}
use Rattle.exec.specs.declared.Answer.TheVariants.{Accepted, Refused}

-- what is told of a refused call is nothing
pub refused_tells_nothing : (r : G.Rig) (s : S.State) (k : R.Call) → (R.step r s k).answer.code ≢ 0 → (R.step r s k).answer.report ≡ R.nothing
unfolding R.step R.after R.accepted
refused_tells_nothing r s k = go (R.refusal r s k)
  where
    go : (n : ℕ) → (R.after n r s k).answer.code ≢ 0 → (R.after n r s k).answer.report ≡ R.nothing
    go zero z = absurd (z refl)
    go (suc n) z = refl

-- the answer gives the number and what is told, where a number other than 0 tells nothing
pub same_answer : (n : ℕ) (p : Report) (a : R.Answer) → record { code = n; report = report_of p } ≡ a
    → (a.code ≢ 0 → a.report ≡ R.nothing) → answer_of (answer_from n p) ≡ a
same_answer zero p a e f = e
same_answer (suc n) p a e f =
    let c : suc n ≡ a.code = λ i. (e i).code in
    let t = f (λ z. omega (arith, c, z)) in
    λ i. record { code = c i; report = sym t i }

-- an answer's case by its number
pub answer_refused : (n : ℕ) (p : Report) → n ≢ 0 → Refused n ≡ answer_from n p
answer_refused zero p z = absurd (z refl)
answer_refused (suc n) p z = refl

pub answer_accepted : (n : ℕ) (p : Report) → n ≡ 0 → Accepted p ≡ answer_from n p
answer_accepted n p z = sym (ap (λ (m : ℕ). answer_from m p) z)

pub proper_answer : (n : ℕ) (p : Report) → ProperAnswer (answer_from n p)
proper_answer zero p = tt
proper_answer (suc n) p = λ q. omega arith

module _ (x : Exec) (k : R.Call) where
  pub tells_meets : (o : Outcome) (after : List ℕ) → Tells x.rig x.cycles x.st k o after → Meets x k (step_from x o) after
  tells_meets o after t =
      ⊎_elim
      (λ p. record {
        is = inl (
          p.0,
          record {
            next = p.1.next;
            answer = same_answer o.refusal (report_from o) _ p.1.answer (refused_tells_nothing (rig_in x) (view x) k);
            lent = p.1.lent;
            proper = proper_answer o.refusal (report_from o);
            rig = refl;
            cycles = refl;
            sound = p.1.sound;
          },
        );
      })
      (λ p. record {
        is = inr (
          p.0,
          record {
            exec = λ i. with_state x (p.1 i).st;
            answer = ap (λ (w : Outcome). answer_of (answer_from w.refusal (report_from w))) p.1;
          },
          p.2,
        );
      })
      t.is

  -- so does the record with the state that the call left, and the answer that is made of what it tells or of its refusal
  pub told_meets : (s : State) (t : Result Report Refusal) (after : List ℕ) → Tells x.rig x.cycles x.st k (outcome_of s t) after
      → Meets x k (record { exec = with_state x s; answer = answer_made t }) after
  told_meets s (Ok p) after h = tells_meets (outcome_of s (Ok p)) after h
  told_meets s (Err r) after h =
      let m = tells_meets (outcome_of s (Err r)) after h in
      rw (answer_refused (refusal_number r) (report_from (outcome_of s (Err r))) (some_number r)) m

  -- a sound record that is refused by its table
  pub refused : SoundRecord x → (n : ℕ) → suc n ≡ R.refusal (rig_in x) (view x) k → Meets x k (refuse x (suc n)) (R.lent k)
  unfolding R.step R.after
  refused h n e =
      record {
        is = inl (
          h,
          record {
            next = ap (λ (m : ℕ). (R.after m (rig_in x) (view x) k).next) e;
            answer = ap (λ (m : ℕ). (R.after m (rig_in x) (view x) k).answer) e;
            lent = ap (λ (m : ℕ). (R.after m (rig_in x) (view x) k).lent) e;
            proper = λ q. omega arith;
            rig = refl;
            cycles = refl;
            sound = h;
          },
        );
      }
