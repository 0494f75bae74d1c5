-- THE STATEMENT FIXES THE RESULT: two results that meet what a call owes are equal.
use Rattle.std.specs.Prelude.{◌≡◌, refl, ◌≢◌, ◌⊎◌, ◌↔◌, Bool, true, false, List, ℕ}
use Rattle.std.proofs.Common.{sym, ◌∙◌, ap, subst, ⊎_elim, arith}
use Rattle.chains.specs.Held.{Held, Sized}
use Rattle.chains.specs.Held as Links
use Rattle.chains.specs.Read.{chains_of}
use Rattle.chains.specs.Laws.Read.{sound_chains}
use Rattle.chains.specs.Laws.Unique.{held_same}
use Rattle.rules.specs.State as S
use Rattle.rules.specs.Calls as R
use Rattle.exec_family.proofs.Laws.Anchors.{named_all}
use Rattle.exec_state.specs.View.{view_of}
use Rattle.exec_state.specs.declared.State.{State}
use Rattle.exec_refusals.specs.Numbers.{not_sound_no}
use Rattle.exec.specs.Sound.{view, SoundRecord}
use Rattle.exec.specs.Call.{Follows, Meets, ProperAnswer, Refuses, answer_of, refuse}
use Rattle.exec.specs.declared.Exec.{Exec}
use Rattle.exec_outcome.specs.declared.Report.{Report}
use Rattle.exec.specs.declared.Step.{Step}
use Rattle.exec.specs.declared.Answer.{Answer}
use Rattle.exec.specs.declared.Answer.TheVariants.{Accepted, Refused}

-- what a state shows fixes it
pub state_same : (s t : State) → Sized s.links → Sized t.links → Links.HoldsChains s.links → Links.HoldsChains t.links → view_of s ≡ view_of t
    → s ≡ t
state_same s t y z a b e =
    let c : chains_of s.links ≡ chains_of t.links = named_all s.links t.links (ap (λ (v : S.State). v.chains) e) in
    let l : s.links ≡ t.links =
    held_same s.links t.links y z (chains_of t.links)
    (subst (λ (X : ℕ → List ℕ). Held s.links X) c (sound_chains s.links a)) (sound_chains t.links b) in
    λ i. record {
      count = (e i).count;
      value = (e i).flags;
      cond = (e i).conds;
      state = (e i).states;
      wake = (e i).wakes;
      overruns = (e i).overruns;
      links = l i;
      running = (e i).running;
    }

-- so does what a sound record shows, with its rig and cycles
pub record_same : (x y : Exec) → SoundRecord x → SoundRecord y → x.rig ≡ y.rig → x.cycles ≡ y.cycles → view x ≡ view y → x ≡ y
record_same x y a b g c e =
    let s = state_same x.st y.st a.sized b.sized a.links b.links e in
    λ i. record { rig = g i; cycles = c i; st = s i }

pub report_same : (p q : Report) → answer_of (Accepted p) ≡ answer_of (Accepted q) → p ≡ q
report_same p q e =
    λ i. record {
      served = (e i).report.served;
      woken = (e i).report.woken;
      activated = (e i).report.activated;
      words = (e i).report.words;
      value = (e i).report.value;
    }

-- an answer's number and values fix it
pub answer_same : (a b : Answer) → ProperAnswer a → ProperAnswer b → answer_of a ≡ answer_of b → a ≡ b
answer_same (Accepted m) (Accepted n) p q e = ap Accepted (report_same m n e)
answer_same (Accepted m) (Refused n) p q e = absurd (q (sym (ap (λ (r : R.Answer). r.code) e)))
answer_same (Refused m) (Accepted n) p q e = absurd (p (ap (λ (r : R.Answer). r.code) e))
answer_same (Refused m) (Refused n) p q e = ap Refused (ap (λ (r : R.Answer). r.code) e)

-- what a refusal says fixes the step
refused_same : (n : ℕ) → n ≢ 0 → (a : Answer) → answer_of a ≡ record { code = n; report = R.nothing } → a ≡ Refused n
refused_same n z (Accepted p) e = absurd (z (sym (ap (λ (r : R.Answer). r.code) e)))
refused_same n z (Refused m) e = ap Refused (ap (λ (r : R.Answer). r.code) e)

pub refuses_is : (x : Exec) (n : ℕ) → n ≢ 0 → (r : Step) → Refuses x n r → r ≡ refuse x n
refuses_is x n z r h =
    let w = refused_same n z r.answer h.answer in
    λ i. record { exec = h.exec i; answer = w i }

follows_same : (x : Exec) (k : R.Call) (r s : Step) (u v : List ℕ) → Follows x k r u → Follows x k s v → (r ≡ s) × (u ≡ v)
follows_same x k r s u v a b =
    let e : r.exec ≡ s.exec =
    record_same r.exec s.exec a.sound b.sound (a.rig ∙ sym b.rig) (a.cycles ∙ sym b.cycles) (a.next ∙ sym b.next) in
    let w : r.answer ≡ s.answer = answer_same r.answer s.answer a.proper b.proper (a.answer ∙ sym b.answer) in
    ((λ i. record { exec = e i; answer = w i }), a.lent ∙ sym b.lent)

pub meets_same : (x : Exec) (k : R.Call) (r s : Step) (u v : List ℕ) → Meets x k r u → Meets x k s v → (r ≡ s) × (u ≡ v)
meets_same x k r s u v a b =
    ⊎_elim
    (λ p. ⊎_elim (λ q. follows_same x k r s u v p.1 q.1) (λ q. absurd (q.0 p.0)) b.is)
    (λ p. ⊎_elim (λ q. absurd (p.0 q.0)) (λ q. (twelve r p.1 ∙ sym (twelve s q.1), p.2 ∙ sym q.2)) b.is)
    a.is
  where
    twelve : (w : Step) → Refuses x not_sound_no w → w ≡ refuse x not_sound_no
    twelve w h = refuses_is x not_sound_no (λ z. omega arith) w h

-- so does what `sound` answers: two answers to one question are equal
pub sound_same : (x : Exec) (a b : Bool) → (a ≡ true) ↔ SoundRecord x → (b ≡ true) ↔ SoundRecord x → a ≡ b
sound_same x true true f g = refl
sound_same x true false f g = sym (g.1 (f.0 refl))
sound_same x false true f g = f.1 (g.0 refl)
sound_same x false false f g = refl
