-- FOR THE READER: what a call's statement comes to.
use Rattle.std.specs.Prelude.{◌≡◌, refl, ◌≢◌, ◌⊎◌, ◌↔◌, Bool, true, false, cond, List, [], ◌∷◌, ℕ, zero, suc, ◌≤◌, ◌<◌, eqb, ltb, get_or}
use Rattle.std.proofs.Common.{sym, ap, ◌∙◌, subst, ⊎_elim, arith, eqb-true, ltb-true, ltb-false}
use Rattle.std.proofs.lemmas.Bool.{eqb-false}
use Rattle.laws.specs.Cases.{by}
use Rattle.rules.specs.Rig as G
use Rattle.rules.specs.State as S
use Rattle.rules.specs.State.{inactive}
use Rattle.rules.specs.Starting.{most_links, lowest_blocking}
use Rattle.rules.specs.Calls as R
use Rattle.rules.specs.NextWaking.{LowestWaking, lowest_waking}
use Rattle.rules.specs.Reasons.{NoSuch}
use Rattle.rules_laws.specs.Refusals.{code_is}
use Rattle.rules_laws.specs.Starting.{why_step}
use Rattle.rules_laws.specs.RefusedExactly.{refused_exactly}
use Rattle.rules_laws.specs.NextWaking.{lowest_is, asked_step}
use Rattle.rules_laws.specs.Counted.{read_refused, read_step}
use Rattle.exec_refusals.specs.Numbers.{not_sound_no}
use Rattle.exec.specs.Sound.{rig_in, view, SoundRecord}
use Rattle.exec.specs.Call.{Follows, Meets, answer_of, refuse}
use Rattle.exec.specs.Laws.Unique.{record_same, refuses_is, meets_same}
use Rattle.exec.specs.Laws.Meeting.{refused}
use Rattle.exec.specs.declared.Exec.{Exec}
use Rattle.exec.specs.declared.Step.{Step}
use Rattle.exec.specs.declared.Answer.{Answer}

-- no row of a call's table has a number above 11
abbrev pub Low : List R.Refusal → Type 0
Low [] = Unit {0}
Low (x ∷ xs) = (x.number ≤ 11) × Low xs

decide_low : (xs : List R.Refusal) → Low xs → R.decide xs ≤ 11
unfolding R.decide
decide_low [] h = omega arith
decide_low (x ∷ xs) h = go x.given (decide_low xs h.1)
  where
    go : (b : Bool) → R.decide xs ≤ 11 → cond b x.number (R.decide xs) ≤ 11
    go true k = h.0
    go false k = k

low : (r : G.Rig) (s : S.State) (k : R.Call) → Low (R.refusals r s k)
unfolding R.refusals
low r s (R.schedule t) = (omega arith, (omega arith, (omega arith, (omega arith, tt))))
low r s (R.cancel t) = (omega arith, (omega arith, (omega arith, (omega arith, tt))))
low r s (R.terminate t) = (omega arith, (omega arith, (omega arith, (omega arith, tt))))
low r s R.finish = (omega arith, tt)
low r s (R.tick buffer) = (omega arith, (omega arith, tt))
low r s (R.wait_until t) = (omega arith, (omega arith, tt))
low r s (R.wait_for n) = (omega arith, (omega arith, tt))
low r s (R.latched f v) = (omega arith, (omega arith, (omega arith, tt)))
low r s (R.unlatched f v) = (omega arith, (omega arith, (omega arith, tt)))
low r s (R.signal f v) = (omega arith, (omega arith, (omega arith, tt)))
low r s (R.read_flag f) = (omega arith, (omega arith, (omega arith, tt)))
low r s (R.read_block k area buffer) = (omega arith, (omega arith, (omega arith, tt)))
low r s (R.write_block k area buffer) = (omega arith, (omega arith, (omega arith, tt)))
low r s R.next_waking = tt
low r s (R.read_overruns t) = (omega arith, tt)
low r s (R.why_not t d) = (omega arith, (omega arith, (omega arith, tt)))

pub refusal_low : (r : G.Rig) (s : S.State) (k : R.Call) → R.refusal r s k ≤ 11
unfolding R.refusal
refusal_low r s k = decide_low (R.refusals r s k) (low r s k)

module _ (x : Exec) (k : R.Call) (r : Step) (after : List ℕ) (m : Meets x k r after) where
  -- 12: "the record handed in is not sound", and for nothing else
  pub twelve_exactly : ((answer_of r.answer).code ≡ 12) ↔ (SoundRecord x → ⊥)
  twelve_exactly = (
    (λ e. ⊎_elim
        (λ p. absurd (omega (arith, e, ap (λ (a : R.Answer). a.code) p.1.answer, code_is (rig_in x) (view x) k, refusal_low (rig_in x) (view x) k)))
        (λ p. p.0) m.is),
    (λ n. ⊎_elim (λ p. absurd (n p.0)) (λ p. ap (λ (a : R.Answer). a.code) p.1.answer) m.is),
  )

  -- any other number, 0 for accepted among them: of a sound record, and it is the table's
  pub ruled_exactly : (n : ℕ) → n ≢ 12 → ((answer_of r.answer).code ≡ n) ↔ (SoundRecord x × (R.refusal (rig_in x) (view x) k ≡ n))
  ruled_exactly n z = (
    (λ e. ⊎_elim (λ p. (p.0, sym (ap (λ (a : R.Answer). a.code) p.1.answer ∙ code_is (rig_in x) (view x) k) ∙ e))
        (λ p. absurd (z (sym e ∙ ap (λ (a : R.Answer). a.code) p.1.answer))) m.is),
    (λ w. ⊎_elim (λ p. ap (λ (a : R.Answer). a.code) p.1.answer ∙ code_is (rig_in x) (view x) k ∙ w.1) (λ p. absurd (p.0 w.0)) m.is),
  )

  -- "A refused call returns the record unchanged and writes nothing"
  pub refused_unchanged : SoundRecord x → (n : ℕ) → R.refusal (rig_in x) (view x) k ≡ suc n → (r ≡ refuse x (suc n)) × (after ≡ R.lent k)
  refused_unchanged h n e =
      meets_same x k r (refuse x (suc n)) after (R.lent k) m
      (refused x k h n (sym e))

  -- "every call keeps it so"
  pub stays_sound : SoundRecord x → SoundRecord r.exec
  stays_sound h = ⊎_elim (λ p. p.1.sound) (λ p. absurd (p.0 h)) m.is

  -- the rig and its cycles are what they were
  pub rig_kept : (r.exec.rig ≡ x.rig) × (r.exec.cycles ≡ x.cycles)
  rig_kept =
      ⊎_elim (λ p. (p.1.rig, p.1.cycles)) (λ p. (ap (λ (y : Exec). y.rig) p.1.exec, ap (λ (y : Exec). y.cycles) p.1.exec)) m.is

-- "When does the bench next wake someone?", asked of a sound record: the record is what it was, no flag is served, and the number that is told
-- is "the lowest waking count among tasks waiting on time; none exactly when no task so waits"
pub record Answered (x : Exec) (r : Step) : Type 0 where
  pub same : r.exec ≡ x
  pub answer : answer_of r.answer ≡ record { code = 0; report = R.value_only (lowest_waking (view x)) }
  pub lowest : LowestWaking (view x) (answer_of r.answer).report.value

pub asked : (x : Exec) (r : Step) (after : List ℕ) → Meets x R.next_waking r after → SoundRecord x → Answered x r
asked x r after m h = ⊎_elim (λ p. go p.1) (λ p. absurd (p.0 h)) m.is
  where
    go : Follows x R.next_waking r after → Answered x r
    go f =
        let e = asked_step (rig_in x) (view x) h.state in
        let a = f.answer ∙ ap (λ (s : R.Step). s.answer) e in
        record {
          same = record_same r.exec x f.sound h f.rig f.cycles (f.next ∙ ap (λ (s : R.Step). s.next) e);
          answer = a;
          lowest = subst (LowestWaking (view x)) (sym (ap (λ (b : R.Answer). b.report.value) a)) (lowest_is (rig_in x) (view x) h.state);
        }

-- 12: an unsound record is refused, and is what it was
pub asked_unsound : (x : Exec) (r : Step) (after : List ℕ) → Meets x R.next_waking r after → (SoundRecord x → ⊥) → r ≡ refuse x not_sound_no
asked_unsound x r after m n =
    ⊎_elim (λ p. absurd (n p.0)) (λ p. refuses_is x not_sound_no (λ z. omega arith) r p.1) m.is

-- A task's number of overruns, asked of a sound record: the record is what it was, no flag is served, and what is told is the task's number in
-- the record
pub record OverrunsAnswered (x : Exec) (t : ℕ) (r : Step) : Type 0 where
  pub same : r.exec ≡ x
  pub answer : answer_of r.answer ≡ record { code = 0; report = R.value_only (get_or x.st.overruns t 0) }

module _ (x : Exec) (t : ℕ) (r : Step) (after : List ℕ) (m : Meets x (R.read_overruns t) r after) where
  -- "A call reads it for any task, with no running task needed."
  pub overruns_asked : SoundRecord x → 1 ≤ t → t ≤ x.rig.tasks → OverrunsAnswered x t r
  overruns_asked h a b = ⊎_elim (λ p. go p.1) (λ p. absurd (p.0 h)) m.is
    where
      go : Follows x (R.read_overruns t) r after → OverrunsAnswered x t r
      go f =
          let e = read_step (rig_in x) (view x) h.state t a b in
          record {
            same = record_same r.exec x f.sound h f.rig f.cycles (f.next ∙ ap (λ (s : R.Step). s.next) e);
            answer = f.answer ∙ ap (λ (s : R.Step). s.answer) e;
          }

  -- "Refusals: 12, then 6": 12 as of every call (twelve_exactly), 6 of a sound record where there is no such task, and for nothing else
  pub six_exactly : ((answer_of r.answer).code ≡ 6) ↔ (SoundRecord x × NoSuch x.rig.tasks t)
  six_exactly =
      let six = (refused_exactly (rig_in x) (view x) (R.read_overruns t)).six in
      let q = ruled_exactly x (R.read_overruns t) r after m 6 (λ z. omega arith) in
      ((λ e. ((q.0 e).0, (six.0 (q.0 e).1).0)), (λ w. q.1 (w.0, six.1 (w.1, λ z. absurd z))))

  -- and then the record is what it was
  pub six_unchanged : SoundRecord x → NoSuch x.rig.tasks t → r ≡ refuse x 6
  six_unchanged h n =
      (refused_unchanged x (R.read_overruns t) r after m h 5 (read_refused (rig_in x) (view x) t n)).0

-- "Why won't it start?", asked of a sound record: the record is what it was, no flag is served, and what is told is the position of the lowest
-- condition that blocks within d links, 16 for none
pub record WhyAnswered (x : Exec) (t d : ℕ) (r : Step) : Type 0 where
  pub same : r.exec ≡ x
  pub answer : answer_of r.answer ≡ record { code = 0; report = R.value_only (lowest_blocking (rig_in x) (view x) d t) }

-- "Refusals: 12, then 6, then 8 if the task isn't inactive, then 11 for d above 3": 12 as of every call (twelve_exactly), the others of a sound
-- record, and for nothing else
pub record WhyRefused (x : Exec) (t d : ℕ) (r : Step) : Type 0 where
  pub six : ((answer_of r.answer).code ≡ 6) ↔ (SoundRecord x × NoSuch x.rig.tasks t)
  pub eight : ((answer_of r.answer).code ≡ 8) ↔ (SoundRecord x × (NoSuch x.rig.tasks t → ⊥) × (get_or x.st.state t 0 ≢ inactive))
  pub eleven : ((answer_of r.answer).code ≡ 11)
      ↔ (SoundRecord x × (NoSuch x.rig.tasks t → ⊥) × (get_or x.st.state t 0 ≡ inactive) × (most_links < d))
  pub none : ((answer_of r.answer).code ≡ 0)
      ↔ (SoundRecord x × (NoSuch x.rig.tasks t → ⊥) × (get_or x.st.state t 0 ≡ inactive) × (d ≤ most_links))

module _ (x : Exec) (t d : ℕ) (r : Step) (after : List ℕ) (m : Meets x (R.why_not t d) r after) where
  why_ruled : (n : ℕ) → n ≢ 12 → ((answer_of r.answer).code ≡ n) ↔ (SoundRecord x × (R.refusal (rig_in x) (view x) (R.why_not t d) ≡ n))
  why_ruled = ruled_exactly x (R.why_not t d) r after m

  -- what is accepted is told
  pub why_answered : (answer_of r.answer).code ≡ 0 → WhyAnswered x t d r
  why_answered c =
      let w = (why_ruled 0 (λ z. omega arith)).0 c in
      let h = w.0 in
      let e = why_step (rig_in x) (view x) h.state t d w.1 in
      ⊎_elim
      (λ p. record {
        same = record_same r.exec x p.1.sound h p.1.rig p.1.cycles (p.1.next ∙ ap (λ (s : R.Step). s.next) e);
        answer = p.1.answer ∙ ap (λ (s : R.Step). s.answer) e;
      })
      (λ p. absurd (p.0 h)) m.is

  pub why_refused : WhyRefused x t d r
  why_refused =
      let w = refused_exactly (rig_in x) (view x) (R.why_not t d) in
      let six = why_ruled 6 (λ z. omega arith) in
      let eight = why_ruled 8 (λ z. omega arith) in
      let eleven = why_ruled 11 (λ z. omega arith) in
      let none = why_ruled 0 (λ z. omega arith) in
      record {
        six = ((λ e. ((six.0 e).0, (w.six.0 (six.0 e).1).0)), (λ k. six.1 (k.0, w.six.1 (k.1, λ z. absurd z))));
        eight = (
          (λ e. let q = w.eight.0 (eight.0 e).1 in ((eight.0 e).0, q.2, q.0)),
          (λ k. eight.1 (k.0, w.eight.1 (k.2, (λ z. absurd z), k.1, λ z. absurd z))),
        );
        eleven = (
          (λ e. let q = w.eleven.0 (eleven.0 e).1 in ((eleven.0 e).0, q.2, is_inactive_lem q.4, q.0)),
          (λ k. eleven.1 (k.0, w.eleven.1 (k.3, (λ z. absurd z), k.1, (λ z. absurd z), (λ z. z k.2), (λ z. absurd z), λ z. absurd z))),
        );
        none = (
          (λ e. let q = w.none.0 (none.0 e).1 in ((none.0 e).0, q.1, is_inactive_lem q.3, not_above q.6)),
          (λ k. none.1
              (k.0, w.none.1 ((λ z. absurd z), k.1, (λ z. absurd z), (λ z. z k.2), (λ z. absurd z), (λ z. absurd z), λ z. omega (arith, z, k.3)))),
        );
      }
    where
      is_inactive_lem : (get_or x.st.state t 0 ≢ inactive → ⊥) → get_or x.st.state t 0 ≡ inactive
      is_inactive_lem n = by (eqb (get_or x.st.state t 0) inactive) (λ e. eqb-true _ _ e) (λ e. absurd (n (eqb-false _ _ e)))

      not_above : (most_links < d → ⊥) → d ≤ most_links
      not_above n = by (ltb most_links d) (λ e. absurd (n (ltb-true _ _ e))) (λ e. ltb-false _ _ e)

  -- whatever is answered, the record is what it was
  pub why_same : r.exec ≡ x
  why_same = ⊎_elim (λ p. go p.0 (R.refusal (rig_in x) (view x) (R.why_not t d)) refl) (λ p. p.1.exec) m.is
    where
      go : SoundRecord x → (n : ℕ) → R.refusal (rig_in x) (view x) (R.why_not t d) ≡ n → r.exec ≡ x
      go h zero e = (why_answered ((why_ruled 0 (λ z. omega arith)).1 (h, e))).same
      go h (suc n) e = ap (λ (s : Step). s.exec) (refused_unchanged x (R.why_not t d) r after m h n e).0
