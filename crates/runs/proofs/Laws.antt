-- Runs of the code keep to the rules; demand 3 of the code, and the waking clause.
use Rattle.std.specs.Prelude.{◌≡◌, ◌≢◌, ◌⊎◌, ◌↔◌, Bool, ◌&&◌, length}
use Rattle.std.proofs.Math.Path.{refl, sym, ap, subst}
use Rattle.std.proofs.Common.{◌∙◌, inl, inr, ⊎_elim, add-zero, suc-add, add-suc}
use Rattle.std.proofs.Math.Bool.{true, cond}
use mathlib.Core.List.{List, [], ◌∷◌, ◌++◌, reverse}
use Prim.Native.Nat.{ℕ, suc, ◌+◌, ◌-◌, ◌*◌, ◌≤◌, ◌<◌, min}
use native.Mathlib.Omega.{arith}
use Rattle.std.proofs.Math.Dec.{eqb}
use Rattle.std.proofs.Math.ListN.{take, length-append}
use borrow.Author.Tests.{lt-leb, eqb-true}
use Rattle.laws.specs.Bits.{bit}
use Rattle.laws.specs.Cases.{by, by_bool, and_true}
use Rattle.laws.specs.Tables.{total, sum}
use Rattle.laws.specs.Laws.Sums.{sum_same, sum_first, round_mod}
use Rattle.laws.specs.Members.{In, Distinct}
use Rattle.laws.specs.Ordered.{Ordered}
use Rattle.chains.specs.Read.{chains_of}
use Rattle.chains.specs.Laws.Read.{chains_at, sound_chains, read_backward}
use Rattle.rig.specs.Rules.{Right, periods}
use Rattle.rig.specs.Forms.{cycles_of}
use Rattle.rig.specs.declared.Rig.{Rig}
use Rattle.rules.specs.Rig as G
use Rattle.rules.specs.RigOk.{RigOk}
use Rattle.rules.specs.State as S
use Rattle.rules.specs.State.{Chain, time_chain, chain_of, inactive, waiting}
use Rattle.rules.specs.Serving.{most_overruns, made, serve}
use Rattle.rules.specs.Soundness.{IsChain, Sound}
use Rattle.rules.specs.Calls as R
use Rattle.rules.specs.Calls.{is_tick, tick, wait_until, wait_for, next_waking, read_overruns, why_not, no_such_one, refusal}
use Rattle.rules.specs.Reasons.{NoSuch}
use Rattle.rules.specs.Proper.{ProperRun}
use Rattle.rules_laws.specs.Acceptance.{there_is}
use Rattle.rules_laws.specs.Refusals.{code_is, refused_unchanged}
use Rattle.rules_laws.specs.RefusedExactly.{is_no_such}
use Rattle.rules_laws.specs.Counted.{counted_since}
use Rattle.rules_laws.specs.Steps.{step_sound, run_sound}
use Rattle.rules_laws.specs.Bound.{served_79, start_served}
use Rattle.rules_laws.specs.Demand.{flag_on, waits_in_one}
use Rattle.rules.specs.History.{History, until_count, begins, noted_if, history, never, history_of, InOrder}
use Rattle.rules.specs.History as H
use Rattle.rules_laws.specs.InOrder.{chains_in_order}
use Rattle.rules.specs.Waking.{Struck}
use Rattle.rules.specs.Overruns.{Event, events_if, events_from, start_events, events_of, overruns_counted}
use Rattle.rules.specs.Starting.{lowest_blocking}
use Rattle.rules.specs.WhyNot.{LowestBlocking}
use Rattle.rules.specs.Bus.{row_due, row_words, bus_words}
use Rattle.rules.specs.Frame.{due_in, commands_to, commands_in}
use Rattle.rules_laws.specs.Frame.{AllTimed, due_times, quotient, frame_round, due_next, bus_at, row_speaks, words_of_cycle, commands_times, times_is, step_count, tick_sends}
use Rattle.rules_laws.specs.Starting.{lowest_blocking_lem, larger}
use Rattle.rules_laws.specs.Ticking.{is_tick_lem}
use Rattle.rules_laws.specs.Waking.{Spared}
use Rattle.rules_laws.specs.Waking as W
use Rattle.rules_laws.specs.WakingLaws as WL
use Rattle.rules_laws.specs.NextWaking.{in_time, OnlyBegins, run_counts, waking_in_range}
use Rattle.rules_laws.specs.WayThere.{way_there}
use Rattle.rules_laws.specs.Activation.{BySchedule, ByService, activated_by_lem}
use Rattle.rules_laws.specs.AtMost.{finish_most, terminate_most}
use Rattle.rules_laws.specs.NobodyLeft as NL
use Rattle.rules_laws.proofs.NobodyLeft.{nobody_left as never_left}
use Rattle.rules_laws.specs.Heard.{WaitedOn, by_test, says, heard_few, signal_leaves, signal_untested, start_heard}
use Rattle.exec_family.specs.Anchors.{anchor_of}
use Rattle.exec_family.proofs.Laws.Anchors.{anchor_low, anchor_high}
use Rattle.exec_state.specs.View.{rig_of}
use Rattle.exec.specs.Sound.{rig_in, view, SoundRecord}
use Rattle.exec.specs.Call.{Follows, Meets, Refuses, answer_of}
use Rattle.exec.specs.Laws.Unique.{record_same}
use Rattle.exec.specs.Laws.Meeting.{refused_tells_nothing}
use Rattle.exec_sound.specs.Laws.RightRig.{rig_ok}
use Rattle.exec.specs.Laws.Promises.{twelve_exactly, Answered, asked, overruns_asked, six_exactly, six_unchanged, why_answered, why_refused, why_same}
use Rattle.exec.specs.Starting.{Started, no_exec, broken_rig}
use Rattle.runs.specs.Runs.{Made, MadeOn, Ran, calls_of, code_of, served_of, woken_of, activated_of, told_by, AcceptedStart, noting, history_in, happening, events_in, SparedIn, NoneSoonerIn, is_accepted_tick, ticks_in, count_made, handed_out}
use Rattle.runs.specs.Demands.{Stands, Chained, Activated, Bounded, Demand, Wakes, forward_in, state_in, wake_in, OnTime, Told, leaves, Comes, by_test_in, Hears, Heard, NobodyLeft, AtMost, Overran, OverrunsTold, WhyTold, row_in, due_at, words_of_rows, HandsOut, InARow, Wired, SpokenTo}
use Rattle.exec.specs.declared.Exec.{Exec}
use Rattle.exec.specs.declared.Step.{Step}

-- ---- a refused call hands back the very record, and lent words as they were: of any record, sound or not

pub refused_same : (x : Exec) (k : R.Call) (r : Step) (after : List ℕ) → Meets x k r after → code_of r ≢ 0
    → (r.exec ≡ x) × (after ≡ R.lent k)
refused_same x k r after m n =
    ⊎_elim
    (λ p.
    let f = p.1 in
    let u = refused_unchanged (rig_in x) (view x) k (λ q. n (ap (λ (a : R.Answer). a.code) f.answer ∙ q)) in
    (record_same r.exec x f.sound p.0 f.rig f.cycles (f.next ∙ u.0), f.lent ∙ u.1))
    (λ p. (p.1.exec, p.2))
    m.is

-- ---- a record that shows the state s of the rules' rig r, and is sound

record Shows (r : G.Rig) (s : S.State) (x : Exec) : Type 0 where
  sound : SoundRecord x
  rig : rig_in x ≡ r
  state : view x ≡ s

-- what a call that is made on it gives
record Gives (r : G.Rig) (s : S.State) (x : Exec) (m : Made) : Type 0 where
  next : Shows r (R.step r s m.call).next m.step.exec
  rig : m.step.exec.rig ≡ x.rig
  cycles : m.step.exec.cycles ≡ x.cycles
  answer : answer_of m.step.answer ≡ (R.step r s m.call).answer
  lent : m.after ≡ (R.step r s m.call).lent

-- L11: a tick that made the count c, and handed out its words; ticks that made one count after the other, from c on
record TickAt (r : G.Rig) (c : ℕ) (m : Made) : Type 0 where
  made : count_made m ≡ c
  sent : handed_out m ≡ R.words_at r c

Ticks : G.Rig → ℕ → List Made → Type 0
Ticks r c [] = Unit {0}
Ticks r c (m ∷ ms) = TickAt r c m × Ticks r (suc c) ms

module _ (r : G.Rig) where
  ticks_front : (c : ℕ) (xs ys : List Made) → Ticks r c (xs ++ ys) → Ticks r c xs
  unfolding Ticks
  ticks_front c [] ys t = tt
  ticks_front c (x ∷ xs) ys t = (t.0, ticks_front (suc c) xs ys t.1)

  ticks_behind : (c : ℕ) (xs ys : List Made) → Ticks r c (xs ++ ys) → Ticks r (c + length xs) ys
  unfolding Ticks
  ticks_behind c [] ys t = subst (λ (n : ℕ). Ticks r n ys) (sym (add-zero c)) t
  ticks_behind c (x ∷ xs) ys t = subst (λ (n : ℕ). Ticks r n ys) (suc-add c (length xs) ∙ sym (add-suc c (length xs))) (ticks_behind (suc c) xs ys t.1)

  -- what stands in a row among them
  in_a_row : (c : ℕ) (ms window : List Made) → Ticks r c (ticks_in ms) → InARow ms window → (d : ℕ) × Ticks r d window
  in_a_row c ms window t w =
      (c + length w.0, ticks_front _ window w.1 (ticks_behind c w.0 (window ++ w.1) (subst (Ticks r c) w.2 t)))

  -- a sum over them is one over their counts
  ticks_sum : (g : Made → ℕ) (f : ℕ → ℕ) → ((c : ℕ) (m : Made) → TickAt r c m → g m ≡ f c)
      → (c : ℕ) (l : List Made) → Ticks r c l → total g l ≡ sum (length l) (λ i. f (c + i))
  unfolding Ticks total sum
  ticks_sum g f h c [] t = refl
  ticks_sum g f h c (m ∷ l) t =
      let first = sum_first (length l) (λ i. f (c + i)) in
      let further = sum_same (length l) (λ i. f (suc c + i)) (λ i. f (c + suc i)) (λ i b. ap f (suc-add c i ∙ sym (add-suc c i))) in
      omega (arith, h c m t.0, ticks_sum g f h (suc c) l t.1, first, further, ap f (add-zero c))

  gives : (s : S.State) (x : Exec) → Shows r s x → (m : Made) → MadeOn x m → Gives r s x m
  gives s x h m o = ⊎_elim (λ p. go p.1) (λ p. absurd (p.0 h.sound)) o.meets.is
    where
      go : Follows x m.call m.step m.after → Gives r s x m
      go f =
          record {
            next =
                record {
                  sound = f.sound;
                  rig = (λ i. rig_of (f.rig i) (f.cycles i)) ∙ h.rig;
                  state = f.next ∙ (λ i. (R.step (h.rig i) (h.state i) m.call).next);
                };
            rig = f.rig;
            cycles = f.cycles;
            answer = f.answer ∙ (λ i. (R.step (h.rig i) (h.state i) m.call).answer);
            lent = f.lent ∙ (λ i. (R.step (h.rig i) (h.state i) m.call).lent);
          }

  code_same : (s : S.State) (x : Exec) → Shows r s x → (m : Made) → MadeOn x m → code_of m.step ≡ refusal r s m.call
  code_same s x h m o = ap (λ (a : R.Answer). a.code) (gives s x h m o).answer ∙ code_is r s m.call

  ran_shows : (s : S.State) (x : Exec) → Shows r s x → (ms : List Made) (y : Exec) → Ran x ms y → Shows r (R.run r s (calls_of ms)) y
  unfolding R.run
  ran_shows s x h [] y e = subst (λ (z : Exec). Shows r s z) e h
  ran_shows s x h (m ∷ ms) y p = ran_shows (R.step r s m.call).next m.step.exec (gives s x h m p.0).next ms y p.1

  ran_rig : (s : S.State) (x : Exec) → Shows r s x → (ms : List Made) (y : Exec) → Ran x ms y → (y.rig ≡ x.rig) × (y.cycles ≡ x.cycles)
  ran_rig s x h [] y e = (ap (λ (z : Exec). z.rig) (sym e), ap (λ (z : Exec). z.cycles) (sym e))
  ran_rig s x h (m ∷ ms) y p =
      let g = gives s x h m p.0 in
      let k = ran_rig (R.step r s m.call).next m.step.exec g.next ms y p.1 in
      (k.0 ∙ g.rig, k.1 ∙ g.cycles)

  -- the history that is read off the run is that of the rules
  noting_same : (s : S.State) (x : Exec) → Shows r s x → (ms : List Made) (y : Exec) → Ran x ms y → (n : ℕ) (h : History)
      → noting x n ms h ≡ history r s n (calls_of ms) h
  unfolding noting history
  noting_same s x w [] y e n h = refl
  noting_same s x w (m ∷ ms) y p n h =
      (λ i. noting m.step.exec (suc n) ms (noted_if n (code_same s x w m p.0 i) (w.state i) m.call h))
      ∙ noting_same (R.step r s m.call).next m.step.exec (gives s x w m p.0).next ms y p.1 (suc n)
      (noted_if n (refusal r s m.call) s m.call h)

  happening_same : (s : S.State) (x : Exec) → Shows r s x → (ms : List Made) (y : Exec) → Ran x ms y → (h : List Event)
      → happening x ms h ≡ events_from r s (calls_of ms) h
  unfolding happening events_from
  happening_same s x w [] y e h = refl
  happening_same s x w (m ∷ ms) y p h =
      (λ i. happening m.step.exec ms (events_if (code_same s x w m p.0 i) (w.rig i) (w.state i) m.call h))
      ∙ happening_same (R.step r s m.call).next m.step.exec (gives s x w m p.0).next ms y p.1
      (events_if (refusal r s m.call) r s m.call h)

  spared_same : (s : S.State) (x : Exec) → Shows r s x → (ms : List Made) (y : Exec) → Ran x ms y → (t : ℕ) → SparedIn x ms t
      → Spared r s (calls_of ms) t
  unfolding Spared
  spared_same s x h [] y e t q = tt
  spared_same s x h (m ∷ ms) y p t q = (
    (λ k. q.0 (subst (λ (v : S.State). Struck (rig_in x) v m.call t) (sym h.state) (subst (λ (g : G.Rig). Struck g s m.call t) (sym h.rig) k))),
    spared_same (R.step r s m.call).next m.step.exec (gives s x h m p.0).next ms y p.1 t q.1,
  )

  sooner_same : (s : S.State) (x : Exec) → Shows r s x → (ms : List Made) (y : Exec) → Ran x ms y → (c : ℕ) → NoneSoonerIn x c ms
      → OnlyBegins (λ (d : ℕ). c ≤ d) r s (calls_of ms)
  unfolding OnlyBegins
  sooner_same s x h [] y e c q = tt
  sooner_same s x h (m ∷ ms) y p c q = (
    (λ d e b. q.0 d (code_same s x h m p.0 ∙ e) (ap (λ (v : S.State). begins v m.call) h.state ∙ b)),
    sooner_same (R.step r s m.call).next m.step.exec (gives s x h m p.0).next ms y p.1 c q.1,
  )

  -- L11: the accepted ticks make one count after the other, and hand out the words of the count that they make
  ticks_rise : (s : S.State) (x : Exec) → Shows r s x → (ms : List Made) (y : Exec) → Ran x ms y → Ticks r (suc s.count) (ticks_in ms)
  unfolding ticks_in Ticks
  ticks_rise s x h [] y e = tt
  ticks_rise s x h (m ∷ ms) y p =
      let g = gives s x h m p.0 in
      let rest = ticks_rise (R.step r s m.call).next m.step.exec g.next ms y p.1 in
      let risen : (R.step r s m.call).next.count ≡ cond (is_accepted_tick m) (suc s.count) s.count =
      step_count r s m.call ∙ ap (λ (n : ℕ). cond (is_tick m.call && eqb n 0) (suc s.count) s.count) (sym (code_same s x h m p.0)) in
      by_bool (is_accepted_tick m) (λ b. Ticks r (suc s.count) (cond b (m ∷ ticks_in ms) (ticks_in ms)))
      (λ e.
      let count = risen ∙ ap (λ (b : Bool). cond b (suc s.count) s.count) e in
      (sent s x h m p.0 e count, subst (λ (n : ℕ). Ticks r (suc n) (ticks_in ms)) count rest))
      (λ e. subst (λ (n : ℕ). Ticks r (suc n) (ticks_in ms)) (risen ∙ ap (λ (b : Bool). cond b (suc s.count) s.count) e) rest)
    where
      sent : (s : S.State) (x : Exec) → Shows r s x → (m : Made) → MadeOn x m → is_accepted_tick m ≡ true → (R.step r s m.call).next.count ≡ suc s.count
          → TickAt r (suc s.count) m
      sent s x h m o e count =
          let both = and_true (is_tick m.call) (eqb (code_of m.step) 0) e in
          let t = is_tick_lem m.call both.0 in
          let g = gives s x h m o in
          let free : refusal r s m.call ≡ 0 = sym (code_same s x h m o) ∙ eqb-true (code_of m.step) 0 both.1 in
          record {
            made = ap (λ (u : S.State). u.count) g.next.state ∙ count;
            sent =
                (λ i. take (g.answer i).report.words (g.lent i))
                ∙ subst (λ (k : R.Call). refusal r s k ≡ 0 → take (R.step r s k).answer.report.words (R.step r s k).lent ≡ R.words_at r (R.step r s k).next.count)
                (sym t.1) (tick_sends r s t.0) free
                ∙ ap (R.words_at r) count;
          }

ran_proper : (x : Exec) (ms : List Made) (y : Exec) → Ran x ms y → ProperRun (calls_of ms)
ran_proper x [] y e = tt
ran_proper x (m ∷ ms) y p = (p.0.proper, ran_proper m.step.exec ms y p.1)

-- a run is one run and then another: so what is said of a run's last record is said of all its records
pub ran_split : (x : Exec) (ms ns : List Made) (z : Exec) → Ran x (ms ++ ns) z → (y : Exec) × Ran x ms y × Ran y ns z
ran_split x [] ns z p = (x, refl, p)
ran_split x (m ∷ ms) ns z p = let k = ran_split m.step.exec ms ns z p.1 in (k.0, (p.0, k.1), k.2)

-- ---- what a sound record says, one sentence each

module _ (y : Exec) (h : SoundRecord y) where
  ok : RigOk (rig_in y)
  ok = rig_ok y.rig y.cycles h.rig

  sound_12 : (m : Made) → MadeOn y m → code_of m.step ≢ 12
  sound_12 m o e = (twelve_exactly y m.call m.step m.after o.meets).0 e h

  sound_79 : Bounded y
  sound_79 m o =
      let a = (gives (rig_in y) (view y) y (record { sound = h; rig = refl; state = refl }) m o).answer in
      omega (arith, ap (λ (z : R.Answer). z.report.served) a, served_79 (rig_in y) (view y) h.state.tasks.sized m.call)

  sound_activated : Activated y
  sound_activated t n = flag_on (rig_in y) ok (view y) h.state t n

  read : (c : Chain) → IsChain c → (view y).chains c ≡ forward_in y c
  read c a = chains_at y.st.links (anchor_of c) (anchor_low c a) (anchor_high c a)

  sound_waits : (t : ℕ) → (state_in y t ≡ 2) ↔ ((c : Chain) × IsChain c × In t (forward_in y c) × ((d : Chain) → IsChain d → In t (forward_in y d) → d ≡ c))
  sound_waits t =
      let w = waits_in_one (rig_in y) ok (view y) h.state t in (
        (λ e.
            let k = w.0 e in
            let a = h.state.chains.only t k.0 k.1 in
            (k.0, a, subst (In t) (read k.0 a) k.1, (λ d b i. k.2 d (subst (In t) (sym (read d b)) i)))),
        (λ k. h.state.chains.listed.two t (k.0, subst (In t) (sym (read k.0 k.1)) k.2)),
      )

-- ---- L2: whom a call on a sound record woke

module _ (y : Exec) (h : SoundRecord y) (m : Made) (o : MadeOn y m) where
  shows_itself : Shows (rig_in y) (view y) y
  shows_itself = record { sound = h; rig = refl; state = refl }

  given : Gives (rig_in y) (view y) y m
  given = gives (rig_in y) (view y) y shows_itself m o

  -- the record that is handed back has the states of the rules' step
  handed : (R.step (rig_in y) (view y) m.call).next ≡ view m.step.exec
  handed = sym given.next.state

  -- the number of the rules' answer is the number of the code's
  same_woken : woken_of m.step ≡ (R.step (rig_in y) (view y) m.call).answer.report.woken
  same_woken = ap (λ (a : R.Answer). a.report.woken) given.answer

  same_activated : activated_of m.step ≡ (R.step (rig_in y) (view y) m.call).answer.report.activated
  same_activated = ap (λ (a : R.Answer). a.report.activated) given.answer

  call_hears : code_of m.step ≡ 0 → Hears y m
  call_hears e =
      let w = leaves y m in
      let k = says (rig_in y) (ok y h) (view y) h.state m.call o.proper (sym (code_same (rig_in y) (view y) y shows_itself m o) ∙ e) in
      record {
        woken = same_woken ∙ k.woken ∙ ap (λ (u : S.State). made 2 w.now.states u.states) handed;
        waited = λ t. subst (λ (u : S.State). ((S.state_of w.now t ≡ 2) × (S.state_of u t ≡ 3)) ↔ WaitedOn (rig_in y) (Comes y m) t) handed (k.waited t);
        least = λ s e q p. omega (arith, k.least s e q p, same_woken);
        activated =
            ap (λ (n : ℕ). n + by_test_in y m) same_activated ∙ k.activated ∙ ap (λ (u : S.State). made 1 w.now.states u.states) handed;
        called = λ t i n. k.called t i (ap (λ (u : S.State). S.state_of u t) handed ∙ n);
      }

  signal_heard : (f v : ℕ) → m.call ≡ R.signal f v → Hears y m
      → (woken_of m.step ≡ made 2 y.st.state m.step.exec.st.state) × (activated_of m.step ≡ made 1 y.st.state m.step.exec.st.state)
  signal_heard f v q k =
      let same : (leaves y m).now ≡ view y = ap (λ (c : R.Call). (R.effect (rig_in y) (view y) c).now) q ∙ signal_leaves (rig_in y) (view y) f v in (
        k.woken ∙ ap (λ (u : S.State). made 2 u.states m.step.exec.st.state) same,
        untested ∙ k.activated ∙ ap (λ (u : S.State). made 1 u.states m.step.exec.st.state) same,
      )
    where
      untested : activated_of m.step ≡ activated_of m.step + by_test_in y m
      untested =
          let x = (serve (rig_in y) (leaves y m)).now in
          let e = ap (λ (c : R.Call). by_test (rig_in y) (R.ended (view y) c) x) q ∙ signal_untested (rig_in y) (view y) f v x in
          omega (arith, e)

  refusal_heard : code_of m.step ≢ 0 → (woken_of m.step ≡ 0) × (activated_of m.step ≡ 0)
  refusal_heard n =
      let e = refused_tells_nothing (rig_in y) (view y) m.call (λ z. n (ap (λ (b : R.Answer). b.code) given.answer ∙ z)) in
      (same_woken ∙ ap (λ (p : R.Report). p.woken) e, same_activated ∙ ap (λ (p : R.Report). p.activated) e)

  sound_heard : Heard y m
  sound_heard =
      record {
        hears = call_hears;
        signals = λ f v q e. signal_heard f v q (call_hears e);
        refused = refusal_heard;
        few = omega (arith, same_woken, same_activated, heard_few (rig_in y) (ok y h) (view y) h.state m.call o.proper);
      }

  -- ---- L3: the true bound of a finish and of a terminate
  same_served : (k : R.Call) → m.call ≡ k → served_of m.step ≡ (R.step (rig_in y) (view y) k).answer.report.served
  same_served k e = ap (λ (a : R.Answer). a.report.served) given.answer ∙ ap (λ (c : R.Call). (R.step (rig_in y) (view y) c).answer.report.served) e

  sound_at_most : AtMost y m
  sound_at_most =
      record {
        finishes = λ e. omega (arith, same_served R.finish e, finish_most (rig_in y) (ok y h) (view y) h.state);
        terminates = λ t e. omega (arith, same_served (R.terminate t) e, terminate_most (rig_in y) (ok y h) (view y) h.state t);
      }

  -- ---- L6: a task's number of overruns is read
  module _ (t : ℕ) (asks : m.call ≡ read_overruns t) where
    meets : Meets y (read_overruns t) m.step m.after
    meets = subst (λ (k : R.Call). Meets y k m.step m.after) asks o.meets

    sound_overruns_told : OverrunsTold y t m
    sound_overruns_told =
        record {
          same =
              by (no_such_one y.rig.tasks t)
              (λ e. ap (λ (r : Step). r.exec) (six_unchanged y t m.step m.after meets h ((is_no_such y.rig.tasks t).0 e)))
              (λ e. let k = there_is y.rig.tasks t e in (overruns_asked y t m.step m.after meets h k.0 k.1).same);
          told = λ a b.
              let e = (overruns_asked y t m.step m.after meets h a b).answer in
              (ap (λ (k : R.Answer). k.code) e, ap (λ (k : R.Answer). k.report.value) e);
          refused = λ n. (six_exactly y t m.step m.after meets).1 (h, n);
        }

  -- ---- L13: it is asked why a task won't start
  module _ (t d : ℕ) (asks : m.call ≡ why_not t d) where
    meets_why : Meets y (why_not t d) m.step m.after
    meets_why = subst (λ (k : R.Call). Meets y k m.step m.after) asks o.meets

    -- what is told is what the rules compute; the task is inactive, or it would have been refused
    why_read : code_of m.step ≡ 0 → (state_in y t ≡ inactive) × (told_by m.step ≡ lowest_blocking (rig_in y) (view y) d t)
    why_read c = (
      ((why_refused y t d m.step m.after meets_why).none.0 c).2,
      ap (λ (z : R.Answer). z.report.value) (why_answered y t d m.step m.after meets_why c).answer,
    )

    why_words : code_of m.step ≡ 0 → LowestBlocking (rig_in y) (view y) d t (told_by m.step)
    why_words c = let w = why_read c in subst (LowestBlocking (rig_in y) (view y) d t) (sym w.1) (lowest_blocking_lem (rig_in y) (view y) d t w.0)

    sound_why_told : WhyTold y t d m
    sound_why_told =
        let w = why_refused y t d m.step m.after meets_why in
        let there : 1 ≤ t → t ≤ y.rig.tasks → NoSuch y.rig.tasks t → ⊥ = λ a b n. ⊎_elim (λ e. omega (arith, e, a)) (λ e. omega (arith, e, b)) n in
        record {
          same = why_same y t d m.step m.after meets_why;
          told = λ a b i l. let c = w.none.1 (h, there a b, i, l) in (c, why_words c);
          larger = λ c e f g. larger (rig_in y) (view y) d f t g ((why_words c).yes.0 e);
          way = λ c e z p. way_there (rig_in y) (ok y h) t p (view y) h.state (larger (rig_in y) (view y) d 0 t (omega (arith, z)) ((why_words c).yes.0 e));
          six = λ n. w.six.1 (h, n);
          eight = λ a b i. w.eight.1 (h, there a b, i);
          eleven = λ a b i l. w.eleven.1 (h, there a b, i, l);
        }

-- ---- the waking clause of the rules, said of the record to which the calls ks led

wakes_shown : (r : G.Rig) (s : S.State) (ks : List R.Call) (z : Exec) → Shows r (R.run r s ks) z → (t c : ℕ) → W.WakesByRules r t c s ks → Wakes t c z
wakes_shown r s ks z end t c w =
    record {
      waits = λ l. ap (λ (u : S.State). S.state_of u t) end.state ∙ w.waits (subst (λ (u : S.State). u.count < c) end.state l);
      wakes = λ k buffer o e n q.
          let v = gives r (R.run r s ks) z end k o in
          let f : R.step r (R.run r s ks) k.call ≡ R.step r (R.run r s ks) (tick buffer) = ap (R.step r _) e in
          let a = w.wakes buffer n (ap (λ (u : S.State). suc u.count) (sym end.state) ∙ q) in (
            ap (λ (u : R.Answer). u.code) v.answer ∙ ap (λ (u : R.Step). u.answer.code) f ∙ a.0,
            ap (λ (u : S.State). u.count) v.next.state ∙ ap (λ (u : R.Step). u.next.count) f ∙ a.1,
            ap (λ (u : S.State). S.state_of u t) v.next.state ∙ ap (λ (u : R.Step). S.state_of u.next t) f ∙ a.2,
          );
    }

-- ---- L11: "periods 1, 2, 4, 8, 16, 32, 64" go into 64

period_divides : (p : ℕ) → In p periods → (q : ℕ) × (q * p ≡ 64)
period_divides p (inl e) = (64, ap (λ (n : ℕ). 64 * n) e)
period_divides p (inr (inl e)) = (32, ap (λ (n : ℕ). 32 * n) e)
period_divides p (inr (inr (inl e))) = (16, ap (λ (n : ℕ). 16 * n) e)
period_divides p (inr (inr (inr (inl e)))) = (8, ap (λ (n : ℕ). 8 * n) e)
period_divides p (inr (inr (inr (inr (inl e))))) = (4, ap (λ (n : ℕ). 4 * n) e)
period_divides p (inr (inr (inr (inr (inr (inl e)))))) = (2, ap (λ (n : ℕ). 2 * n) e)
period_divides p (inr (inr (inr (inr (inr (inr (inl e))))))) = (1, ap (λ (n : ℕ). 1 * n) e)
period_divides p (inr (inr (inr (inr (inr (inr (inr e))))))) = absurd e

-- ---- FROM AN ACCEPTED START

refused_four : (r : Step) → code_of r ≡ 0 → Refuses no_exec broken_rig r → ⊥
refused_four r e q = omega (arith, e, ap (λ (a : R.Answer). a.code) q.answer)

module _ (g : Rig) (table : List (List ℕ)) (x : Exec) (s : AcceptedStart g table x) where
  begun : Right g (cycles_of table) × Started g (cycles_of table) s.begun
  begun = ⊎_elim (λ p. p) (λ p. absurd (refused_four s.begun s.accepted p.1)) s.starts.is

  -- the start's record holds the rig and its cycles
  pub started_rig : (x.rig ≡ g) × (x.cycles ≡ cycles_of table)
  started_rig = (
    ap (λ (z : Exec). z.rig) (sym s.gave) ∙ begun.1.rig,
    ap (λ (z : Exec). z.cycles) (sym s.gave) ∙ begun.1.cycles,
  )

  -- the start serves one flag at most
  pub started_served : served_of s.begun ≤ 1
  started_served = omega (arith, ap (λ (a : R.Answer). a.report.served) begun.1.answer, start_served (rig_of g (cycles_of table)))

  -- L2: an accepted start shows 0 and 0
  pub started_heard : (woken_of s.begun ≡ 0) × (activated_of s.begun ≡ 0)
  started_heard =
      let a = begun.1.answer in
      let n = start_heard (rig_of g (cycles_of table)) in
      (ap (λ (b : R.Answer). b.report.woken) a ∙ n.0, ap (λ (b : R.Answer). b.report.activated) a ∙ n.1)

  shown : Shows (rig_in x) (R.start (rig_in x)) x
  shown =
      let e : rig_of g (cycles_of table) ≡ rig_in x = λ i. rig_of (sym started_rig.0 i) (sym started_rig.1 i) in
      record {
        sound = subst SoundRecord s.gave begun.1.sound;
        rig = refl;
        state = ap view (sym s.gave) ∙ begun.1.next ∙ ap R.start e;
      }

  rig_right : RigOk (rig_in x)
  rig_right = ok x shown.sound

  -- L11: the rows of the start's rig
  timed : AllTimed x.rig.rows (rig_in x).row
  timed i l =
      let b = shown.sound.rig.rows i l in
      let q = period_divides _ b.period in
      (q.0, record { divides = q.1; below = b.phase })

  module _ (ms : List Made) (y : Exec) (ran : Ran x ms y) where
    there : Shows (rig_in x) (R.run (rig_in x) (R.start (rig_in x)) (calls_of ms)) y
    there = ran_shows (rig_in x) (R.start (rig_in x)) x shown ms y ran

    stands : Stands x ms y
    stands =
        let k = ran_rig (rig_in x) (R.start (rig_in x)) x shown ms y ran in
        record {
          sound = there.sound;
          never_12 = sound_12 y there.sound;
          rig = k.0;
          cycles = k.1;
          shows = there.state;
        }

    ordered : InOrder (history_in x ms) (view y)
    unfolding history_in history_of
    ordered =
        subst (λ (z : S.State). InOrder (history_in x ms) z) (sym there.state)
        (subst (λ (h : History). InOrder h (R.run (rig_in x) (R.start (rig_in x)) (calls_of ms)))
        (sym (noting_same (rig_in x) (R.start (rig_in x)) x shown ms y ran 1 never))
        (chains_in_order (rig_in x) rig_right (calls_of ms) (ran_proper x ms y ran)))

    chained : Chained x ms y
    chained =
        let h = there.sound in
        let l = sound_chains y.st.links h.links in
        let time : (view y).chains time_chain ≡ forward_in y time_chain = read y h time_chain tt in
        record {
          forward = λ c a. sym (read y h c a) ∙ ap (λ (z : S.State). z.chains c) there.state;
          backward = λ c a. read_backward y.st.links (chains_of y.st.links) l (anchor_of c) (anchor_low c a) (anchor_high c a) ∙ ap reverse (read y h c a);
          once = λ c a. subst Distinct (read y h c a) (h.state.chains.once c);
          waits = sound_waits y h;
          lists = λ t c a. subst (λ (z : List ℕ). In t z ↔ ((state_in y t ≡ 2) × ((history_in x ms t).chain ≡ c))) (read y h c a) (ordered.lists t c);
          time = subst (Ordered (H.Sooner (history_in x ms))) time ordered.time;
          counts = λ t i. ordered.counts t (subst (In t) (sym time) i);
          ahead = λ t i. h.state.chains.ahead t (subst (In t) (sym time) i);
          flags = λ f v a. subst (Ordered (H.Earlier (history_in x ms))) (read y h (chain_of f v) a) (ordered.flags f v);
        }

    -- "A condition is tested for activation on schedule and on service of one of its flags.": a call that is made next and
    -- activates a task does so by its schedule, or by a service of one of its flags, with all its conditions as desired
    pub activated_only : (m : Made) → MadeOn y m → (t : ℕ) → S.active (state_in y t) ≡ 0 → S.active (state_in m.step.exec t) ≡ 1
        → BySchedule (rig_in y) (view y) m.call t ⊎ ByService (rig_in y) (Comes y m) t
    activated_only m o t i n =
        let h = there.sound in
        let g = gives (rig_in y) (view y) y (record { sound = h; rig = refl; state = refl }) m o in
        activated_by_lem (rig_in y) (ok y h) (view y) h.state m.call o.proper t i
        (ap (λ (s : S.State). S.active (S.state_of s t)) (sym g.next.state) ∙ n)

    -- DEMAND 3
    pub demand : Demand x ms y
    demand =
        record {
          stands = stands;
          chained = chained;
          activated = sound_activated y there.sound;
          bounded = sound_79 y there.sound;
        }

    -- L3: NOBODY IS LEFT inactive with all conditions as desired
    pub nobody_left : NobodyLeft y
    nobody_left =
        subst (λ (g : G.Rig). NL.NobodyLeft g (view y)) (sym there.rig)
        (subst (NL.NobodyLeft (rig_in x)) (sym there.state) (never_left (rig_in x) rig_right (calls_of ms) (ran_proper x ms y ran)))

    -- L3: the true bound of a finish and of a terminate
    pub at_most : (m : Made) → MadeOn y m → AtMost y m
    at_most m o = sound_at_most y there.sound m o

    -- L6: STARTS THAT CAME TOO SOON ARE COUNTED
    pub overran : Overran x ms y
    unfolding events_in events_of
    overran =
        record {
          counts = λ t a b.
              ap (λ (s : S.State). S.overruns_of s t) there.state
              ∙ counted_since (rig_in x) (calls_of ms) t a b
              ∙ ap (λ (h : List Event). min most_overruns (overruns_counted (rig_in x) t h))
              (sym (happening_same (rig_in x) (R.start (rig_in x)) x shown ms y ran (start_events (rig_in x))));
          within = there.sound.state.overruns.within;
        }

    pub overruns_told : (m : Made) → MadeOn y m → (t : ℕ) → m.call ≡ read_overruns t → OverrunsTold y t m
    overruns_told m o = sound_overruns_told y there.sound m o

    -- L11: A STATEMENT FOR THE WIRING SHEET
    ticks : Ticks (rig_in x) (suc (R.start (rig_in x)).count) (ticks_in ms)
    ticks = ticks_rise (rig_in x) (R.start (rig_in x)) x shown ms y ran

    -- what a tick handed out, seen from row k
    hands_out : (k : ℕ) → 1 ≤ k → k ≤ x.rig.rows → (m : Made) → InARow ms (m ∷ []) → HandsOut x k m
    unfolding R.words_at Ticks
    hands_out k a b m w =
        let t = (in_a_row (rig_in x) _ ms (m ∷ []) ticks w).1.0 in
        let rows = x.rig.rows in
        let master = x.rig.master in
        let row = (rig_in x).row in
        let all : rows ≡ k - 1 + suc (rows - k) = omega arith in
        let from : suc (k - 1) ≡ k = omega arith in
        t.sent
        ∙ ap (bus_words rows master row) (sym t.made)
        ∙ ap (λ (n : ℕ). bus_words n master row (count_made m)) all
        ∙ bus_at master row (count_made m) (k - 1) (rows - k)
        ∙ ap (λ (n : ℕ).
        words_of_rows x (k - 1) row m ++ (cond (row_due (row_in x k) (count_made m)) (row_words master (row_in x k)) [] ++ words_of_rows x (rows - k) (λ (i : ℕ). row (n + i)) m)) from

    pub wired : (k : ℕ) → 1 ≤ k → k ≤ x.rig.rows → Wired x ms k
    unfolding Ticks
    wired k a b =
        let r = rig_in x in
        let d = row_in x k in
        let q = timed (k - 1) (omega arith) in
        record {
          times = λ window w e.
              let t = in_a_row r _ ms window ticks w in
              ticks_sum r (λ m. bit (due_at x k m)) (due_in d) (λ c m h. ap (due_in d) h.made) t.0 window t.1
              ∙ ap (λ (n : ℕ). sum n (λ i. due_in d (t.0 + i))) e
              ∙ due_times d q.0 q.1 t.0
              ∙ quotient d q.0 q.1;
          next = λ m n between w first none last.
              let t = in_a_row r _ ms (m ∷ (between ++ n ∷ [])) ticks w in
              let front = ticks_front r (suc t.0) between (n ∷ []) t.1.1 in
              let end = (ticks_behind r (suc t.0) between (n ∷ []) t.1.1).0 in
              let e = due_next d q.0 q.1 t.0 (length between)
              (ap (due_in d) (sym t.1.0.made) ∙ ap bit first)
              (sym (ticks_sum r (λ m. bit (due_at x k m)) (due_in d) (λ c m h. ap (due_in d) h.made) (suc t.0) between front) ∙ none)
              (ap (due_in d) (sym end.made) ∙ ap bit last) in
              omega (arith, length-append between (n ∷ []), e);
          handed = hands_out k a b;
          speaks =
              let sizes = shown.sound.rig.rows (k - 1) (omega arith) in
              row_speaks x.rig.master d (shown.sound.rig.sender_differs (k - 1) (omega arith))
              (omega (arith, sizes.sender_sub.1)) (omega (arith, sizes.receiver_sub.1));
          sheet = times_is d q.0 q.1;
          cycles = λ m. round_mod 64 (due_in d) (λ n. ap bit (frame_round d q.0 q.1 n)) (count_made m);
        }

    pub spoken_to : (address : ℕ) → SpokenTo x ms address
    unfolding R.words_at Ticks
    spoken_to address =
        let rows = x.rig.rows in
        let master = x.rig.master in
        let row = (rig_in x).row in
        record {
          times = λ window w e.
              let t = in_a_row (rig_in x) _ ms window ticks w in
              ticks_sum (rig_in x) (λ m. commands_to address (handed_out m)) (commands_in rows master row address) (λ c m a. ap (commands_to address) a.sent) t.0 window t.1
              ∙ ap (λ (n : ℕ). sum n (λ i. commands_in rows master row address (t.0 + i))) e
              ∙ commands_times rows master row timed address t.0;
          cycles = λ m w.
              let t = (in_a_row (rig_in x) _ ms (m ∷ []) ticks w).1.0 in
              ap (commands_to address) (t.sent ∙ ap (bus_words rows master row) (sym t.made) ∙ words_of_cycle rows master row timed (count_made m));
        }

    -- L13: WHY WON'T IT START?
    pub why_told : (m : Made) → MadeOn y m → (t d : ℕ) → m.call ≡ why_not t d → WhyTold y t d m
    why_told m o = sound_why_told y there.sound m o

    -- L2: WHOM DID IT WAKE?
    pub heard : (m : Made) → MadeOn y m → Heard y m
    heard m o = sound_heard y there.sound m o

  -- the calls fix the record to which a run leads
  pub ran_same : (ms ns : List Made) (y z : Exec) → Ran x ms y → Ran x ns z → calls_of ms ≡ calls_of ns → y ≡ z
  ran_same ms ns y z p q e =
      let a = (demand ms y p).stands in
      let b = (demand ns z q).stands in
      record_same y z a.sound b.sound (a.rig ∙ sym b.rig) (a.cycles ∙ sym b.cycles)
      (a.shows ∙ ap (λ (ks : List R.Call). R.run (rig_in x) (R.start (rig_in x)) ks) e ∙ sym b.shows)

  -- ---- THE WAKING CLAUSE: after the run `before` a call m is accepted by which the running task begins to wait for the
  -- count c; then whatever calls `between` are made that spare it
  module _ (before : List Made) (y : Exec) (ran : Ran x before y) (m : Made) (made : MadeOn y m) (taken : code_of m.step ≡ 0)
      (between : List Made) (z : Exec) (went : Ran m.step.exec between z) (spared : SparedIn m.step.exec between y.st.running) where
    pub waking : (c : ℕ) → begins (view y) m.call ≡ until_count c → Wakes y.st.running c z
    waking c b = wakes_shown r (R.step r now m.call).next (calls_of between) z end t c w
      where
        r : G.Rig
        r = rig_in x

        now : S.State
        now = R.run r (R.start r) (calls_of before)

        t : ℕ
        t = y.st.running

        at_y : Shows r now y
        at_y = there before y ran

        next : Shows r (R.step r now m.call).next m.step.exec
        next = (gives r now y at_y m made).next

        end : Shows r (R.run r (R.step r now m.call).next (calls_of between)) z
        end = ran_shows r (R.step r now m.call).next m.step.exec next between z went

        w : W.WakesByRules r t c (R.step r now m.call).next (calls_of between)
        w =
            subst (λ (n : ℕ). W.WakesByRules r n c (R.step r now m.call).next (calls_of between)) (ap (λ (u : S.State). u.running) (sym at_y.state))
            (WL.waking r rig_right (calls_of before) (calls_of between) m.call c (ran_proper x before y ran) made.proper
            (ran_proper m.step.exec between z went) (sym (code_same r now y at_y m made) ∙ taken)
            (ap (λ (u : S.State). begins u m.call) (sym at_y.state) ∙ b)
            (subst (λ (n : ℕ). Spared r (R.step r now m.call).next (calls_of between) n) (ap (λ (u : S.State). u.running) at_y.state)
            (spared_same r (R.step r now m.call).next m.step.exec next between z went t spared)))

    -- the two waits: until a count c above the count, for n cycles
    pub waking_until : (c : ℕ) → m.call ≡ wait_until c → y.st.count < c → Wakes y.st.running c z
    unfolding begins
    waking_until c e l =
        waking c (ap (begins (view y)) e ∙ ap (λ (b : Bool). cond b H.nothing (until_count c)) (lt-leb c y.st.count l))

    pub waking_for : (n : ℕ) → m.call ≡ wait_for n → 1 ≤ n → Wakes y.st.running (y.st.count + n) z
    unfolding begins
    waking_for n e l =
        waking (y.st.count + n)
        (ap (begins (view y)) e ∙ ap (λ (b : Bool). cond b H.nothing (until_count (y.st.count + n))) (lt-leb (y.st.count + n) y.st.count (omega arith)))

  -- ---- WHEN DOES THE BENCH NEXT WAKE SOMEONE? After the run `before` the question m is asked; then whatever calls `between` are made
  module _ (before : List Made) (y : Exec) (ran : Ran x before y) (m : Made) (made : MadeOn y m) (asks : m.call ≡ next_waking) where
    sound_y : SoundRecord y
    sound_y = (there before y ran).sound

    answered : Answered y m.step
    answered = asked y m.step m.after (subst (λ (k : R.Call). Meets y k m.step m.after) asks made.meets) sound_y

    -- the time chain as the rules have it, and as it is read
    chain : (view y).chains time_chain ≡ forward_in y time_chain
    chain = read y sound_y time_chain tt

    -- THE ANSWER
    pub told : Told y m
    told =
        let l = answered.lowest in
        record {
          accepted = ap (λ (a : R.Answer). a.code) answered.answer;
          same = answered.same;
          none = (
            (λ e t w. l.none.0 e t (w.0, subst (In t) (sym chain) w.1)),
            (λ f. l.none.1 (λ t w. f t (w.0, subst (In t) chain w.1))),
          );
          some = λ n. let w = l.some n in (w.0, (w.1.0, subst (In w.0) chain w.1.1), w.2);
          lowest = λ t w. l.lowest t (w.0, subst (In t) (sym chain) w.1);
        }

    abbrev now : S.State
    now = R.run (rig_in x) (R.start (rig_in x)) (calls_of before)

    asked_shows : Shows (rig_in x) now m.step.exec
    asked_shows = subst (Shows (rig_in x) now) (sym answered.same) (there before y ran)

    sound_now : Sound (rig_in x) now
    sound_now = subst (Sound (rig_in x)) (there before y ran).state (subst (λ (r : G.Rig). Sound r (view y)) (there before y ran).rig sound_y.state)

    -- a task that waits on time in the record, by the rules
    on_now : (t : ℕ) → In t (forward_in y time_chain) → In t (now.chains time_chain)
    on_now t i = subst (λ (s : S.State). In t (s.chains time_chain)) (there before y ran).state (subst (In t) (sym chain) i)

    -- "the tick that makes the count" that was told "makes some task dispatchable": the waking clause holds of a task that waits for it
    pub next_wakes : told_by m.step ≢ 0
        → (t : ℕ) × OnTime y t × (wake_in y t ≡ told_by m.step)
        × ((between : List Made) (z : Exec) → Ran m.step.exec between z → SparedIn m.step.exec between t → Wakes t (told_by m.step) z)
    next_wakes n =
        let w = told.some n in
        (w.0, w.1, w.2, (λ between z went spared. go w.0 w.1 w.2 between z went spared))
      where
        go : (t : ℕ) → OnTime y t → wake_in y t ≡ told_by m.step → (between : List Made) (z : Exec) → Ran m.step.exec between z
            → SparedIn m.step.exec between t → Wakes t (told_by m.step) z
        go t w e between z went spared =
            let same : S.wake_of now t ≡ told_by m.step = ap (λ (s : S.State). S.wake_of s t) (sym (there before y ran).state) ∙ e in
            let i = on_now t w.1 in
            wakes_shown (rig_in x) now (calls_of between) z (ran_shows (rig_in x) now m.step.exec asked_shows between z went) t (told_by m.step)
            (WL.due_wakes (rig_in x) rig_right t (told_by m.step) now sound_now (record { there = i; due = same })
            (omega (arith, sound_now.chains.ahead t i, same))
            (omega (arith, waking_in_range (rig_in x) rig_right (calls_of before) (ran_proper x before y ran) t i, same))
            (calls_of between) (ran_proper m.step.exec between z went)
            (spared_same (rig_in x) now m.step.exec asked_shows between z went t spared))

    -- "and no tick before does so by its count": where no wait for a count below c began since, a tick that makes a lower one leaves
    -- everybody waiting who waits on time. c is at most what was told; where none was told, it is any.
    pub nobody_before : (c : ℕ) → (told_by m.step ≢ 0 → c ≤ told_by m.step) → (between : List Made) (z : Exec) → Ran m.step.exec between z
        → NoneSoonerIn m.step.exec c between → (k : Made) (buffer : List ℕ) → MadeOn z k → k.call ≡ tick buffer
        → k.step.exec.st.count < c → (t : ℕ) → OnTime z t → state_in k.step.exec t ≡ waiting
    nobody_before c low between z went none k buffer o e l t w =
        let r = rig_in x in
        let s = R.run r now (calls_of between) in
        let end = ran_shows r now m.step.exec asked_shows between z went in
        let proper = ran_proper m.step.exec between z went in
        let sound : Sound r s = run_sound r rig_right now sound_now (calls_of between) proper in
        let i : In t (s.chains time_chain) =
        subst (λ (v : S.State). In t (v.chains time_chain)) end.state (subst (In t) (sym (read z end.sound time_chain tt)) w.1) in
        let late = run_counts r rig_right (λ (d : ℕ). c ≤ d) (calls_of between) now sound_now proper
        (sooner_same r now m.step.exec asked_shows between z went c none) first t i in
        let v = gives r s z end k o in
        let count = ap (λ (u : S.State). u.count) v.next.state in
        ap (λ (u : S.State). S.state_of u t) v.next.state
        ∙ ⊎_elim
        (λ y. (step_sound r rig_right s sound k.call o.proper).chains.listed.two t (time_chain, y.1.there))
        (λ y. absurd (omega (arith, y.0, late, count, l)))
        (WL.step_next r rig_right s sound t (S.wake_of s t) (record { there = i; due = refl }) (sound.chains.ahead t i) k.call
        (λ struck. subst (λ (u : R.Call). Struck r s u t) e struck))
      where
        -- at the question nobody waits for less
        first : (u : ℕ) → In u (now.chains time_chain) → c ≤ S.wake_of now u
        first u i =
            let w = in_time (rig_in x) now sound_now u i in
            let v : OnTime y u = (
              ap (λ (s : S.State). S.state_of s u) (there before y ran).state ∙ w.0,
              subst (In u) chain (subst (λ (s : S.State). In u (s.chains time_chain)) (sym (there before y ran).state) i),
            ) in
            let e : wake_in y u ≡ S.wake_of now u = ap (λ (s : S.State). S.wake_of s u) (there before y ran).state in
            let b = low (λ z. told.none.0 z u v) in
            omega (arith, b, told.lowest u v, e)
