-- L3: NOBODY IS LEFT. "Tasks that should run again" do: after every call no task is left inactive with all its conditions as desired.
-- A service changes the conditions of the tasks that have its flag, and offers it to each of them; nothing else makes a condition as desired, and
-- nothing but a schedule, a finish and a terminate makes a task inactive. So one test of that one task is enough.
use Rattle.std.specs.Prelude.{◌≡◌, refl, ◌≢◌, ◌⊎◌, Bool, ◌&&◌, eqb, leb, length, set}
use Rattle.std.proofs.Math.Path.{sym, ap}
use Rattle.std.proofs.Common.{◌∙◌, inl, inr, true≢false, arith, eqb-true, eq-eqb, length-set, get_or-set_same, get_or-set_other}
use Rattle.std.proofs.Math.Bool.{true, false, cond}
use mathlib.Core.List.{List, [], ◌∷◌}
use Prim.Native.Nat.{ℕ, zero, suc, ◌+◌, ◌≤◌, ◌<◌}
use Rattle.std.proofs.Math.ListN.{get_or}
use Rattle.std.proofs.lemmas.List.{length-replicate}
use Rattle.laws.specs.Cases.{by, dec_eq, and_true}
use Rattle.laws.specs.Laws.Stores.{stores_keep}
use Rattle.laws.specs.Laws.Tables.{in_range, was_there, zeros}
use Rattle.laws.specs.Members.{keep}
use Rattle.rules.specs.Rig.{Rig, place_of}
use Rattle.rules.specs.RigOk.{RigOk}
use Rattle.rules.specs.State.{time_chain, chain_of, State, Work, Entry, state_of, value_of, inactive, blank}
use Rattle.rules.specs.Conditions.{met, drive, names}
use Rattle.rules.specs.Serving.{activate, takes, wake, ready, serve_flag, serving, serve}
use Rattle.rules.specs.Waiting.{wait_on, wait_until_count, is_due, wake_due}
use Rattle.rules.specs.Family.{family, is_marked, cleared}
use Rattle.rules.specs.Running.{dispatch}
use Rattle.rules.specs.Calls.{Call, schedule, cancel, terminate, finish, tick, wait_until, wait_for, latched, unlatched, signal, read_flag, read_block, write_block, next_waking, read_overruns, why_not}
use Rattle.rules.specs.Calls.{tested, scheduled, finished, terminated, cancelled, ticked, effect, ended, again, settled, refusal, accepted, after, step, run, started, start}
use Rattle.rules.specs.Proper.{ProperRun}
use Rattle.rules_laws.specs.ConditionLaws.{met_is, met_same, same_task, driven_not, names_is}
use Rattle.rules_laws.specs.Rousing.{rouse_one}
use Rattle.rules_laws.specs.Lengths.{rouse_length}
use Rattle.rules_laws.specs.Offering.{met_other, called, offers_states, offers_changed, offers_tests}
use Rattle.rules_laws.specs.Testing.{tested_cases}
use Rattle.rules_laws.specs.Heard.{service_up}
use Rattle.rules_laws.specs.Made.{up_same}
use Rattle.rules_laws.specs.Activation.{AsDesired}
use Rattle.rules_laws.specs.Steps.{always}

-- in words
abbrev pub NobodyLeft : Rig → State → Type 0
NobodyLeft r s = (t : ℕ) → state_of s t ≡ inactive → AsDesired r t s.conds → ⊥

-- by the test, and but for task x, 0 for none
abbrev Left : Rig → ℕ → State → Type 0
Left r x s = (u : ℕ) → u ≢ 0 → u ≢ x → state_of s u ≡ 1 → met r.present r.desired u s.conds ≡ false

-- the states are of 64 tasks, and nobody but task x is left
abbrev pub Calm : Rig → ℕ → State → Type 0
Calm r x s = (length s.states ≡ 65) × Left r x s

-- ---- one service

-- a flag that a task does not have leaves its conditions alone
met_undriven : (r : Rig) → RigOk r → (t f v : ℕ) (conds : List ℕ) → names r.lines r.line_task r.line_flag t f ≡ false
    → met r.present r.desired t (drive r.lines r.line_task r.line_pos r.line_flag f v conds) ≡ met r.present r.desired t conds
met_undriven r ok t f v conds n =
    met_same r.present r.desired t (drive r.lines r.line_task r.line_pos r.line_flag f v conds) conds
    (λ p l. driven_not r.lines r.line_task r.line_pos r.line_flag f v conds (place_of t p)
    (λ k b e q. true≢false (sym ((names_is r.lines r.line_task r.line_flag t f).1 (k, b, (sym (same_task t (r.line_task k) p (r.line_pos k) l (ok.line_position k b) q), e))) ∙ n)))

module _ (r : Rig) (ok : RigOk r) (x : ℕ) where
  module _ (e : Entry) (s : State) (q : List Entry) (c : Calm r x s) (u : ℕ) where
    abbrev w : Work
    w = record { now = wake (chain_of e.flag e.value) (takes r e s); queue = q }

    -- who is inactive after the service was not called by the flag, and was so before it
    uncalled : state_of (serve_flag r e s q).now u ≡ 1 → u ≢ 0 → called r e.flag w u ≡ false
    unfolding serve_flag wake takes
    uncalled i z =
        by (called r e.flag w u)
        (λ k. absurd (omega (arith, i, offers_states r e.flag w u (omega arith) (few k) ∙ ap (λ (b : Bool). cond b 3 (state_of w.now u)) k)))
        (λ k. k)
      where
        few : called r e.flag w u ≡ true → u ≤ 64
        few k =
            let a = and_true (eqb (state_of w.now u) 1) (ready r e.flag u w.now) k in
            omega (arith, in_range w.now.states u 0 (eqb-true _ 1 a.0), rouse_length (s.chains (chain_of e.flag e.value)) s.states, c.0)

    stayed : state_of (serve_flag r e s q).now u ≡ 1 → called r e.flag w u ≡ false → state_of w.now u ≡ 1
    unfolding serve_flag
    stayed i k = go (dec_eq (state_of (serve_flag r e s q).now u) (state_of w.now u))
      where
        go : Dec (state_of (serve_flag r e s q).now u ≡ state_of w.now u) → state_of w.now u ≡ 1
        go (yes j) = sym j ∙ i
        go (no j) = absurd (true≢false (sym (offers_changed r e.flag w u j) ∙ k))

    unmet : u ≢ 0 → u ≢ x → state_of w.now u ≡ 1 → called r e.flag w u ≡ false → met r.present r.desired u w.now.conds ≡ false
    unfolding wake takes ready
    unmet z n i k =
        by (names r.lines r.line_task r.line_flag u e.flag)
        (λ a. last (eqb (state_of w.now u) 1) (names r.lines r.line_task r.line_flag u e.flag) _ k (eq-eqb _ 1 i) a)
        (λ a. met_undriven r ok u e.flag e.value s.conds a ∙ c.1 u z n (rouse_one u (s.chains (chain_of e.flag e.value)) s.states i))
      where
        last : (a b m : Bool) → (a && (b && m)) ≡ false → a ≡ true → b ≡ true → m ≡ false
        last true true m h e f = h
        last true false m h e f = absurd (true≢false (sym f))
        last false b m h e f = absurd (true≢false (sym e))

  service_calm : (e : Entry) (s : State) (q : List Entry) → Calm r x s → Calm r x (serve_flag r e s q).now
  unfolding serve_flag
  service_calm e s q c = (
    (service_up r s.states e s q (up_same s.states, refl)).1 ∙ c.0,
    (λ u z n i. let k = uncalled e s q c u i z in offers_tests r e.flag _ u k ∙ unmet e s q c u z n (stayed e s q c u i k) k),
  )

  serving_calm : (k : ℕ) (s : State) (q : List Entry) → Calm r x s → Calm r x (serving r k s q).now
  unfolding serving
  serving_calm zero s q c = c
  serving_calm (suc k) s [] c = c
  serving_calm (suc k) s (e ∷ q) c = serving_calm k (serve_flag r e s q).now (serve_flag r e s q).queue (service_calm e s q c)

  serve_calm : (v : Work) → Calm r x v.now → Calm r x (serve r v).now
  unfolding serve
  serve_calm v c = serving_calm _ v.now v.queue c

-- ---- the test, and the serving after it

-- who is tested is left no more
tested_calm : (r : Rig) → RigOk r → (t : ℕ) (s : State) → Calm r t s → Calm r 0 (tested r t s).now
unfolding activate
tested_calm r ok t s c =
    tested_cases r t s (λ w. Calm r 0 w.now)
    (λ e m. (
      length-set s.states t 3 ∙ c.0,
      (λ u z n i.
          let other : u ≢ t = λ q. omega (arith, i, ap (λ (v : ℕ). get_or (set s.states t 3) v 0) q, get_or-set_same s.states t 3 0 (in_range s.states t 0 e)) in
          met_other r.present r.latched r.desired u t s.conds other ∙ c.1 u z other (sym (get_or-set_other s.states t u 3 0 other) ∙ i)),
    ))
    (λ n. (c.0, (λ u z k i. go n u z i (dec_eq u t))))
  where
    go : (state_of s t ≡ 1 → met r.present r.desired t s.conds ≡ false) → (u : ℕ) → u ≢ 0 → state_of s u ≡ 1 → Dec (u ≡ t)
        → met r.present r.desired u s.conds ≡ false
    go n u z i (yes q) = ap (λ (v : ℕ). met r.present r.desired v s.conds) q ∙ n (sym (ap (state_of s) q) ∙ i)
    go n u z i (no q) = c.1 u z q i

pub settle_calm : (r : Rig) → RigOk r → (t : ℕ) (w : Work) → Calm r t w.now → Calm r 0 (again r t (serve r w)).now
unfolding again
settle_calm r ok zero w c = serve_calm r ok 0 w c
settle_calm r ok (suc t) w c =
    serve_calm r ok 0 (tested r (suc t) (serve r w).now) (tested_calm r ok (suc t) (serve r w).now (serve_calm r ok (suc t) w c))

-- ---- what a call does before its queue is served

module _ (r : Rig) (ok : RigOk r) (s : State) (c : Calm r 0 s) where
  -- task t becomes inactive
  stopped : (t : ℕ) → (u : ℕ) → u ≢ 0 → u ≢ t → get_or (set s.states t 1) u 0 ≡ 1 → met r.present r.desired u s.conds ≡ false
  stopped t u z n i = c.1 u z z (sym (get_or-set_other s.states t u 1 0 n) ∙ i)

  sized : (t v : ℕ) → length (set s.states t v) ≡ 65
  sized t v = length-set s.states t v ∙ c.0

  pub scheduled_calm : (t : ℕ) → Calm r 0 (scheduled r s t).now
  unfolding scheduled
  scheduled_calm t =
      tested_calm r ok t _ (
        sized t 1,
        (λ u z n i. met_other r.present r.latched r.desired u t s.conds n ∙ stopped t u z n i),
      )

  waits_calm : (t : ℕ) → (u : ℕ) → u ≢ 0 → get_or (set s.states t 2) u 0 ≡ 1 → met r.present r.desired u s.conds ≡ false
  waits_calm t u z i = c.1 u z z (was_there s.states t u 2 1 (λ q. omega arith) i)

  until_calm : (b : Bool) (n : ℕ) → Calm r 0 (cond b s (wait_until_count s n))
  unfolding wait_until_count
  until_calm true n = c
  until_calm false n = (sized s.running 2, (λ u z k i. waits_calm s.running u z i))

  on_calm : (b : Bool) (f v : ℕ) → Calm r 0 (cond b s (wait_on s f v))
  unfolding wait_on
  on_calm true f v = c
  on_calm false f v = (sized s.running 2, (λ u z k i. waits_calm s.running u z i))

  due_calm : Calm r 0 (ticked r s).now
  unfolding ticked wake_due
  due_calm =
      let due = keep (is_due s.wakes (suc s.count)) (s.chains time_chain) in
      (rouse_length due s.states ∙ c.0, (λ u z n i. c.1 u z z (rouse_one u due s.states i)))

  cleared_calm : (marks : List ℕ) → (length (cleared marks s.states) ≡ 65) × ((u : ℕ) → get_or (cleared marks s.states) u 0 ≡ 1 → state_of s u ≡ 1)
  unfolding cleared
  cleared_calm marks =
      stores_keep (λ i. is_marked marks (i + 1)) (λ i. i + 1) (λ i. 0) (λ m. (length m ≡ 65) × ((u : ℕ) → get_or m u 0 ≡ 1 → state_of s u ≡ 1)) 64
      (λ j m a e g. (length-set m (j + 1) 0 ∙ g.0, (λ u i. g.1 u (was_there m (j + 1) u 0 1 (λ q. omega arith) i)))) s.states (c.0, (λ u i. i))

  pub effect_calm : (k : Call) → Calm r (ended s k) (effect r s k).now
  unfolding effect ended finished terminated cancelled
  effect_calm (schedule t) = scheduled_calm t
  effect_calm (cancel t) =
      let a = cleared_calm (family r.controller t) in
      (a.0, (λ u z n i. c.1 u z z (a.1 u i)))
  effect_calm (terminate t) = (sized t 1, stopped t)
  effect_calm finish = (sized s.running 1, stopped s.running)
  effect_calm (tick buffer) = due_calm
  effect_calm (wait_until n) = until_calm (leb n s.count) n
  effect_calm (wait_for n) = until_calm (leb (s.count + n) s.count) (s.count + n)
  effect_calm (latched f v) = on_calm (eqb (value_of s f) v) f v
  effect_calm (unlatched f v) = on_calm false f v
  effect_calm (signal f v) = c
  effect_calm (read_flag f) = c
  effect_calm (read_block k area buffer) = c
  effect_calm (write_block k area buffer) = c
  effect_calm next_waking = c
  effect_calm (read_overruns t) = c
  effect_calm (why_not t d) = c
