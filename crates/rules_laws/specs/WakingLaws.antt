-- A task that waits for a count, and is spared, wakes at that count and no sooner: after any run from the start.
use Rattle.std.specs.Prelude.{◌≡◌, ◌≢◌, ◌⊎◌, Bool, eqb, leb, ltb, length, set}
use Rattle.std.proofs.Math.Path.{refl, sym, ap, subst}
use Rattle.std.proofs.Common.{◌∙◌, true≢false, arith, le_refl, le_trans}
use Rattle.std.proofs.Math.Logic.{inl, inr}
use Rattle.std.proofs.Math.Bool.{true, false, not, cond}
use mathlib.Core.List.{List, [], ◌∷◌}
use Prim.Native.Nat.{ℕ, zero, suc, ◌+◌, ◌≤◌, ◌<◌}
use borrow.Author.Tests.{eqb-true, eqb-false, leb-false, ltb-false, lt-leb, le-ltb}
use Rattle.std.proofs.Math.ListN.{get_or}
use Rattle.std.proofs.Math.Seq.{get_or-set_same, get_or-set_other}
use Rattle.laws.specs.Cases.{by}
use Rattle.laws.specs.Laws.Tables.{in_range, keeps}
use Rattle.laws.specs.Members.{In, keep}
use Rattle.laws.specs.Laws.Members.{without_in, keep_in}
use Rattle.laws.specs.Laws.Order.{place_new, place_old}
use Rattle.rules.specs.Rig.{Rig}
use Rattle.rules.specs.RigOk.{RigOk}
use Rattle.rules.specs.State.{Chain, time_chain, chain_of, State, Work, Entry, state_of, value_of, wake_of}
use Rattle.rules.specs.Serving.{activate, takes, wake, serve}
use Rattle.rules.specs.Waiting.{wait_on, wait_until_count, leave, is_due, wake_due}
use Rattle.rules.specs.Family.{Under, family, is_marked}
use Rattle.rules.specs.Running.{dispatch}
use Rattle.rules.specs.Calls.{Call, schedule, cancel, terminate, finish, tick, wait_until, wait_for, latched, unlatched, signal, read_flag, read_block, write_block, next_waking, read_overruns, why_not}
use Rattle.rules.specs.Calls.{scheduled, finished, terminated, cancelled, ticked, effect, is_uninvoked, last_count, decide, refusal, refusals, ended, again, settled, accepted, after, step, run, start}
use Rattle.rules.specs.Proper.{Proper, ProperRun}
use Rattle.rules.specs.Soundness.{Sound}
use Rattle.rules_laws.specs.Rousing.{rouse_in, rouse_three}
use Rattle.rules_laws.specs.Acceptance.{passed, somebody_runs, named_is}
use Rattle.rules_laws.specs.FamilyLaws.{family_is}
use Rattle.rules_laws.specs.Leaving.{deserted_is}
use Rattle.rules_laws.specs.Good.{settle_keeps, settle_count}
use Rattle.rules_laws.specs.Testing.{tested_cases, tested_keeps}
use Rattle.rules_laws.specs.Steps.{step_sound, run_sound, always}
use Rattle.rules.specs.History.{nothing, on_flag, until_count, begins}
use Rattle.rules.specs.Waking.{Struck}
use Rattle.rules_laws.specs.Waking.{Spared, WakesByRules}

-- ---- a task that waits for the count c

pub record Due (t c : ℕ) (s : State) : Type 0 where
  pub there : In t (s.chains time_chain)
  pub due : wake_of s t ≡ c

-- what a serving, and a dispatch, leaves as it was
record Kept (s u : State) : Type 0 where
  count : u.count ≡ s.count
  due : (t c : ℕ) → Due t c s → Due t c u
  three : (t : ℕ) → state_of s t ≡ 3 → state_of u t ≡ 3

module _ (r : Rig) (s : State) where
  -- to wake a flag's chain is not to wake the time chain
  wake_kept : (f v : ℕ) (u : State) → Kept s u → Kept s (wake (chain_of f v) u)
  unfolding wake
  wake_kept f v u k =
      record {
        count = k.count;
        due = λ t d m. let x = k.due t d m in record { there = x.there; due = x.due };
        three = λ t h. rouse_three t (u.chains (chain_of f v)) u.states (k.three t h);
      }

  activate_kept : (t : ℕ) (w : Work) → Kept s w.now → Kept s (activate r t w).now
  unfolding activate
  activate_kept t w k =
      record {
        count = k.count;
        due = λ u d m. let x = k.due u d m in record { there = x.there; due = x.due };
        three = λ u h. keeps w.now.states t u 3 (k.three u h);
      }

  takes_kept : (e : Entry) (u : State) → Kept s u → Kept s (takes r e u)
  unfolding takes
  takes_kept e u k =
      record { count = k.count; due = λ t d m. let x = k.due t d m in record { there = x.there; due = x.due }; three = k.three }

settled_kept : (r : Rig) (t : ℕ) (w : Work) → Kept w.now (dispatch r (again r t (serve r w)).now)
unfolding dispatch
settled_kept r t w =
    let k = settle_keeps r (λ u. Kept w.now u) (takes_kept r w.now) (wake_kept r w.now) (λ v x e g. activate_kept r w.now v x g) t w
    (record { count = refl; due = λ t c m. m; three = λ t h. h }) in
    record { count = k.count; due = λ t d m. let x = k.due t d m in record { there = x.there; due = x.due }; three = k.three }

-- ---- one step

-- still waiting below the count c; or the count is c and the task dispatchable
abbrev Next : ℕ → ℕ → State → Type 0
Next t c s = ((s.count < c) × Due t c s) ⊎ ((s.count ≡ c) × (state_of s t ≡ 3))

next_kept : (t c : ℕ) (a b : State) → Kept a b → Next t c a → Next t c b
next_kept t c a b k (inl x) = inl (omega (arith, k.count, x.0), k.due t c x.1)
next_kept t c a b k (inr x) = inr (k.count ∙ x.0, k.three t x.1)

module _ (r : Rig) (ok : RigOk r) (s : State) (sound : Sound r s) (t c : ℕ) (m : Due t c s) (low : s.count < c) where
  -- who is in a chain waits, and does not run
  is_waiting : state_of s t ≡ 2
  is_waiting = sound.chains.listed.two t (time_chain, m.there)

  not_running : s.running ≢ 0 → t ≢ s.running
  not_running n e = omega (arith, is_waiting, ap (state_of s) e, sound.runs.up n)

  same : (u : State) → u.count ≡ s.count → u.chains ≡ s.chains → u.wakes ≡ s.wakes → Next t c u
  same u a b d =
      inl (
        omega (arith, a),
        record {
          there = subst (λ (X : Chain → List ℕ). In t (X time_chain)) (sym b) m.there;
          due = ap (λ (l : List ℕ). get_or l t 0) d ∙ m.due;
        },
      )

  here : Next t c s
  here = same s refl refl refl

  scheduled_next : (u : ℕ) → Next t c (scheduled r s u).now
  unfolding scheduled activate
  scheduled_next u = tested_cases r u _ (λ w. Next t c w.now) (λ e k. same _ refl refl refl) (λ n. same _ refl refl refl)

  cancelled_next : (u : ℕ) → (1 ≤ u) × (u ≤ r.tasks) → (Under r.controller u t → ⊥) → Next t c (cancelled r s u).now
  unfolding cancelled
  cancelled_next u a n =
      let b = sound.tasks.within t (λ z. omega (arith, z, is_waiting)) in
      let unmarked : is_marked (family r.controller u) t ≡ false =
      by (is_marked (family r.controller u) t)
      (λ e. absurd (n ((family_is r ok u a.0 (omega (arith, a.1, ok.tasks_le)) t b.0 (omega (arith, b.1, ok.tasks_le))).0 (eqb-true _ 1 e))))
      (λ e. e) in
      inl (
        low,
        record {
          there =
              subst (λ (l : List ℕ). In t l) (sym (deserted_is (family r.controller u) s.chains time_chain known))
              (keep_in (λ (x : ℕ). not (is_marked (family r.controller u) x)) t (s.chains time_chain) m.there (ap not unmarked));
          due = m.due;
        },
      )
    where
      known : (x : ℕ) → In x (s.chains time_chain) → (1 ≤ x) × (x ≤ 64)
      known x i =
          let b = sound.tasks.within x (λ z. omega (arith, z, sound.chains.listed.two x (time_chain, i))) in
          (b.0, omega (arith, b.1, ok.tasks_le))

  ticked_next : Next t c (ticked r s).now
  unfolding ticked wake_due
  ticked_next =
      by (is_due s.wakes (suc s.count) t)
      (λ e. inr (
        sym (eqb-true (wake_of s t) (suc s.count) e) ∙ m.due,
        rouse_in t (keep (is_due s.wakes (suc s.count)) (s.chains time_chain)) s.states (in_range s.states t 1 is_waiting)
            (keep_in (is_due s.wakes (suc s.count)) t (s.chains time_chain) m.there e),
      ))
      (λ e. inl (
        omega (arith, eqb-false (wake_of s t) (suc s.count) e, m.due),
        record {
          there = keep_in (λ (u : ℕ). not (is_due s.wakes (suc s.count) u)) t (s.chains time_chain) m.there (ap not e);
          due = m.due;
        },
      ))

  counted_next : (b : Bool) (x : ℕ) → s.running ≢ 0 → Next t c (cond b s (wait_until_count s x))
  unfolding wait_until_count
  counted_next true x n = here
  counted_next false x n =
      inl (
        low,
        record {
          there = place_old (λ (a : ℕ). get_or (set s.wakes s.running x) a 0) s.running t (s.chains time_chain) m.there;
          due = get_or-set_other s.wakes s.running t x 0 (not_running n) ∙ m.due;
        },
      )

  flagged_next : (b : Bool) (f v : ℕ) → Next t c (cond b s (wait_on s f v))
  unfolding wait_on
  flagged_next true f v = here
  flagged_next false f v =
      inl (
        low,
        record {
          there = m.there;
          due = m.due;
        },
      )

  effect_next : (k : Call) → refusal r s k ≡ 0 → (Struck r s k t → ⊥) → Next t c (effect r s k).now
  unfolding effect finished terminated leave refusal refusals
  effect_next (schedule u) e n = scheduled_next u
  effect_next (cancel u) e n = cancelled_next u (named_is r s u (is_uninvoked s u) e).task (λ h. n (e, h))
  effect_next (terminate u) e n =
      inl (low, record { there = without_in u t (s.chains time_chain) m.there (λ q. n (e, q)); due = m.due })
  effect_next finish e n = same _ refl refl refl
  effect_next (tick buffer) e n = ticked_next
  effect_next (wait_until x) e n = counted_next (leb x s.count) x (somebody_runs s _ e)
  effect_next (wait_for x) e n = counted_next (leb (s.count + x) s.count) (s.count + x) (somebody_runs s _ e)
  effect_next (latched f v) e n = flagged_next (eqb (value_of s f) v) f v
  effect_next (unlatched f v) e n = flagged_next false f v
  effect_next (signal f v) e n = here
  effect_next (read_flag f) e n = here
  effect_next (read_block k area buffer) e n = here
  effect_next (write_block k area buffer) e n = here
  effect_next next_waking e n = here
  effect_next (read_overruns u) e n = here
  effect_next (why_not u d) e n = here

  -- THE ONE-STEP LAW
  pub step_next : (k : Call) → (Struck r s k t → ⊥) → Next t c (step r s k).next
  unfolding step after accepted settled
  step_next k n = go (refusal r s k) refl
    where
      go : (x : ℕ) → refusal r s k ≡ x → Next t c (after x r s k).next
      go zero e = next_kept t c _ _ (settled_kept r (ended s k) (effect r s k)) (effect_next k e n)
      go (suc x) e = here

-- ---- counts

either_count : (s : State) (b : Bool) (u : State) → u.count ≡ s.count → s.count ≤ (cond b s u).count
either_count s true u e = le_refl _
either_count s false u e = omega (arith, e)

-- no call lowers the count
effect_count : (r : Rig) (s : State) (k : Call) → s.count ≤ (effect r s k).now.count
unfolding effect scheduled finished terminated cancelled ticked wake_due wait_on wait_until_count activate
effect_count r s (schedule t) = tested_keeps r (λ x. s.count ≤ x.count) (λ u w e k. k) t _ (le_refl _)
effect_count r s (cancel t) = le_refl _
effect_count r s (terminate t) = le_refl _
effect_count r s finish = le_refl _
effect_count r s (tick buffer) = omega arith
effect_count r s (wait_until t) = either_count s (leb t s.count) (wait_until_count s t) refl
effect_count r s (wait_for n) = either_count s (leb (s.count + n) s.count) (wait_until_count s (s.count + n)) refl
effect_count r s (latched f v) = either_count s (eqb (value_of s f) v) (wait_on s f v) refl
effect_count r s (unlatched f v) = le_refl _
effect_count r s (signal f v) = le_refl _
effect_count r s (read_flag f) = le_refl _
effect_count r s (read_block k area buffer) = le_refl _
effect_count r s (write_block k area buffer) = le_refl _
effect_count r s next_waking = le_refl _
effect_count r s (read_overruns t) = le_refl _
effect_count r s (why_not t d) = le_refl _

accepted_count : (r : Rig) (s : State) (k : Call) → (accepted r s k).next.count ≡ (effect r s k).now.count
unfolding accepted settled dispatch
accepted_count r s k = settle_count r (effect r s k) (ended s k)

step_count : (r : Rig) (s : State) (k : Call) → s.count ≤ (step r s k).next.count
unfolding step after
step_count r s k = go (refusal r s k)
  where
    go : (n : ℕ) → s.count ≤ (after n r s k).next.count
    go zero = omega (arith, accepted_count r s k, effect_count r s k)
    go (suc n) = le_refl _

run_count : (r : Rig) (s : State) (ks : List Call) → s.count ≤ (run r s ks).count
unfolding run
run_count r s [] = le_refl _
run_count r s (k ∷ ks) = le_trans (step_count r s k) (run_count r (step r s k).next ks)

step_accepted : (r : Rig) (s : State) (k : Call) → refusal r s k ≡ 0 → step r s k ≡ accepted r s k
unfolding step after
step_accepted r s k e = ap (λ (n : ℕ). after n r s k) e

-- a tick below the last count, with a buffer of at least 128 words, is accepted, and raises the count by one
tick_accepted : (r : Rig) (s : State) (buffer : List ℕ) → s.count < last_count → 128 ≤ length buffer → refusal r s (tick buffer) ≡ 0
unfolding refusal refusals decide
tick_accepted r s buffer a b = rw (lt-leb last_count s.count a, le-ltb (length buffer) 128 b)

tick_count : (r : Rig) (s : State) (buffer : List ℕ) → refusal r s (tick buffer) ≡ 0
    → ((step r s (tick buffer)).answer.code ≡ 0) × ((step r s (tick buffer)).next.count ≡ suc s.count)
unfolding accepted effect ticked wake_due
tick_count r s buffer e = rw (step_accepted r s (tick buffer) e) (refl, accepted_count r s (tick buffer))

-- ---- runs

module _ (r : Rig) (ok : RigOk r) (t c : ℕ) where
  -- as long as the count is below c the task stays in the time chain
  stays : (ks : List Call) (s : State) → Sound r s → Due t c s → s.count < c → ProperRun ks → Spared r s ks t → (run r s ks).count < c
      → Due t c (run r s ks)
  unfolding run Spared
  stays [] s sound m low p n e = m
  stays (k ∷ ks) s sound m low p n e =
      go (step_next r ok s sound t c m low k n.0)
      (λ d y. stays ks (step r s k).next (step_sound r ok s sound k p.0) d y p.1 n.1 e)
    where
      go : Next t c (step r s k).next → (Due t c (step r s k).next → (step r s k).next.count < c → Due t c (run r s (k ∷ ks))) → Due t c (run r s (k ∷ ks))
      go (inl x) ih = ih x.1 x.0
      go (inr x) ih = absurd (omega (arith, x.0, run_count r (step r s k).next ks))

  -- from a sound state in which task t waits for the count c
  pub due_wakes : (s : State) → Sound r s → Due t c s → s.count < c → c ≤ last_count → (ks : List Call) → ProperRun ks → Spared r s ks t → WakesByRules r t c s ks
  due_wakes s sound m low top ks p n =
      record {
        waits = λ l. is_waiting r ok (run r s ks) (run_sound r ok s sound ks p) t c (stays ks s sound m low p n l) l;
        wakes = λ buffer b q.
            let l : (run r s ks).count < c = omega arith in
            let e = tick_accepted r (run r s ks) buffer (omega arith) b in
            let k = tick_count r (run r s ks) buffer e in
            let x = step_next r ok (run r s ks) (run_sound r ok s sound ks p) t c (stays ks s sound m low p n l) l (tick buffer) (λ z. z) in
            (k.0, k.1 ∙ q, up (step r (run r s ks) (tick buffer)).next (k.1 ∙ q) x);
      }
    where
      up : (u : State) → u.count ≡ c → Next t c u → state_of u t ≡ 3
      up u q (inl x) = absurd (omega (arith, x.0, q))
      up u q (inr x) = x.1

-- ---- the two waits for a count

-- a wait that begins is for the count that the call gives
begun : (b : Bool) (x c : ℕ) → cond b nothing (until_count x) ≡ until_count c → (b ≡ false) × (x ≡ c)
begun true x c e = absurd (let z : ◌≡◌ {A = ℕ} 0 1 = cc in omega arith)
begun false x c e = (refl, cc)

begun_flag : (b : Bool) (f v c : ℕ) → cond b nothing (on_flag f v) ≡ until_count c → ⊥
begun_flag true f v c e = let z : ◌≡◌ {A = ℕ} 0 1 = cc in omega arith
begun_flag false f v c e = let z : ◌≡◌ {A = ℕ} 0 1 = cc in omega arith

-- what is known of an accepted call that begins a wait for the count c
pub record Begun (r : Rig) (s : State) (k : Call) (c : ℕ) : Type 0 where
  pub runs : s.running ≢ 0
  pub ahead : s.count < c
  pub top : c ≤ last_count
  pub now : (effect r s k).now ≡ wait_until_count s c

-- x is the count that the call gives
begun_wait : (r : Rig) (s : State) (k : Call) (x c : ℕ) → s.running ≢ 0 → ltb last_count x ≡ false
    → (effect r s k).now ≡ cond (leb x s.count) s (wait_until_count s x) → cond (leb x s.count) nothing (until_count x) ≡ until_count c → Begun r s k c
begun_wait r s k x c n top e b =
    let a = begun (leb x s.count) x c b in
    record {
      runs = n;
      ahead = omega (arith, leb-false x s.count a.0, a.1);
      top = omega (arith, ltb-false last_count x top, a.1);
      now = e ∙ ap (λ (y : Bool). cond y s (wait_until_count s x)) a.0 ∙ ap (wait_until_count s) a.1;
    }

nothing_begun : (c : ℕ) → nothing ≡ until_count c → ⊥
nothing_begun c e = true≢false (begun true 0 c e).0

pub begun_is : (r : Rig) (s : State) (k : Call) (c : ℕ) → refusal r s k ≡ 0 → begins s k ≡ until_count c → Begun r s k c
unfolding begins effect refusal refusals
begun_is r s (schedule t) c e b = absurd (nothing_begun c b)
begun_is r s (cancel t) c e b = absurd (nothing_begun c b)
begun_is r s (terminate t) c e b = absurd (nothing_begun c b)
begun_is r s finish c e b = absurd (nothing_begun c b)
begun_is r s (tick buffer) c e b = absurd (nothing_begun c b)
begun_is r s (wait_until x) c e b =
    let a = passed 4 (eqb s.running 0) _ e in
    begun_wait r s (wait_until x) x c (eqb-false s.running 0 a.0) (passed 8 (ltb last_count x) [] a.1).0 refl b
begun_is r s (wait_for n) c e b =
    let a = passed 4 (eqb s.running 0) _ e in
    begun_wait r s (wait_for n) (s.count + n) c (eqb-false s.running 0 a.0) (passed 8 (ltb last_count (s.count + n)) [] a.1).0 refl b
begun_is r s (latched f v) c e b = absurd (begun_flag (eqb (value_of s f) v) f v c b)
begun_is r s (unlatched f v) c e b = absurd (begun_flag false f v c b)
begun_is r s (signal f v) c e b = absurd (nothing_begun c b)
begun_is r s (read_flag f) c e b = absurd (nothing_begun c b)
begun_is r s (read_block k area buffer) c e b = absurd (nothing_begun c b)
begun_is r s (write_block k area buffer) c e b = absurd (nothing_begun c b)
begun_is r s next_waking c e b = absurd (nothing_begun c b)
begun_is r s (read_overruns t) c e b = absurd (nothing_begun c b)
begun_is r s (why_not t d) c e b = absurd (nothing_begun c b)

module _ (r : Rig) (ok : RigOk r) where
  -- then the running task is in the time chain for it
  begun_due : (s : State) → Sound r s → (k : Call) (c : ℕ) → refusal r s k ≡ 0 → Begun r s k c → Due s.running c (step r s k).next
  unfolding accepted settled wait_until_count
  begun_due s sound k c e b =
      rw (step_accepted r s k e)
      ((settled_kept r (ended s k) (effect r s k)).due s.running c
      (subst (λ (u : State). Due s.running c u) (sym b.now)
      (record {
        there = place_new (λ (a : ℕ). get_or (set s.wakes s.running c) a 0) s.running (s.chains time_chain);
        due = get_or-set_same s.wakes s.running c 0
            (omega (arith, in_range s.states s.running 2 (sound.runs.up b.runs), sound.tasks.sized, sound.wakes.sized));
      })))

  -- THE WAKING CLAUSE: after any run `before` from an accepted start a call k is accepted by which the running task begins
  -- to wait for the count c; then whatever calls `between` are made that spare it
  pub waking : (before between : List Call) (k : Call) (c : ℕ) → ProperRun before → Proper k → ProperRun between
      → refusal r (run r (start r) before) k ≡ 0
      → begins (run r (start r) before) k ≡ until_count c
      → Spared r (step r (run r (start r) before) k).next between (run r (start r) before).running
      → WakesByRules r (run r (start r) before).running c (step r (run r (start r) before) k).next between
  unfolding wait_until_count
  waking before between k c p q u e b n =
      due_wakes r ok s.running c (step r s k).next (step_sound r ok s sound k q) (begun_due s sound k c e g)
      (rw (step_accepted r s k e) (omega (arith, accepted_count r s k, ap (λ (x : State). x.count) g.now, g.ahead))) g.top between u n
    where
      s : State
      s = run r (start r) before

      sound : Sound r s
      sound = always r ok before p

      g : Begun r s k c
      g = begun_is r s k c e b

  -- the two waits: until a count c above the count, for n cycles
  pub waking_until : (before between : List Call) (c : ℕ) → ProperRun before → ProperRun between
      → refusal r (run r (start r) before) (wait_until c) ≡ 0
      → (run r (start r) before).count < c
      → Spared r (step r (run r (start r) before) (wait_until c)).next between (run r (start r) before).running
      → WakesByRules r (run r (start r) before).running c (step r (run r (start r) before) (wait_until c)).next between
  unfolding begins
  waking_until before between c p u e low n =
      waking before between (wait_until c) c p tt u e
      (ap (λ (b : Bool). cond b nothing (until_count c)) (lt-leb c (run r (start r) before).count low)) n

  pub waking_for : (before between : List Call) (n : ℕ) → ProperRun before → ProperRun between
      → refusal r (run r (start r) before) (wait_for n) ≡ 0
      → 1 ≤ n
      → Spared r (step r (run r (start r) before) (wait_for n)).next between (run r (start r) before).running
      → WakesByRules r (run r (start r) before).running ((run r (start r) before).count + n) (step r (run r (start r) before) (wait_for n)).next between
  unfolding begins
  waking_for before between n p u e low x =
      let k = (run r (start r) before).count in
      waking before between (wait_for n) (k + n) p tt u e (ap (λ (b : Bool). cond b nothing (until_count (k + n))) (lt-leb (k + n) k (omega arith))) x
