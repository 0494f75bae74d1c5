-- WHEN THE BENCH NEXT WAKES SOMEONE: what is computed is the lowest waking count, and the head of the time chain has it; who
-- comes to wait on time, and for which counts.
use Rattle.std.specs.Prelude.{◌≡◌, ◌≢◌, ◌⊎◌, Bool, cond, ◌&&◌, ◌||◌, eqb, leb, ltb, set}
use Rattle.std.proofs.Math.Path.{refl, ap, subst}
use Rattle.std.proofs.Common.{sym, ◌∙◌, arith, le_refl, eqb-true, ltb-true, ltb-false}
use Rattle.std.proofs.Math.Logic.{inl, inr, ⊎_elim}
use Rattle.std.proofs.Math.Bool.{true, false, not}
use Rattle.std.proofs.lemmas.Bool.{false≢true, eqb-false}
use mathlib.Core.List.{List, [], ◌∷◌}
use Prim.Native.Nat.{ℕ, zero, suc, ◌+◌, ◌≤◌, ◌<◌}
use Rattle.std.proofs.Math.Numerals.{add-one}
use Rattle.std.proofs.Math.ListN.{length, get_or}
use Rattle.std.proofs.Math.Seq.{get_or-set_same, get_or-set_other}
use Rattle.laws.specs.Laws.Iter.{iter_ind}
use Rattle.laws.specs.Laws.Tables.{in_range, below_suc}
use Rattle.laws.specs.Laws.Decides.{is_eqb, is_and, is_in_lem}
use Rattle.laws.specs.Members.{In}
use Rattle.laws.specs.Laws.Members.{in_without, in_keep}
use Rattle.laws.specs.Order.{Sorted}
use Rattle.laws.specs.Laws.Order.{in_place}
use Rattle.rules.specs.Rig.{Rig}
use Rattle.rules.specs.RigOk.{RigOk}
use Rattle.rules.specs.State.{Chain, time_chain, State, Work, state_of, value_of, wake_of, blank}
use Rattle.rules.specs.Serving.{activate, takes, wake, serve}
use Rattle.rules.specs.Waiting.{wait_on, wait_until_count, leave, is_due, wake_due}
use Rattle.rules.specs.Family.{family, is_marked, leave_one, deserted}
use Rattle.rules.specs.Running.{dispatch}
use Rattle.rules.specs.NextWaking.{WaitsOnTime, LowestWaking, waits_on_time, lower_one, lowest_waking}
use Rattle.rules.specs.Calls.{Call, schedule, cancel, terminate, finish, tick, wait_until, wait_for, latched, unlatched, signal, read_flag, read_block, write_block, next_waking, read_overruns, why_not}
use Rattle.rules.specs.Calls.{scheduled, finished, terminated, cancelled, ticked, effect, refusal, refusals, last_count, decide, value_only, output, ended, again, settled, accepted, after, step, run, started, start}
use Rattle.rules.specs.Proper.{ProperRun}
use Rattle.rules.specs.History.{nothing, until_count, begins}
use Rattle.rules.specs.Soundness.{Sound}
use Rattle.rules_laws.specs.Acceptance.{somebody_runs}
use Rattle.rules_laws.specs.Good.{settle_keeps}
use Rattle.rules_laws.specs.Testing.{tested_keeps}
use Rattle.rules_laws.specs.Steps.{step_sound, start_sound, question_step}
use Rattle.rules_laws.specs.WakingLaws.{begun_is}

-- ---- the lowest

-- the words fix the number
pub lowest_same : (s : State) (m n : ℕ) → LowestWaking s m → LowestWaking s n → m ≡ n
lowest_same s zero zero a b = refl
lowest_same s zero (suc n) a b =
    let w = b.some (λ z. omega arith) in
    absurd (a.none.0 refl w.0 w.1)
lowest_same s (suc m) zero a b =
    let w = a.some (λ z. omega arith) in
    absurd (b.none.0 refl w.0 w.1)
lowest_same s (suc m) (suc n) a b =
    let v = a.some (λ z. omega arith) in
    let w = b.some (λ z. omega arith) in
    omega (arith, v.2, w.2, a.lowest w.0 w.1, b.lowest v.0 v.1)

module _ (r : Rig) (s : State) (h : Sound r s) where
  on_time : (t : ℕ) → (waits_on_time s t ≡ true → WaitsOnTime s t) × (WaitsOnTime s t → waits_on_time s t ≡ true)
  on_time t = is_and (is_eqb (state_of s t) 2) (is_in_lem t (s.chains time_chain))

  -- who is in the time chain is waiting: to be there is to wait on time
  pub in_time : (t : ℕ) → In t (s.chains time_chain) → WaitsOnTime s t
  in_time t i = (h.chains.listed.two t (time_chain, i), i)

  -- a waking count is above the count, so it is not 0
  above : (t : ℕ) → WaitsOnTime s t → wake_of s t ≢ 0
  above t w e = omega (arith, h.chains.ahead t w.1, e)

  -- of the tasks 1 to k
  record Lower (k n : ℕ) : Type 0 where
    some : n ≢ 0 → (t : ℕ) × WaitsOnTime s t × (wake_of s t ≡ n)
    lowest : (t : ℕ) → t < k → WaitsOnTime s (suc t) → (n ≢ 0) × (n ≤ wake_of s (suc t))

  lower_turn : (k n : ℕ) → Lower k n → Lower (suc k) (cond (waits_on_time s (suc k) && (eqb n 0 || ltb (wake_of s (suc k)) n)) (wake_of s (suc k)) n)
  lower_turn k n ih = go (waits_on_time s (suc k)) refl (eqb n 0) refl (ltb (wake_of s (suc k)) n) refl
    where
      go : (a : Bool) → waits_on_time s (suc k) ≡ a → (b : Bool) → eqb n 0 ≡ b → (c : Bool) → ltb (wake_of s (suc k)) n ≡ c
          → Lower (suc k) (cond (a && (b || c)) (wake_of s (suc k)) n)
      go false e b y c x =
          record { some = ih.some; lowest = below_suc _ k ih.lowest (λ w. absurd (false≢true (sym e ∙ (on_time (suc k)).1 w))) }
      go true e true y c x =
          let w = (on_time (suc k)).0 e in
          record {
            some = λ z. (suc k, w, refl);
            lowest = below_suc _ k (λ t l v. absurd ((ih.lowest t l v).0 (eqb-true n 0 y))) (λ v. (above (suc k) w, le_refl _));
          }
      go true e false y true x =
          let w = (on_time (suc k)).0 e in
          record {
            some = λ z. (suc k, w, refl);
            lowest = below_suc _ k (λ t l v. (above (suc k) w, omega (arith, ltb-true (wake_of s (suc k)) n x, (ih.lowest t l v).1))) (λ v. (above (suc k) w, le_refl _));
          }
      go true e false y false x =
          record { some = ih.some; lowest = below_suc _ k ih.lowest (λ v. (eqb-false n 0 y, ltb-false _ _ x)) }

  lower_all : Lower 64 (lowest_waking s)
  unfolding lowest_waking
  lower_all =
      iter_ind Lower (lower_one s) 0
      (record { some = λ n. absurd (n refl); lowest = λ t l w. absurd (omega (arith, l)) })
      (λ i n k. rw add-one (lower_turn i n k)) 64

  -- tasks have numbers 1 to 64
  found : (t : ℕ) → WaitsOnTime s t → (lowest_waking s ≢ 0) × (lowest_waking s ≤ wake_of s t)
  found zero w = absurd (omega (arith, (h.tasks.within 0 (λ z. omega (arith, z, w.0))).0))
  found (suc t) w = lower_all.lowest t (omega (arith, in_range s.states (suc t) 1 w.0, h.tasks.sized)) w

  -- WHAT IS COMPUTED is what the words say
  pub lowest_is : LowestWaking s (lowest_waking s)
  lowest_is =
      record {
        none = ((λ e t w. (found t w).0 e), (λ f. go (lowest_waking s) refl f));
        some = lower_all.some;
        lowest = λ t w. (found t w).1;
      }
    where
      go : (n : ℕ) → lowest_waking s ≡ n → ((t : ℕ) → WaitsOnTime s t → ⊥) → n ≡ 0
      go zero e f = refl
      go (suc n) e f = let w = lower_all.some (λ z. omega (arith, e, z)) in absurd (f w.0 w.1)

  -- "read at the head of the time chain": nobody there, or one whose waking count is the lowest
  pub nobody_there : s.chains time_chain ≡ [] → 0 ≡ lowest_waking s
  nobody_there e =
      lowest_same s 0 (lowest_waking s)
      (record {
        none = ((λ z t w. subst (In t) e w.1), (λ f. refl));
        some = λ n. absurd (n refl);
        lowest = λ t w. absurd (subst (In t) e w.1);
      })
      lowest_is

  pub head_lowest : (x : ℕ) (xs : List ℕ) → s.chains time_chain ≡ x ∷ xs → wake_of s x ≡ lowest_waking s
  head_lowest x xs e =
      lowest_same s (wake_of s x) (lowest_waking s)
      (record {
        none = ((λ z. absurd (above x head z)), (λ f. absurd (f x head)));
        some = λ n. (x, head, refl);
        lowest = λ t w. go t (subst (In t) e w.1);
      })
      lowest_is
    where
      head : WaitsOnTime s x
      head = in_time x (subst (In x) (sym e) (inl refl))

      in_order : Sorted (λ (a : ℕ). wake_of s a) (x ∷ xs)
      in_order = subst (Sorted (λ (a : ℕ). wake_of s a)) e h.chains.ordered

      go : (t : ℕ) → In t (x ∷ xs) → wake_of s x ≤ wake_of s t
      go t (inl q) = omega (arith, ap (wake_of s) q)
      go t (inr i) = in_order.0 t i

-- ---- the question itself

-- the state is what it was, no flag is served, and the lowest waking count is told
pub asked_step : (r : Rig) (s : State) → Sound r s
    → step r s next_waking ≡ record { next = s; answer = record { code = 0; report = value_only (lowest_waking s) }; lent = [] }
unfolding ended refusal refusals decide effect output
asked_step r s h = question_step r s h next_waking refl refl refl

-- ---- who comes to wait on time: the running task, by a call that begins a wait for a count, and nobody else

-- whoever waits on time in u did so in s, for the same count
abbrev Thinner : State → State → Type 0
Thinner s u = (t : ℕ) → In t (u.chains time_chain) → In t (s.chains time_chain) × (wake_of u t ≡ wake_of s t)

-- a serving, the test of a task, and a dispatch bring nobody
settled_thinner : (r : Rig) (t : ℕ) (w : Work) → Thinner w.now (dispatch r (again r t (serve r w)).now)
unfolding dispatch takes wake activate
settled_thinner r t w =
    settle_keeps r (λ u. Thinner w.now u) (λ e u k. k) (λ f v u k. k) (λ v x g k. k) t w (λ t i. (i, refl))

-- task t waits on time after the call k, which left u: it did so before, or it ran and the call began its wait
abbrev Came : State → Call → State → ℕ → Type 0
Came s k u t = (In t (s.chains time_chain) × (wake_of u t ≡ wake_of s t)) ⊎ ((t ≡ s.running) × (begins s k ≡ until_count (wake_of u t)))

module _ (r : Rig) (s : State) (h : Sound r s) where
  scheduled_thinner : (t : ℕ) → Thinner s (scheduled r s t).now
  unfolding scheduled activate
  scheduled_thinner t = tested_keeps r (Thinner s) (λ v x g k. k) t _ (λ u i. (i, refl))

  deserted_thinner : (marks : List ℕ) (t : ℕ) → In t (deserted marks s.chains time_chain) → In t (s.chains time_chain)
  unfolding deserted leave
  deserted_thinner marks t =
      iter_ind (λ i X. In t (X time_chain) → In t (s.chains time_chain)) (leave_one marks) s.chains (λ i. i)
      (λ i X f. go (is_marked marks (i + 1)) i X f) 64
    where
      go : (b : Bool) (i : ℕ) (X : Chain → List ℕ) → (In t (X time_chain) → In t (s.chains time_chain))
          → In t ((cond b (leave (i + 1) X) X) time_chain) → In t (s.chains time_chain)
      go true i X f j = f (in_without (i + 1) t (X time_chain) j).0
      go false i X f j = f j

  -- the running task is in no chain
  not_there : s.running ≢ 0 → (t : ℕ) → In t (s.chains time_chain) → t ≢ s.running
  not_there n t i e =
      omega (arith, h.chains.listed.two t (time_chain, i), ap (state_of s) e, h.runs.up n)

  -- a wait for the count c begins, or the count is reached and none does
  until_came : (k : Call) (c : ℕ) (b : Bool) → begins s k ≡ cond b nothing (until_count c) → s.running ≢ 0
      → (t : ℕ) → In t ((cond b s (wait_until_count s c)).chains time_chain) → Came s k (cond b s (wait_until_count s c)) t
  unfolding wait_until_count
  until_came k c true e n t i = inl (i, refl)
  until_came k c false e n t i =
      ⊎_elim
      (λ q. inr (q, e ∙ ap until_count (sym (ap (λ (a : ℕ). get_or (set s.wakes s.running c) a 0) q ∙ get_or-set_same s.wakes s.running c 0 room))))
      (λ j. inl (j, get_or-set_other s.wakes s.running t c 0 (not_there n t j)))
      (in_place (λ (a : ℕ). get_or (set s.wakes s.running c) a 0) s.running t (s.chains time_chain) i)
    where
      room : s.running < length s.wakes
      room = omega (arith, in_range s.states s.running 2 (h.runs.up n), h.tasks.sized, h.wakes.sized)

  flag_thinner : (f v : ℕ) (b : Bool) → Thinner s (cond b s (wait_on s f v))
  unfolding wait_on
  flag_thinner f v true t i = (i, refl)
  flag_thinner f v false t i = (i, refl)

  effect_came : (k : Call) → refusal r s k ≡ 0 → (t : ℕ) → In t ((effect r s k).now.chains time_chain) → Came s k (effect r s k).now t
  unfolding effect finished terminated cancelled leave ticked wake_due refusal refusals begins
  effect_came (schedule u) e t i = inl (scheduled_thinner u t i)
  effect_came (cancel u) e t i = inl (deserted_thinner (family r.controller u) t i, refl)
  effect_came (terminate u) e t i = inl ((in_without u t (s.chains time_chain) i).0, refl)
  effect_came finish e t i = inl (i, refl)
  effect_came (tick buffer) e t i =
      inl (in_keep (λ (x : ℕ). not (is_due s.wakes (suc s.count) x)) t (s.chains time_chain) i, refl)
  effect_came (wait_until c) e t i = until_came (wait_until c) c (leb c s.count) refl (somebody_runs s _ e) t i
  effect_came (wait_for n) e t i = until_came (wait_for n) (s.count + n) (leb (s.count + n) s.count) refl (somebody_runs s _ e) t i
  effect_came (latched f v) e t i = inl (flag_thinner f v (eqb (value_of s f) v) t i)
  effect_came (unlatched f v) e t i = inl (flag_thinner f v false t i)
  effect_came (signal f v) e t i = inl (i, refl)
  effect_came (read_flag f) e t i = inl (i, refl)
  effect_came (read_block k area buffer) e t i = inl (i, refl)
  effect_came (write_block k area buffer) e t i = inl (i, refl)
  effect_came next_waking e t i = inl (i, refl)
  effect_came (read_overruns u) e t i = inl (i, refl)
  effect_came (why_not u d) e t i = inl (i, refl)

  -- what is said of the waking counts of those who wait on time, and of every count for which a wait begins, is kept
  pub step_counts : (P : ℕ → Type 0) (k : Call) → ((c : ℕ) → refusal r s k ≡ 0 → begins s k ≡ until_count c → P c)
      → ((t : ℕ) → In t (s.chains time_chain) → P (wake_of s t))
      → (t : ℕ) → In t ((step r s k).next.chains time_chain) → P (wake_of (step r s k).next t)
  unfolding step after accepted settled
  step_counts P k new old t = go (refusal r s k) refl
    where
      go : (n : ℕ) → refusal r s k ≡ n → In t ((after n r s k).next.chains time_chain) → P (wake_of (after n r s k).next t)
      go zero e i =
          let w = settled_thinner r (ended s k) (effect r s k) t i in
          subst P (sym w.1)
          (⊎_elim (λ p. subst P (sym p.1) (old t p.0)) (λ p. new _ e p.1) (effect_came k e t w.0))
      go (suc n) e i = old t i

-- ---- runs

-- every count for which a wait begins, by an accepted call of the run, is as P says
unfoldable pub OnlyBegins : (ℕ → Type 0) → Rig → State → List Call → Type 0
OnlyBegins P r s [] = Unit {0}
OnlyBegins P r s (k ∷ ks) = ((d : ℕ) → refusal r s k ≡ 0 → begins s k ≡ until_count d → P d) × OnlyBegins P r (step r s k).next ks

-- 9 refuses a wait for a count above the last
within_counts : (r : Rig) (ks : List Call) (s : State) → OnlyBegins (λ (d : ℕ). d ≤ last_count) r s ks
unfolding OnlyBegins
within_counts r [] s = tt
within_counts r (k ∷ ks) s = ((λ d e b. (begun_is r s k d e b).top), within_counts r ks (step r s k).next)

module _ (r : Rig) (ok : RigOk r) where
  -- so is then every waking count of those who wait on time, if it was at first
  pub run_counts : (P : ℕ → Type 0) (ks : List Call) (s : State) → Sound r s → ProperRun ks → OnlyBegins P r s ks
      → ((t : ℕ) → In t (s.chains time_chain) → P (wake_of s t))
      → (t : ℕ) → In t ((run r s ks).chains time_chain) → P (wake_of (run r s ks) t)
  unfolding run OnlyBegins
  run_counts P [] s h p n f = f
  run_counts P (k ∷ ks) s h p n f =
      run_counts P ks (step r s k).next (step_sound r ok s h k p.0) p.1 n.1 (step_counts r s h P k n.0 f)

  -- at first nobody waits
  nobody_yet : (t : ℕ) → In t ((scheduled r blank 1).now.chains time_chain) → ⊥
  unfolding scheduled activate blank
  nobody_yet t = tested_keeps r (λ x. In t (x.chains time_chain) → ⊥) (λ v x g k. k) 1 _ (λ i. i)

  pub waking_in_range : (ks : List Call) → ProperRun ks
      → (t : ℕ) → In t ((run r (start r) ks).chains time_chain) → wake_of (run r (start r) ks) t ≤ last_count
  unfolding start started again
  waking_in_range ks p =
      run_counts (λ (d : ℕ). d ≤ last_count) ks (start r) (start_sound r ok) p (within_counts r ks (start r))
      (λ t i. absurd (nobody_yet t (settled_thinner r 0 (scheduled r blank 1) t i).0))
