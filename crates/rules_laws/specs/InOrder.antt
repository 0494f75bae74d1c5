-- After any run from the start each chain is in the order that the history of waits says.
use Rattle.std.specs.Prelude.{◌≡◌, ◌⊎◌, ◌≢◌, ◌↔◌, Bool, not, cond, eqb, leb, length, get_or, set}
use Rattle.std.proofs.Math.Path.{refl}
use Rattle.std.proofs.Common.{sym, ap, ◌∙◌, subst, inl, inr, ⊎_elim, arith, eqb-true, leb-true, leb-false, get_or-set_same, get_or-set_other}
use Rattle.std.proofs.Math.Bool.{true, false}
use mathlib.Core.List.{List, [], ◌∷◌, ◌++◌}
use Prim.Native.Nat.{ℕ, zero, suc, ◌+◌, ◌≤◌, ◌<◌}
use Rattle.std.proofs.lemmas.Bool.{eqb-false}
use Rattle.laws.specs.Cases.{by}
use Rattle.laws.specs.Laws.Iter.{iter_ind}
use Rattle.laws.specs.Functions.{upd}
use Rattle.laws.specs.Laws.Functions.{upd_same, upd_other}
use Rattle.laws.specs.Laws.Tables.{in_range}
use Rattle.laws.specs.Members.{In, keep}
use Rattle.laws.specs.Laws.Members.{in_cases, in_without, in_keep}
use Rattle.laws.specs.Order.{insert_by}
use Rattle.laws.specs.Laws.Order.{in_place}
use Rattle.laws.specs.Ordered.{Ordered}
use Rattle.laws.specs.Laws.Ordered.{ordered_map, ordered_keep, ordered_without, ordered_end, ordered_same}
use Rattle.rules.specs.Rig.{Rig}
use Rattle.rules.specs.RigOk.{RigOk}
use Rattle.rules.specs.State.{Chain, time_chain, chain_of, with_chain, State, Work, state_of, value_of, with_count, blank}
use Rattle.rules.specs.Serving.{activate, takes, wake, serve}
use Rattle.rules.specs.Waiting.{wait_on, wait_until_count, leave, is_due, wake_due}
use Rattle.rules.specs.Family.{family, is_marked, leave_one, deserted}
use Rattle.rules.specs.Running.{dispatch}
use Rattle.rules.specs.Calls.{Call, schedule, cancel, terminate, finish, tick, wait_until, wait_for, latched, unlatched, signal, read_flag, read_block, write_block, next_waking, read_overruns, why_not}
use Rattle.rules.specs.Calls.{scheduled, finished, terminated, cancelled, ticked, effect, refusal, refusals, ended, again, settled, accepted, after, step, run, started, start}
use Rattle.rules.specs.Proper.{ProperRun}
use Rattle.rules.specs.Soundness.{Somewhere, Sound}
use Rattle.rules.specs.Laws.Chains.{flag_no_time, on_chain}
use Rattle.rules_laws.specs.Good.{settle_keeps}
use Rattle.rules_laws.specs.Testing.{tested_keeps}
use Rattle.rules_laws.specs.Acceptance.{somebody_runs, flagged_is}
use Rattle.rules_laws.specs.Steps.{step_sound, start_sound}
use Rattle.rules.specs.History.{Wait, History, nothing, on_flag, until_count, begins, noted, noted_if, history, never, history_of, Earlier, Sooner, InOrder}

-- What is kept: of a history h whose calls have numbers below n, and a state's chains X and waking counts w
pub record Told (h : History) (n : ℕ) (w : List ℕ) (X : Chain → List ℕ) : Type 0 where
  -- each chain is in order, a flag's by the same words, since of a wait for a flag the count is 0
  pub order : (c : Chain) → Ordered (Sooner h) (X c)
  -- who is in a chain began there, before now
  pub past : (t : ℕ) (c : Chain) → In t (X c) → (h t).call < n
  pub home : (t : ℕ) (c : Chain) → In t (X c) → (h t).chain ≡ c
  pub count : (t : ℕ) → In t (X time_chain) → (h t).count ≡ get_or w t 0
  pub none : (t f v : ℕ) → In t (X (chain_of f v)) → (h t).count ≡ 0

-- ---- some leave: the chains Y are those that are left

module _ (h : History) (n : ℕ) (w : List ℕ) (X Y : Chain → List ℕ) (k : Told h n w X) where
  told_thin : ((c : Chain) → Ordered (Sooner h) (Y c)) → ((t : ℕ) (c : Chain) → In t (Y c) → In t (X c)) → Told h n w Y
  told_thin o f =
      record {
        order = o;
        past = λ t c i. k.past t c (f t c i);
        home = λ t c i. k.home t c (f t c i);
        count = λ t i. k.count t (f t time_chain i);
        none = λ t g v i. k.none t g v (f t (chain_of g v) i);
      }

module _ (h : History) (n : ℕ) (w : List ℕ) (X : Chain → List ℕ) (k : Told h n w X) where
  -- those of one chain who fail a test; all of them, where none passes it
  told_upd : (c : Chain) (ys : List ℕ) → Ordered (Sooner h) ys → ((t : ℕ) → In t ys → In t (X c)) → Told h n w (with_chain X c ys)
  told_upd c ys o f =
      told_thin h n w X (with_chain X c ys) k (λ d. on_chain (Ordered (Sooner h)) X c ys d (λ e. o) (λ e. k.order d))
      (λ t d. on_chain (λ (l : List ℕ). In t l → In t (X d)) X c ys d (λ e i. subst (λ (x : Chain). In t (X x)) (sym e) (f t i)) (λ e i. i))

  told_leave : (t : ℕ) → Told h n w (leave t X)
  unfolding leave
  told_leave t =
      told_thin h n w X (leave t X) k (λ c. ordered_without (Sooner h) t (X c) (k.order c)) (λ u c i. (in_without t u (X c) i).0)

told_desert : (h : History) (n : ℕ) (w : List ℕ) (X : Chain → List ℕ) (marks : List ℕ) → Told h n w X → Told h n w (deserted marks X)
unfolding deserted
told_desert h n w X marks k =
    iter_ind (λ i Y. Told h n w Y) (leave_one marks) X k (λ i Y g. go (is_marked marks (i + 1)) i Y g) 64
  where
    go : (b : Bool) (i : ℕ) (Y : Chain → List ℕ) → Told h n w Y → Told h n w (cond b (leave (i + 1) Y) Y)
    go true i Y g = told_leave h n w Y g (i + 1)
    go false i Y g = g

-- ---- one who is in no chain begins, with call number n

-- what is said of others
module _ (h : History) (X : Chain → List ℕ) (t : ℕ) (x : Wait) (out : Somewhere t X → ⊥) where
  other : (u : ℕ) (c : Chain) → In u (X c) → upd h t x u ≡ h u
  other u c i = upd_other h t x u (λ q. out (c, subst (λ (a : ℕ). In a (X c)) q i))

  order_other : (c : Chain) → Ordered (Sooner h) (X c) → Ordered (Sooner (upd h t x)) (X c)
  order_other c o =
      ordered_map (Sooner h) (Sooner (upd h t x)) (X c)
      (λ a b i j s. subst (λ (p : Wait). (p.count < (upd h t x b).count) ⊎ ((p.count ≡ (upd h t x b).count) × (p.call < (upd h t x b).call))) (sym (other a c i))
      (subst (λ (q : Wait). ((h a).count < q.count) ⊎ (((h a).count ≡ q.count) × ((h a).call < q.call))) (sym (other b c j)) s)) o

-- put in place by its count, behind all who began before
place_order : (h : History) (W : ℕ → ℕ) (t : ℕ) (xs : List ℕ) → (h t).count ≡ W t → ((a : ℕ) → In a xs → ((h a).count ≡ W a) × ((h a).call < (h t).call))
    → Ordered (Sooner h) xs → Ordered (Sooner h) (insert_by W t xs)
place_order h W t [] e f o = ((λ a i. absurd i), tt)
place_order h W t (y ∷ ys) e f o =
    by (leb (W y) (W t))
    (λ q. rw q (
      (λ a i. ⊎_elim (λ p. subst (λ (b : ℕ). Sooner h y b) (sym p) (behind q)) (λ j. o.0 a j) (in_place W t a ys i)),
      place_order h W t ys e (λ a i. f a (inr i)) o.1,
    ))
    (λ q. rw q ((λ a i. ⊎_elim (λ p. subst (λ (b : ℕ). Sooner h t b) (sym p) (inl (front q))) (λ j. inl (beyond a (front q) (o.0 a j))) i), o))
  where
    behind : leb (W y) (W t) ≡ true → Sooner h y t
    behind q =
        let l : W y ≤ W t = leb-true (W y) (W t) q in
        let p = f y (inl refl) in
        by (eqb (W y) (W t))
        (λ d. inr (p.0 ∙ eqb-true (W y) (W t) d ∙ sym e, p.1))
        (λ d. let m : W y ≢ W t = eqb-false (W y) (W t) d in inl (omega (arith, p.0)))

    front : leb (W y) (W t) ≡ false → (h t).count < (h y).count
    front q = omega (arith, leb-false (W y) (W t) q, (f y (inl refl)).0)

    beyond : (a : ℕ) → (h t).count < (h y).count → Sooner h y a → (h t).count < (h a).count
    beyond a l (inl s) = omega arith
    beyond a l (inr s) = omega (arith, s.0)

module _ (h : History) (n : ℕ) (w : List ℕ) (X : Chain → List ℕ) (t : ℕ) (out : Somewhere t X → ⊥) (k : Told h n w X) where
  -- chain c then reads ys, who are t and those of before; the waking counts are v
  joined : (c : Chain) (x : Wait) (ys v : List ℕ) → x.call ≡ n → x.chain ≡ c → (time_chain ≡ c → x.count ≡ get_or v t 0) → ((f b : ℕ) → chain_of f b ≡ c → x.count ≡ 0)
      → ((u : ℕ) → u ≢ t → get_or v u 0 ≡ get_or w u 0) → ((u : ℕ) → In u ys → (u ≡ t) ⊎ In u (X c)) → Ordered (Sooner (upd h t x)) ys
      → Told (upd h t x) (suc n) v (with_chain X c ys)
  joined c x ys v en ec et ef ev who o =
      record {
        order = λ d. on_chain (Ordered (Sooner (upd h t x))) X c ys d (λ e. o) (λ e. order_other h X t x out d (k.order d));
        past = λ u d i. said u d (λ p. p.call < suc n) (λ q e. omega arith) (λ j. omega (arith, k.past u d j)) i;
        home = λ u d i. said u d (λ p. p.chain ≡ d) (λ q e. ec ∙ sym e) (λ j. k.home u d j) i;
        count = λ u i. said u time_chain (λ p. p.count ≡ get_or v u 0)
            (λ q e. et e ∙ ap (λ (a : ℕ). get_or v a 0) (sym q))
            (λ j. k.count u j ∙ sym (ev u (λ q. out (time_chain, subst (λ (a : ℕ). In a (X time_chain)) q j)))) i;
        none = λ u f b i. said u (chain_of f b) (λ p. p.count ≡ 0) (λ q e. ef f b e) (λ j. k.none u f b j) i;
      }
    where
      -- of t by its new wait, of others by their old ones
      said : (u : ℕ) (d : Chain) (P : Wait → Type 0) → (u ≡ t → d ≡ c → P x) → (In u (X d) → P (h u)) → In u (with_chain X c ys d) → P (upd h t x u)
      said u d P new old =
          on_chain (λ (l : List ℕ). In u l → P (upd h t x u)) X c ys d
          (λ e i. ⊎_elim (λ q. subst P (sym (ap (upd h t x) q ∙ upd_same h t x)) (new q e)) (λ j. kept (subst (λ (a : Chain). In u (X a)) (sym e) j)) (who u i))
          (λ e i. kept i)
        where
          kept : In u (X d) → P (upd h t x u)
          kept j = subst P (sym (other h X t x out u d j)) (old j)

  -- for a flag's value: at the end of its chain
  told_flag : (f v : ℕ) → let c = chain_of f v in Told (upd h t (record { call = n; chain = c; count = 0 })) (suc n) w (with_chain X c (X c ++ t ∷ []))
  told_flag f v =
      joined c x (X c ++ t ∷ []) w refl refl (λ e. absurd (flag_no_time f v (sym e))) (λ g b e. refl) (λ u e. refl)
      (λ u i. ⊎_elim (λ j. inr j) (λ j. ⊎_elim (λ q. inl q) (λ z. absurd z) j) (in_cases u (X c) (t ∷ []) i))
      (ordered_end (Sooner (upd h t x)) t (X c) (λ a i. inr (zero_count a i, before a i)) (order_other h X t x out c (k.order c)))
    where
      c : Chain
      c = chain_of f v

      x : Wait
      x = record { call = n; chain = c; count = 0 }

      zero_count : (a : ℕ) → In a (X c) → (upd h t x a).count ≡ (upd h t x t).count
      zero_count a i = ap (λ (p : Wait). p.count) (other h X t x out a c i) ∙ k.none a f v i ∙ sym (ap (λ (p : Wait). p.count) (upd_same h t x))

      before : (a : ℕ) → In a (X c) → (upd h t x a).call < (upd h t x t).call
      before a i =
          omega (arith, k.past a c i, ap (λ (p : Wait). p.call) (other h X t x out a c i), ap (λ (p : Wait). p.call) (upd_same h t x))

  -- for a count: at its place in the time chain
  told_time : (d : ℕ) → t < length w
      → Told (upd h t (record { call = n; chain = time_chain; count = d })) (suc n) (set w t d)
      (with_chain X time_chain (insert_by (λ (a : ℕ). get_or (set w t d) a 0) t (X time_chain)))
  told_time d b =
      joined time_chain x (insert_by W t (X time_chain)) (set w t d) refl refl (λ e. sym (get_or-set_same w t d 0 b)) (λ f v e. absurd (flag_no_time f v e))
      (λ u e. get_or-set_other w t u d 0 e) (λ u i. in_place W t u (X time_chain) i)
      (place_order (upd h t x) W t (X time_chain) (ap (λ (p : Wait). p.count) (upd_same h t x) ∙ sym (get_or-set_same w t d 0 b)) (λ a i. (same a i, before a i))
      (order_other h X t x out time_chain (k.order time_chain)))
    where
      x : Wait
      x = record { call = n; chain = time_chain; count = d }

      W : ℕ → ℕ
      W a = get_or (set w t d) a 0

      same : (a : ℕ) → In a (X time_chain) → (upd h t x a).count ≡ W a
      same a i =
          ap (λ (p : Wait). p.count) (other h X t x out a time_chain i) ∙ k.count a i
          ∙ sym (get_or-set_other w t a d 0 (λ q. out (time_chain, subst (λ (z : ℕ). In z (X time_chain)) q i)))

      before : (a : ℕ) → In a (X time_chain) → (upd h t x a).call < (upd h t x t).call
      before a i =
          omega (arith, k.past a time_chain i, ap (λ (p : Wait). p.call) (other h X t x out a time_chain i), ap (λ (p : Wait). p.call) (upd_same h t x))

-- ---- the calls

told_later : (h : History) (n : ℕ) (w : List ℕ) (X : Chain → List ℕ) → Told h n w X → Told h (suc n) w X
told_later h n w X k =
    record { order = k.order; past = λ t c i. omega (arith, k.past t c i); home = k.home; count = k.count; none = k.none }

told_wake : (h : History) (n : ℕ) (c : Chain) (s : State) → Told h n s.wakes s.chains → Told h n (wake c s).wakes (wake c s).chains
unfolding wake
told_wake h n c s k = told_upd h n s.wakes s.chains k c [] tt (λ t i. absurd i)

-- those who are due leave
told_due : (h : History) (n : ℕ) (s : State) → Told h n s.wakes s.chains → Told h n (wake_due s).wakes (wake_due s).chains
unfolding wake_due
told_due h n s k =
    told_upd h n s.wakes s.chains k time_chain (keep stay (s.chains time_chain)) (ordered_keep (Sooner h) stay (s.chains time_chain) (k.order time_chain))
    (λ t i. in_keep stay t (s.chains time_chain) i)
  where
    stay : ℕ → Bool
    stay t = not (is_due s.wakes s.count t)

-- a serving, the test of task t, and then a dispatch
told_settled : (r : Rig) (h : History) (n t : ℕ) (w : Work) → Told h n w.now.wakes w.now.chains
    → Told h n (dispatch r (again r t (serve r w)).now).wakes (dispatch r (again r t (serve r w)).now).chains
unfolding takes activate dispatch
told_settled r h n t w k =
    settle_keeps r (λ s. Told h n s.wakes s.chains) (λ e s g. g) (λ f v s g. told_wake h n (chain_of f v) s g) (λ u x e g. g) t w k

told_scheduled : (r : Rig) (h : History) (n t : ℕ) (s : State) → Told h n s.wakes s.chains
    → Told h n (scheduled r s t).now.wakes (scheduled r s t).now.chains
unfolding scheduled activate
told_scheduled r h n t s k = tested_keeps r (λ x. Told h n x.wakes x.chains) (λ u w e g. g) t _ k

module _ (r : Rig) (ok : RigOk r) (s : State) (sound : Sound r s) (h : History) (n : ℕ) (k : Told h n s.wakes s.chains) where
  -- the running task is in no chain
  outside : s.running ≢ 0 → Somewhere s.running s.chains → ⊥
  outside m i = omega (arith, sound.runs.up m, sound.chains.listed.two s.running i)

  counted : (b : Bool) (c : ℕ) → s.running ≢ 0
      → Told (noted n s.running (cond b nothing (until_count c)) h) (suc n) (cond b s (wait_until_count s c)).wakes (cond b s (wait_until_count s c)).chains
  unfolding noted wait_until_count
  counted true c m = told_later h n s.wakes s.chains k
  counted false c m =
      told_time h n s.wakes s.chains s.running (outside m) k c
      (omega (arith, in_range s.states s.running 2 (sound.runs.up m), sound.tasks.sized, sound.wakes.sized))

  flagged : (b : Bool) (f v : ℕ) → s.running ≢ 0
      → Told (noted n s.running (cond b nothing (on_flag f v)) h) (suc n) (cond b s (wait_on s f v)).wakes (cond b s (wait_on s f v)).chains
  unfolding noted wait_on
  flagged true f v m = told_later h n s.wakes s.chains k
  flagged false f v m =
      told_flag h n s.wakes s.chains s.running (outside m) k f v

  effect_told : (x : Call) → refusal r s x ≡ 0
      → Told (noted n s.running (begins s x) h) (suc n) (effect r s x).now.wakes (effect r s x).now.chains
  unfolding noted begins effect finished terminated cancelled ticked refusal refusals
  effect_told (schedule t) e = told_later h n _ _ (told_scheduled r h n t s k)
  effect_told (cancel t) e = told_later h n s.wakes _ (told_desert h n s.wakes s.chains (family r.controller t) k)
  effect_told (terminate t) e = told_later h n s.wakes _ (told_leave h n s.wakes s.chains k t)
  effect_told finish e = told_later h n s.wakes s.chains k
  effect_told (tick buffer) e =
      told_later h n _ _ (told_due h n (with_count s (suc s.count)) k)
  effect_told (wait_until c) e = counted (leb c s.count) c (somebody_runs s _ e)
  effect_told (wait_for c) e = counted (leb (s.count + c) s.count) (s.count + c) (somebody_runs s _ e)
  effect_told (latched f v) e = flagged (eqb (value_of s f) v) f v (flagged_is r s f _ e).runs
  effect_told (unlatched f v) e = flagged false f v (flagged_is r s f _ e).runs
  effect_told (signal f v) e = told_later h n s.wakes s.chains k
  effect_told (read_flag f) e = told_later h n s.wakes s.chains k
  effect_told (read_block x area buffer) e = told_later h n s.wakes s.chains k
  effect_told (write_block x area buffer) e = told_later h n s.wakes s.chains k
  effect_told next_waking e = told_later h n s.wakes s.chains k
  effect_told (read_overruns t) e = told_later h n s.wakes s.chains k
  effect_told (why_not t d) e = told_later h n s.wakes s.chains k

  -- EVERY CALL keeps the chains as the history says
  pub step_told : (x : Call) → Told (noted_if n (refusal r s x) s x h) (suc n) (step r s x).next.wakes (step r s x).next.chains
  unfolding step after accepted settled noted_if
  step_told x = go (refusal r s x) refl
    where
      go : (y : ℕ) → refusal r s x ≡ y → Told (noted_if n y s x h) (suc n) (after y r s x).next.wakes (after y r s x).next.chains
      go zero e = told_settled r (noted n s.running (begins s x) h) (suc n) (ended s x) (effect r s x) (effect_told x e)
      go (suc y) e = told_later h n s.wakes s.chains k

-- what is kept, in a sound state, is the order
pub told_order : (r : Rig) (s : State) → Sound r s → (h : History) (n : ℕ) → Told h n s.wakes s.chains → InOrder h s
told_order r s sound h n k =
    record {
      lists = λ t c. ((λ i. (sound.chains.listed.two t (c, i), k.home t c i)), back t c);
      time = k.order time_chain;
      counts = λ t i. sym (k.count t i);
      flags = λ f v.
          let c = chain_of f v in
          ordered_map (Sooner h) (Earlier h) (s.chains c) (λ a b i j o. first a b (k.none a f v i) (k.none b f v j) o) (k.order c);
    }
  where
    back : (t : ℕ) (c : Chain) → (state_of s t ≡ 2) × ((h t).chain ≡ c) → In t (s.chains c)
    back t c p =
        let i = sound.chains.listed.there t p.0 in
        subst (λ (d : Chain). In t (s.chains d)) (sym (k.home t i.0 i.1) ∙ p.1) i.1

    first : (a b : ℕ) → (h a).count ≡ 0 → (h b).count ≡ 0 → Sooner h a b → Earlier h a b
    first a b x y (inl o) = absurd (omega arith)
    first a b x y (inr o) = o.1

-- the history and who waits fix every chain: nothing else can be read off them
pub order_one : (h : History) (s u : State) → s.states ≡ u.states → InOrder h s → InOrder h u → (c : Chain) → s.chains c ≡ u.chains c
order_one h s u e p q = go
  where
    apart : (a b : ℕ) → Sooner h a b → Sooner h b a → ⊥
    apart a b (inl x) (inl y) = omega arith
    apart a b (inl x) (inr y) = omega (arith, y.0)
    apart a b (inr x) (inl y) = omega (arith, x.0)
    apart a b (inr x) (inr y) = omega (arith, x.1, y.1)

    same : (d : Chain) (t : ℕ) → In t (s.chains d) ↔ In t (u.chains d)
    same d t = (
      (λ i. let w = (p.lists t d).0 i in (q.lists t d).1 (sym (ap (λ (l : List ℕ). get_or l t 0) e) ∙ w.0, w.1)),
      (λ i. let w = (q.lists t d).0 i in (p.lists t d).1 (ap (λ (l : List ℕ). get_or l t 0) e ∙ w.0, w.1)),
    )

    go : (c : Chain) → s.chains c ≡ u.chains c
    go time_chain = ordered_same (Sooner h) apart (s.chains time_chain) (u.chains time_chain) p.time q.time (same time_chain)
    go (chain_of f v) =
        let c = chain_of f v in
        ordered_same (Earlier h) (λ a b x y. omega arith) (s.chains c) (u.chains c) (p.flags f v) (q.flags f v) (same c)

-- ---- runs

module _ (r : Rig) (ok : RigOk r) where
  run_order : (s : State) → Sound r s → (h : History) (n : ℕ) → Told h n s.wakes s.chains → (ks : List Call) → ProperRun ks
      → InOrder (history r s n ks h) (run r s ks)
  unfolding history run
  run_order s sound h n k [] p = told_order r s sound h n k
  run_order s sound h n k (x ∷ ks) p =
      run_order (step r s x).next (step_sound r ok s sound x p.0) (noted_if n (refusal r s x) s x h) (suc n) (step_told r ok s sound h n k x) ks p.1

  start_told : (h : History) (n : ℕ) → Told h n (start r).wakes (start r).chains
  unfolding start started again blank
  start_told h n = told_settled r h n 0 (scheduled r blank 1) (told_scheduled r h n 1 blank none)
    where
      none : Told h n blank.wakes blank.chains
      none = record { order = λ c. tt; past = λ t c i. absurd i; home = λ t c i. absurd i; count = λ t i. absurd i; none = λ t f v i. absurd i }

  -- THE ORDER OF THE CHAINS, after any run from an accepted start, refused calls among it
  pub chains_in_order : (ks : List Call) → ProperRun ks → InOrder (history_of r ks) (run r (start r) ks)
  unfolding history_of
  chains_in_order ks p = run_order (start r) (start_sound r ok) never 1 (start_told never 1) ks p
