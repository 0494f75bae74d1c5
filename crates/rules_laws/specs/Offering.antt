-- "then, by rising number, each inactive task with that flag in a condition and all conditions as desired is activated":
-- who is activated is told by the states and conditions before the first of them is, for an activation touches no
-- other task's conditions; only what is queued goes by rising number.
use Rattle.std.specs.Prelude.{◌≡◌, refl, ◌≢◌, ◌⊎◌, Bool, ◌&&◌, List, eqb, leb, set}
use Rattle.std.proofs.Math.Path.{sym, ap, subst}
use Rattle.std.proofs.Common.{◌∙◌, ⊎_elim, arith, le_refl, get_or-set_same}
use Rattle.std.proofs.Math.Logic.{inl, inr}
use Rattle.std.proofs.Math.Bool.{true, false, cond, true≢false}
use Prim.Native.Nat.{ℕ, suc, ◌+◌, ◌≤◌, ◌<◌}
use Rattle.std.proofs.Math.Numerals.{add-one}
use borrow.Author.Tests.{eqb-true, leb-true, leb-false}
use Rattle.std.proofs.Math.ListN.{get_or}
use Rattle.std.proofs.Math.Seq.{get_or-set_other}
use Rattle.laws.specs.Cases.{by, dec_eq, and_true}
use Rattle.laws.specs.Iter.{iter}
use Rattle.laws.specs.Laws.Iter.{iter_ind, iter_zero}
use Rattle.laws.specs.Laws.Tables.{in_range}
use Rattle.rules.specs.Rig.{Rig, place_of}
use Rattle.rules.specs.State.{Work, Entry, state_of}
use Rattle.rules.specs.Conditions.{relax, met}
use Rattle.rules.specs.Serving.{push, activate, ready, offer, offer_next, offers}
use Rattle.rules_laws.specs.ConditionLaws.{relaxed_not, met_same, same_task}

-- an activation of task u leaves the conditions of task t alone
pub met_other : (present latched desired : ℕ → ℕ) (t u : ℕ) (conds : List ℕ) → t ≢ u
    → met present desired t (relax present latched desired u conds) ≡ met present desired t conds
met_other present latched desired t u conds n =
    met_same present desired t (relax present latched desired u conds) conds
    (λ p l. relaxed_not present latched desired u conds (place_of t p) (λ q m a b e. n (same_task t u p q l m e)))

module _ (r : Rig) (f : ℕ) (w : Work) where
  -- task t is inactive, has flag f in a condition, and all its conditions are as desired
  abbrev pub called : ℕ → Bool
  called t = eqb (state_of w.now t) 1 && ready r f t w.now

  -- its activation flag is queued on
  abbrev pub call_one : ℕ → List Entry → List Entry
  call_one i q = cond (called (i + 1)) (push (r.activation (i + 1)) 1 q) q

  -- after tasks 1 to k
  record Offered (k : ℕ) (x : Work) : Type 0 where
    done : (t : ℕ) → 1 ≤ t → t ≤ k → state_of x.now t ≡ cond (called t) 3 (state_of w.now t)
    later : (t : ℕ) → (t ≡ 0) ⊎ (k < t) → state_of x.now t ≡ state_of w.now t
    tests : (t : ℕ) → (k < t) ⊎ (called t ≡ false) → met r.present r.desired t x.now.conds ≡ met r.present r.desired t w.now.conds
    queue : x.queue ≡ iter k call_one w.queue

  -- task k + 1 is called now exactly when it was called at first
  same_call : (k : ℕ) (x : Work) → Offered k x → (eqb (state_of x.now (suc k)) 1 && ready r f (suc k) x.now) ≡ called (suc k)
  unfolding ready
  same_call k x h = rw (h.later (suc k) (inr (le_refl _)), h.tests (suc k) (inl (le_refl _)))

  next_queue : (k : ℕ) (b : Bool) → called (suc k) ≡ b
      → iter (suc k) call_one w.queue ≡ cond b (push (r.activation (suc k)) 1 (iter k call_one w.queue)) (iter k call_one w.queue)
  unfolding iter
  next_queue k b e =
      rw add-one (ap (λ (y : Bool). cond y (push (r.activation (suc k)) 1 (iter k call_one w.queue)) (iter k call_one w.queue)) e)

  sooner : {k : ℕ} (t : ℕ) → (suc k < t) ⊎ (called t ≡ false) → (k < t) ⊎ (called t ≡ false)
  sooner t (inl l) = inl (omega arith)
  sooner t (inr n) = inr n

  turn : (k : ℕ) (x : Work) → Offered k x → (b : Bool) → called (suc k) ≡ b → Offered (suc k) (cond b (activate r (suc k) x) x)
  unfolding activate
  turn k x h true e =
      let was : state_of w.now (suc k) ≡ 1 = eqb-true _ 1 (and_true (eqb (state_of w.now (suc k)) 1) _ e).0 in
      let here : get_or x.now.states (suc k) 0 ≡ 1 = h.later (suc k) (inr (le_refl _)) ∙ was in
      record {
        done = λ t a b. go t a b (dec_eq t (suc k)) here;
        later = λ t c.
            get_or-set_other x.now.states (suc k) t 3 0 (⊎_elim (λ q p. omega arith) (λ q p. omega arith) c)
            ∙ h.later t (⊎_elim (λ q. inl q) (λ q. inr (omega arith)) c);
        tests = λ t c.
            met_other r.present r.latched r.desired t (suc k) x.now.conds
            (⊎_elim (λ l q. omega arith) (λ n q. true≢false (sym e ∙ ap called (sym q) ∙ n)) c)
            ∙ h.tests t (sooner t c);
        queue = ap (push (r.activation (suc k)) 1) h.queue ∙ sym (next_queue k true e);
      }
    where
      go : (t : ℕ) → 1 ≤ t → t ≤ suc k → Dec (t ≡ suc k) → get_or x.now.states (suc k) 0 ≡ 1
          → get_or (set x.now.states (suc k) 3) t 0 ≡ cond (called t) 3 (state_of w.now t)
      go t a b (yes q) here =
          subst (λ (u : ℕ). get_or (set x.now.states (suc k) 3) u 0 ≡ cond (called u) 3 (state_of w.now u)) (sym q)
          (get_or-set_same x.now.states (suc k) 3 0 (in_range x.now.states (suc k) 0 here)
          ∙ sym (ap (λ (y : Bool). cond y 3 (state_of w.now (suc k))) e))
      go t a b (no q) here = get_or-set_other x.now.states (suc k) t 3 0 q ∙ h.done t a (omega arith)
  turn k x h false e =
      record {
        done = λ t a b. go t a b (dec_eq t (suc k));
        later = λ t c. h.later t (⊎_elim (λ q. inl q) (λ q. inr (omega arith)) c);
        tests = λ t c. h.tests t (sooner t c);
        queue = h.queue ∙ sym (next_queue k false e);
      }
    where
      go : (t : ℕ) → 1 ≤ t → t ≤ suc k → Dec (t ≡ suc k) → state_of x.now t ≡ cond (called t) 3 (state_of w.now t)
      go t a b (yes q) =
          subst (λ (u : ℕ). state_of x.now u ≡ cond (called u) 3 (state_of w.now u)) (sym q)
          (h.later (suc k) (inr (le_refl _)) ∙ sym (ap (λ (y : Bool). cond y 3 (state_of w.now (suc k))) e))
      go t a b (no q) = h.done t a (omega arith)

  offered : (k : ℕ) → Offered k (offers r f k w)
  unfolding offers offer
  offered k =
      iter_ind Offered (offer_next r f) w
      (record {
        done = λ t a b. absurd (omega arith);
        later = λ t c. refl;
        tests = λ t c. refl;
        queue = sym (iter_zero call_one w.queue);
      })
      (λ i x h. rw add-one (step i x h (eqb (state_of x.now (suc i)) 1 && ready r f (suc i) x.now) refl)) k
    where
      step : (i : ℕ) (x : Work) → Offered i x → (b : Bool) → (eqb (state_of x.now (suc i)) 1 && ready r f (suc i) x.now) ≡ b
          → Offered (suc i) (cond b (activate r (suc i) x) x)
      step i x h b e = turn i x h b (sym (same_call i x h) ∙ e)

  -- each task that is called becomes dispatchable, and nobody else changes
  pub offers_states : (t : ℕ) → 1 ≤ t → t ≤ 64 → state_of (offers r f 64 w).now t ≡ cond (called t) 3 (state_of w.now t)
  offers_states = (offered 64).done

  -- who is not called keeps its conditions
  pub offers_tests : (t : ℕ) → called t ≡ false → met r.present r.desired t (offers r f 64 w).now.conds ≡ met r.present r.desired t w.now.conds
  offers_tests t n = (offered 64).tests t (inr n)

  -- their activation flags are queued on, by rising number
  pub offers_queue : (offers r f 64 w).queue ≡ iter 64 call_one w.queue
  offers_queue = (offered 64).queue

  -- who changes was called
  pub offers_changed : (t : ℕ) → state_of (offers r f 64 w).now t ≢ state_of w.now t → called t ≡ true
  offers_changed t n =
      by (called t) (λ e. e)
      (λ e. absurd (n (go e (dec_eq t 0) (leb t 64) refl)))
    where
      go : called t ≡ false → Dec (t ≡ 0) → (b : Bool) → leb t 64 ≡ b → state_of (offers r f 64 w).now t ≡ state_of w.now t
      go e (yes z) b l = (offered 64).later t (inl z)
      go e (no z) true l = offers_states t (omega arith) (leb-true t 64 l) ∙ ap (λ (y : Bool). cond y 3 (state_of w.now t)) e
      go e (no z) false l = (offered 64).later t (inr (leb-false t 64 l))
