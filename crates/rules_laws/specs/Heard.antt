-- L2: WHOM A CALL WOKE. Its numbers, added over its services, are those of the whole: tasks that were waiting, or inactive, when the
-- first flag was served, and are dispatchable at the end. So no task is counted twice.
use Rattle.std.specs.Prelude.{◌≡◌, ◌≢◌, ◌⊎◌, ◌↔◌, Bool, cond, ◌&&◌, set, replicate}
use Rattle.std.proofs.Math.Path.{refl, ap}
use Rattle.std.proofs.Common.{sym, ◌∙◌, subst, inl, inr, ⊎_elim, eqb-true}
use Rattle.std.proofs.Math.Bool.{true, false}
use mathlib.Core.List.{List, [], ◌∷◌}
use Prim.Native.Nat.{ℕ, zero, suc, ◌+◌, ◌≤◌}
use native.Mathlib.Omega.{arith}
use Rattle.std.proofs.Math.Dec.{eqb}
use Rattle.std.proofs.Math.ListN.{length, get_or, length-set}
use Rattle.std.proofs.Math.Seq.{get_or-set_other}
use Rattle.laws.specs.Cases.{dec_eq, and_true}
use Rattle.laws.specs.Tables.{total}
use Rattle.laws.specs.Members.{In, Distinct}
use Rattle.laws.specs.Laws.Members.{dec_in}
use Rattle.laws.specs.Laws.Iter.{iter_ind}
use Rattle.laws.specs.Laws.Tables.{in_range, was_there}
use Rattle.rules.specs.Rig.{Rig}
use Rattle.rules.specs.RigOk.{RigOk}
use Rattle.rules.specs.State.{Chain, chain_of, State, Work, Entry, Done, state_of, active, waiting, inactive, dispatchable, blank}
use Rattle.rules.specs.Serving.{activate, ready, offer, offer_next, offers, takes, wake, rouse, made, unserved, serve_flag, serving, serve}
use Rattle.rules.specs.Running.{dispatch}
use Rattle.rules.specs.Calls.{Call, signal, quiet, tested, as_scheduled, scheduled, effect, refusal, ended, again, settled, accepted, Step, step, started}
use Rattle.rules.specs.Proper.{Proper}
use Rattle.rules.specs.Soundness.{Within, Chains, Sound}
use Rattle.rules_laws.specs.Refusals.{accepted_is, refused_is}
use Rattle.rules_laws.specs.Lengths.{rouse_length}
use Rattle.rules_laws.specs.Rousing.{rouse_one, rouse_in, rouse_out}
use Rattle.rules_laws.specs.WaitingLaws.{chains_wake, chains_set}
use Rattle.rules_laws.specs.Offering.{offers_changed}
use Rattle.rules_laws.specs.Made.{Up, up_same, up_up, up_set, made_next, made_other, made_from, made_none, is_state, made_le, made_adds, within_few}
use Rattle.rules_laws.specs.WhileServing.{Reached, begin, onward, Through, queued, afterwards}
use Rattle.rules_laws.specs.Good.{Good, Ready, clean_ready, serve_flag_clean, serve_flag_keeps, serving_keeps, serve_keeps, serve_good, tested_ready}
use Rattle.rules_laws.specs.Serve.{serve_cons, serve_nil}
use Rattle.rules_laws.specs.Testing.{tested_cases, tested_keeps}
use Rattle.rules_laws.specs.Steps.{effect_ready}
use Rattle.rules_laws.specs.Activation.{ByService, ByTest, settle_activates}

-- ---- one service

rouse_up : (ts l : List ℕ) → Up l (rouse ts l)
unfolding rouse
rouse_up [] l = up_same l
rouse_up (t ∷ ts) l = up_up l (set l t 3) (rouse ts (set l t 3)) (up_set l t) (rouse_up ts (set l t 3))

-- all of a list of waiting tasks are counted
rouse_made : (l ts m : List ℕ) → Distinct ts → ((t : ℕ) → In t ts → (get_or l t 0 ≡ 2) × (get_or m t 0 ≡ 2))
    → made 2 l (rouse ts m) ≡ length ts + made 2 l m
unfolding rouse
rouse_made l [] m d h = omega arith
rouse_made l (t ∷ ts) m d h =
    let w = h t (inl refl) in
    let n = made_next 2 l m t (in_range l t 1 w.0) (in_range m t 1 w.1) w.0 (λ q. omega (arith, w.1, q)) in
    let k = rouse_made l ts (set m t 3) d.1
    (λ u i. ((h u (inr i)).0, get_or-set_other m t u 3 0 (λ q. d.0 (subst (λ (v : ℕ). In v ts) q i)) ∙ (h u (inr i)).1)) in
    omega arith

-- and none of them as inactive
rouse_from : (ts l m : List ℕ) → ((t : ℕ) → In t ts → get_or l t 0 ≢ 1) → made 1 (rouse ts l) m ≡ made 1 l m
unfolding rouse
rouse_from [] l m h = refl
rouse_from (t ∷ ts) l m h =
    rouse_from ts (set l t 3) m (λ u i e. h u (inr i) (was_there l t u 3 1 (λ q. omega arith) e))
    ∙ made_from 1 l m t 3 (h t (inl refl)) (λ q. omega arith)

module _ (r : Rig) (l : List ℕ) where
  -- who is inactive was so in l, and nobody who was waiting there is counted by an offer
  record Counted (n : ℕ) (w : Work) : Type 0 where
    ones : (t : ℕ) → get_or w.now.states t 0 ≡ 1 → get_or l t 0 ≡ 1
    many : made 2 l w.now.states ≡ n

  offer_made : (f t n : ℕ) (w : Work) → Counted n w → Counted n (offer r f t w)
  unfolding offer activate
  offer_made f t n w h = go (eqb (state_of w.now t) 1) refl (ready r f t w.now)
    where
      go : (a : Bool) → eqb (state_of w.now t) 1 ≡ a → (b : Bool) → Counted n (cond (a && b) (activate r t w) w)
      go true e true =
          let was : get_or l t 0 ≡ 1 = h.ones t (eqb-true _ 1 e) in
          record {
            ones = λ u k. h.ones u (was_there w.now.states t u 3 1 (λ q. omega arith) k);
            many = made_other 2 l w.now.states t 3 (λ q. omega (arith, was, q)) ∙ h.many;
          }
      go true e false = h
      go false e b = h

  offers_made : (f k n : ℕ) (w : Work) → Counted n w → Counted n (offers r f k w)
  unfolding offers
  offers_made f k n w h = iter_ind (λ i x. Counted n x) (offer_next r f) w h (λ i x g. offer_made f (i + 1) n x g) k

-- the chains of a state, as soundness has them
abbrev pub ChainsIn : State → Type 0
ChainsIn s = Chains s.count s.wakes s.chains s.states

-- a service keeps them so
pub service_chains : (r : Rig) (e : Entry) (s : State) (q : List Entry) → ChainsIn s → ChainsIn (serve_flag r e s q).now
unfolding takes wake activate
service_chains r e s q =
    serve_flag_keeps r ChainsIn (λ e s h. h) (λ f v s h. chains_wake s.count s.wakes s.chains s.states (chain_of f v) h)
    (λ t w k h. chains_set w.now.count w.now.wakes w.now.chains w.now.states t 3 (λ z. omega (arith, k, z)) (λ z. omega arith) h) e s q

module _ (r : Rig) (e : Entry) (s : State) (q : List Entry) (h : ChainsIn s) where
  -- "how many waiting tasks it made dispatchable": those who waited on that flag and value
  pub service_woken : made waiting s.states (serve_flag r e s q).now.states ≡ length (s.chains (chain_of e.flag e.value))
  unfolding serve_flag wake takes
  service_woken =
      let c = chain_of e.flag e.value in
      let l = s.states in
      let two : (t : ℕ) → In t (s.chains c) → get_or l t 0 ≡ 2 = λ t i. h.listed.two t (c, i) in
      let n : made 2 l (rouse (s.chains c) l) ≡ length (s.chains c) =
      rouse_made l (s.chains c) l (h.once c) (λ t i. (two t i, two t i)) ∙ none (length (s.chains c)) (made_none 2 (λ z. omega arith) l) in
      (offers_made r l e.flag 64 (length (s.chains c)) _ (record { ones = λ t k. rouse_one t (s.chains c) l k; many = n })).many
    where
      none : {z : ℕ} (n : ℕ) → z ≡ 0 → n + z ≡ n
      none n k = omega arith

  -- "and how many it activated": whom the service took from inactive, after it woke who waited
  pub service_activated : (m : List ℕ) → made inactive (wake (chain_of e.flag e.value) (takes r e s)).states m ≡ made inactive s.states m
  unfolding wake takes
  service_activated m =
      let c = chain_of e.flag e.value in
      rouse_from (s.chains c) s.states m (λ t i k. omega (arith, h.listed.two t (c, i), k))

-- ---- the services of a call

module _ (r : Rig) (l : List ℕ) where
  abbrev Grown : State → Type 0
  Grown x = Up l x.states × (length x.states ≡ length l)

  grown_takes : (e : Entry) (s : State) → Grown s → Grown (takes r e s)
  unfolding takes
  grown_takes e s h = h

  grown_wake : (f v : ℕ) (s : State) → Grown s → Grown (wake (chain_of f v) s)
  unfolding wake
  grown_wake f v s h = (
    up_up l s.states (rouse (s.chains (chain_of f v)) s.states) h.0 (rouse_up (s.chains (chain_of f v)) s.states),
    rouse_length (s.chains (chain_of f v)) s.states ∙ h.1,
  )

  grown_activate : (t : ℕ) (w : Work) → state_of w.now t ≡ 1 → Grown w.now → Grown (activate r t w).now
  unfolding activate
  grown_activate t w k h = (up_up l w.now.states (set w.now.states t 3) h.0 (up_set w.now.states t), length-set w.now.states t 3 ∙ h.1)

  pub service_up : (e : Entry) (s : State) (q : List Entry) → Grown s → Grown (serve_flag r e s q).now
  service_up = serve_flag_keeps r Grown grown_takes grown_wake grown_activate

  serving_up : (k : ℕ) (s : State) (q : List Entry) → Grown s → Grown (serving r k s q).now
  serving_up = serving_keeps r Grown grown_takes grown_wake grown_activate

  pub serve_up : (w : Work) → Grown w.now → Grown (serve r w).now
  serve_up = serve_keeps r Grown grown_takes grown_wake grown_activate

-- the numbers of a serving that starts from s: whom it took from waiting, and whom from inactive, to dispatchable
pub record Numbers (s : State) (d : Done) : Type 0 where
  pub woken : d.woken ≡ made waiting s.states d.now.states
  pub activated : d.activated ≡ made inactive s.states d.now.states

module _ (r : Rig) where
  none : (s : State) → Numbers s (unserved s)
  none s = record { woken = sym (made_none 2 (λ z. omega arith) s.states); activated = sym (made_none 1 (λ z. omega arith) s.states) }

  adds : (a : ℕ) → a ≢ 3 → (k : ℕ) (e : Entry) (s : State) (q : List Entry) (n : ℕ) → let w = serve_flag r e s q in let d = serving r k w.now w.queue in
      n ≡ made a w.now.states d.now.states → made a s.states w.now.states + n ≡ made a s.states d.now.states
  adds a z k e s q n j =
      let w = serve_flag r e s q in
      let d = serving r k w.now w.queue in
      let g = service_up r s.states e s q (up_same s.states, refl) in
      let u = serving_up r w.now.states k w.now w.queue (up_same w.now.states, refl) in
      let m = made_adds a z s.states w.now.states d.now.states g.1 (u.1 ∙ g.1) g.0 u.0 in
      omega arith

  serving_made : (k : ℕ) (s : State) (q : List Entry) → Numbers s (serving r k s q)
  unfolding serving
  serving_made zero s q = none s
  serving_made (suc k) s [] = none s
  serving_made (suc k) s (e ∷ q) =
      let w = serve_flag r e s q in
      let ih = serving_made k w.now w.queue in
      record {
        woken = adds 2 (λ z. omega arith) k e s q (serving r k w.now w.queue).woken ih.woken;
        activated = adds 1 (λ z. omega arith) k e s q (serving r k w.now w.queue).activated ih.activated;
      }

  -- "added over all services of a call", and no task twice
  pub serve_made : (w : Work) → Numbers w.now (serve r w)
  unfolding serve
  serve_made w = serving_made _ w.now w.queue

-- ---- a flag that was served on the way, and who waited on it

-- task t waited on a flag that was served on the way, which comes through what C says, for the value that was served
pub record WaitedOn (r : Rig) (C : Work → Type 0) (t : ℕ) : Type 0 where
  pub before : State
  pub entry : Entry
  pub behind : List Entry
  pub reached : C (record { now = before; queue = entry ∷ behind })
  pub waits : In t (before.chains (chain_of entry.flag entry.value))

module _ (r : Rig) (ok : RigOk r) (w : Work) (c : Ready r w) where
  -- what a serving comes through is as it began: its flags may be served, and the rest of it leads to the same end
  record OnTheWay (x : Work) : Type 0 where
    ready : Ready r x
    grown : Up w.now.states x.now.states
    end : (serve r w).now ≡ (serve r x).now
    before : ℕ
    many : (serve r w).woken ≡ before + (serve r x).woken

  on_the_way : (x : Work) → Reached r w x → OnTheWay x
  on_the_way x begin = record { ready = c; grown = up_same w.now.states; end = refl; before = 0; many = omega arith }
  on_the_way x (onward s e q p) =
      let h = on_the_way (record { now = s; queue = e ∷ q }) p in
      let d = serve_cons r s e q in
      record {
        ready = clean_ready r (serve_flag r e s q) (serve_flag_clean r ok e s q h.ready.good h.ready.clear);
        grown =
            up_up w.now.states s.states (serve_flag r e s q).now.states h.grown
            (service_up r s.states e s q (up_same s.states, refl)).0;
        end = h.end ∙ ap (λ (y : Done). y.now) d;
        before = h.before + made 2 s.states (serve_flag r e s q).now.states;
        many = omega (arith, h.many, ap (λ (y : Done). y.woken) d);
      }

  -- a serving that served a flag on which k tasks waited with that value says at least k
  served_at_least : (s : State) (e : Entry) (q : List Entry) → Reached r w (record { now = s; queue = e ∷ q })
      → length (s.chains (chain_of e.flag e.value)) ≤ (serve r w).woken
  served_at_least s e q p =
      let h = on_the_way (record { now = s; queue = e ∷ q }) p in
      omega (arith, h.many, ap (λ (y : Done). y.woken) (serve_cons r s e q), service_woken r e s q h.ready.good.chains)

-- ---- one task in one service

module _ (r : Rig) (e : Entry) (s : State) (q : List Entry) (h : ChainsIn s) (t : ℕ) where
  abbrev own : Chain
  own = chain_of e.flag e.value

  abbrev roused : Work
  roused = record { now = wake own (takes r e s); queue = q }

  -- an offer is for the inactive alone
  not_offered : state_of roused.now t ≢ 1 → state_of (serve_flag r e s q).now t ≡ state_of roused.now t
  unfolding serve_flag
  not_offered n = go (dec_eq (state_of (offers r e.flag 64 roused).now t) (state_of roused.now t))
    where
      go : Dec (state_of (offers r e.flag 64 roused).now t ≡ state_of roused.now t)
          → state_of (offers r e.flag 64 roused).now t ≡ state_of roused.now t
      go (yes k) = k
      go (no k) = absurd (n (eqb-true _ 1 (and_true (eqb (state_of roused.now t) 1) _ (offers_changed r e.flag roused t k)).0))

  -- who waits on the flag and value becomes dispatchable
  pub waited_wakes : In t (s.chains own) → state_of (serve_flag r e s q).now t ≡ 3
  unfolding wake takes
  waited_wakes i =
      let n = rouse_in t (s.chains own) s.states (in_range s.states t 1 (h.listed.two t (own, i))) i in
      not_offered (λ k. omega (arith, n, k)) ∙ n

  -- who waits elsewhere goes on waiting
  pub else_waits : state_of s t ≡ 2 → (In t (s.chains own) → ⊥) → state_of (serve_flag r e s q).now t ≡ 2
  unfolding wake takes
  else_waits k n =
      let m = rouse_out t (s.chains own) s.states n ∙ k in
      not_offered (λ j. omega (arith, m, j)) ∙ m

module _ (r : Rig) (ok : RigOk r) (w : Work) (c : Ready r w) (t : ℕ) where
  serving_wakes : (k : ℕ) (s : State) (q : List Entry) → Ready r (record { now = s; queue = q }) → Reached r w (record { now = s; queue = q })
      → state_of s t ≡ 2 → state_of (serving r k s q).now t ≡ 3 → WaitedOn r (Reached r w) t
  unfolding serving
  serving_wakes zero s q g p i n = absurd (omega arith)
  serving_wakes (suc k) s [] g p i n = absurd (omega arith)
  serving_wakes (suc k) s (e ∷ q) g p i n =
      go (dec_in t (s.chains (chain_of e.flag e.value)))
      (λ j. serving_wakes k (serve_flag r e s q).now (serve_flag r e s q).queue
      (clean_ready r (serve_flag r e s q) (serve_flag_clean r ok e s q g.good g.clear)) (onward s e q p) (else_waits r e s q g.good.chains t i j) n)
    where
      go : Dec (In t (s.chains (chain_of e.flag e.value))) → ((In t (s.chains (chain_of e.flag e.value)) → ⊥) → WaitedOn r (Reached r w) t)
          → WaitedOn r (Reached r w) t
      go (yes j) later = record { before = s; entry = e; behind = q; reached = p; waits = j }
      go (no j) later = later j

  woke : (x : WaitedOn r (Reached r w) t) → (state_of w.now t ≡ 2) × (state_of (serve r w).now t ≡ 3)
  woke x =
      let s = x.before in
      let f = serve_flag r x.entry s x.behind in
      let h = on_the_way r ok w c (record { now = s; queue = x.entry ∷ x.behind }) x.reached in
      let two = h.ready.good.chains.listed.two t (chain_of x.entry.flag x.entry.value, x.waits) in
      let three = waited_wakes r x.entry s x.behind h.ready.good.chains t x.waits in
      let end = h.end ∙ ap (λ (y : Done). y.now) (serve_cons r s x.entry x.behind) in (
        ⊎_elim (λ k. sym k ∙ two) (λ k. absurd (omega (arith, two, k))) (h.grown t),
        ap (λ (y : State). state_of y t) end
            ∙ ⊎_elim (λ k. k ∙ three) (λ k. k) ((serve_up r f.now.states f (up_same f.now.states, refl)).0 t),
      )

  -- who was waiting and is dispatchable: exactly who waited on a served flag's chain
  served_exactly : ((state_of w.now t ≡ waiting) × (state_of (serve r w).now t ≡ dispatchable)) ↔ WaitedOn r (Reached r w) t
  unfolding serve
  served_exactly = ((λ k. serving_wakes _ w.now w.queue c begin k.0 k.1), (λ x. woke x))

-- ---- L3: the test, and the serving after it

-- how many the test of task u itself activates: it is no service of a flag
abbrev pub by_test : Rig → ℕ → State → ℕ
by_test r zero s = 0
by_test r (suc t) s = made inactive s.states (tested r (suc t) s).now.states

-- the numbers of a call that leaves w to the serving and ended task u, 0 for none
pub record Sums (r : Rig) (u : ℕ) (w : Work) (d : Done) : Type 0 where
  pub woken : d.woken ≡ made waiting w.now.states d.now.states
  pub activated : d.activated + by_test r u (serve r w).now ≡ made inactive w.now.states d.now.states

module _ (r : Rig) where
  tested_up : (t : ℕ) (s : State) → Grown r s.states (tested r t s).now
  tested_up t s = tested_keeps r (Grown r s.states) (grown_activate r s.states) t s (up_same s.states, refl)

  -- the test wakes nobody
  tested_woken : (t : ℕ) (s : State) → made 2 s.states (tested r t s).now.states ≡ 0
  unfolding activate
  tested_woken t s =
      tested_cases r t s (λ w. made 2 s.states w.now.states ≡ 0)
      (λ e m. made_other 2 s.states s.states t 3 (λ q. omega (arith, e, q)) ∙ made_none 2 (λ z. omega arith) s.states)
      (λ n. made_none 2 (λ z. omega arith) s.states)

  -- over a serving, a test and a serving the numbers are added
  adds_again : (a : ℕ) → a ≢ 3 → (t : ℕ) (w : Work) → let d = serve r w in let x = tested r t d.now in
      made a w.now.states (serve r x).now.states
      ≡ (made a w.now.states d.now.states + made a d.now.states x.now.states) + made a x.now.states (serve r x).now.states
  adds_again a z t w =
      let d = serve r w in
      let x = tested r t d.now in
      let g = serve_up r w.now.states w (up_same w.now.states, refl) in
      let h = tested_up t d.now in
      let k = serve_up r x.now.states x (up_same x.now.states, refl) in
      let p = made_adds a z w.now.states d.now.states x.now.states g.1 (h.1 ∙ g.1) g.0 h.0 in
      let q = made_adds a z w.now.states x.now.states (serve r x).now.states (h.1 ∙ g.1) (k.1 ∙ h.1 ∙ g.1)
      (up_up w.now.states d.now.states x.now.states g.0 h.0) k.0 in
      omega arith

  -- "added over all services of a call", and no task twice
  pub settle_made : (u : ℕ) (w : Work) → Sums r u w (again r u (serve r w))
  unfolding again
  settle_made zero w = let m = serve_made r w in record { woken = m.woken; activated = omega (arith, m.activated) }
  settle_made (suc t) w =
      let d = serve r w in
      let x = tested r (suc t) d.now in
      let m = serve_made r w in
      let n = serve_made r x in
      record {
        woken = omega (arith, m.woken, n.woken, adds_again 2 (λ z. omega arith) (suc t) w, tested_woken (suc t) d.now);
        activated = omega (arith, m.activated, n.activated, adds_again 1 (λ z. omega arith) (suc t) w);
      }

  -- both together are at most the rig's tasks
  pub settle_few : (u : ℕ) (w : Work) → Within r.tasks w.now.states
      → (again r u (serve r w)).woken + (again r u (serve r w)).activated ≤ r.tasks
  settle_few u w h =
      let m = settle_made u w in
      omega (arith, m.woken, m.activated, within_few r.tasks w.now.states (again r u (serve r w)).now.states h)

module _ (r : Rig) (ok : RigOk r) (u : ℕ) (w : Work) (c : Ready r w) where
  emptied : Good r (serve r w).now []
  emptied = serve_good r ok w c

  -- "a call that served a flag on which k tasks waited with that value says at least k"
  pub says_at_least : (s : State) (e : Entry) (q : List Entry) → Through r u w (record { now = s; queue = e ∷ q })
      → length (s.chains (chain_of e.flag e.value)) ≤ (again r u (serve r w)).woken
  unfolding again
  says_at_least s e q = go u refl
    where
      go : (v : ℕ) → u ≡ v → Through r u w (record { now = s; queue = e ∷ q })
          → length (s.chains (chain_of e.flag e.value)) ≤ (again r v (serve r w)).woken
      go zero z (queued x p) = served_at_least r ok w c s e q p
      go (suc v) z (queued x p) = omega (arith, served_at_least r ok w c s e q p)
      go zero z (afterwards x n p) = absurd (n z)
      go (suc v) z (afterwards x n p) =
          let m = served_at_least r ok (tested r u (serve r w).now) (tested_ready r ok u (serve r w).now emptied) s e q p in
          omega (arith, m, ap (λ (y : ℕ). (serve r (tested r y (serve r w).now)).woken) z)

module _ (r : Rig) (ok : RigOk r) (w : Work) (c : Ready r w) (t : ℕ) where
  on_its_way : (C D : Work → Type 0) → ((x : Work) → C x → D x) → WaitedOn r C t → WaitedOn r D t
  on_its_way C D f b = record { before = b.before; entry = b.entry; behind = b.behind; reached = f _ b.reached; waits = b.waits }

  first : Up w.now.states (serve r w).now.states
  first = (serve_up r w.now.states w (up_same w.now.states, refl)).0

  module _ (v : ℕ) where
    abbrev x : Work
    x = tested r (suc v) (serve r w).now

    ready_x : Ready r x
    ready_x = tested_ready r ok (suc v) (serve r w).now (serve_good r ok w c)

    second : Up x.now.states (serve r x).now.states
    second = (serve_up r x.now.states x (up_same x.now.states, refl)).0

    -- who waits is not touched by the test
    waits_on : state_of (serve r w).now t ≡ 2 → state_of x.now t ≡ 2
    unfolding activate
    waits_on k =
        tested_cases r (suc v) (serve r w).now (λ y. state_of y.now t ≡ 2)
        (λ e m. get_or-set_other (serve r w).now.states (suc v) t 3 0 (λ q. omega (arith, k, e, ap (state_of (serve r w).now) q)) ∙ k) (λ n. k)

    waited_then : state_of w.now t ≡ 2 → state_of (serve r x).now t ≡ 3 → WaitedOn r (Through r (suc v) w) t
    waited_then i n = go (first t)
      where
        go : (state_of (serve r w).now t ≡ state_of w.now t) ⊎ (state_of (serve r w).now t ≡ 3) → WaitedOn r (Through r (suc v) w) t
        go (inl k) =
            on_its_way (Reached r x) (Through r (suc v) w) (λ y p. afterwards y (λ q. omega arith) p)
            ((served_exactly r ok x ready_x t).0 (waits_on (k ∙ i), n))
        go (inr k) = on_its_way (Reached r w) (Through r (suc v) w) (λ y p. queued y p) ((served_exactly r ok w c t).0 (i, k))

    woke_then : WaitedOn r (Through r (suc v) w) t → (state_of w.now t ≡ 2) × (state_of (serve r x).now t ≡ 3)
    woke_then b = go b.reached
      where
        stays : state_of x.now t ≡ 3 → state_of (serve r x).now t ≡ 3
        stays k = ⊎_elim (λ q. q ∙ k) (λ q. q) (second t)

        go : Through r (suc v) w (record { now = b.before; queue = b.entry ∷ b.behind }) → (state_of w.now t ≡ 2) × (state_of (serve r x).now t ≡ 3)
        go (queued y p) =
            let k = (served_exactly r ok w c t).1 (record { before = b.before; entry = b.entry; behind = b.behind; reached = p; waits = b.waits }) in
            (k.0, stays (⊎_elim (λ q. q ∙ k.1) (λ q. q) ((tested_up r (suc v) (serve r w).now).0 t)))
        go (afterwards y n p) =
            let k = (served_exactly r ok x ready_x t).1 (record { before = b.before; entry = b.entry; behind = b.behind; reached = p; waits = b.waits }) in
            let e : state_of (serve r w).now t ≡ 2 =
            ⊎_elim (λ q. sym q ∙ k.0) (λ q. absurd (omega (arith, q, k.0))) ((tested_up r (suc v) (serve r w).now).0 t) in
            (⊎_elim (λ q. sym q ∙ e) (λ q. absurd (omega (arith, q, e))) (first t), k.1)

  -- who was waiting and is dispatchable: exactly who waited on a served flag's chain
  pub woken_exactly : (u : ℕ) → ((state_of w.now t ≡ waiting) × (state_of (again r u (serve r w)).now t ≡ dispatchable)) ↔ WaitedOn r (Through r u w) t
  unfolding again
  woken_exactly zero = (
    (λ k. on_its_way (Reached r w) (Through r 0 w) (λ y p. queued y p) ((served_exactly r ok w c t).0 k)),
    (λ b. (served_exactly r ok w c t).1 (on_its_way (Through r 0 w) (Reached r w) (λ y p. none y p) b)),
  )
    where
      none : (y : Work) → Through r 0 w y → Reached r w y
      none _ (queued y p) = p
      none _ (afterwards y n p) = absurd (n refl)
  woken_exactly (suc v) = ((λ k. waited_then v k.0 k.1), (λ b. woke_then v b))

-- ---- WHAT AN ACCEPTED CALL SAYS of its services, from when its first flag is served to its end

-- what it comes through
abbrev pub Comes : Rig → State → Call → Work → Type 0
Comes r s k = Through r (ended s k) (effect r s k)

pub record Says (r : Rig) (s : State) (k : Call) (n : Step) : Type 0 where
  -- woken is the number of tasks that were waiting and became dispatchable: those who waited on the served flags' chains
  pub woken : n.answer.report.woken ≡ made waiting (effect r s k).now.states n.next.states
  pub waited : (t : ℕ) → ((state_of (effect r s k).now t ≡ waiting) × (state_of n.next t ≡ dispatchable)) ↔ WaitedOn r (Comes r s k) t
  -- a flag on which so many waited with that value was served: at least so many
  pub least : (x : State) (e : Entry) (q : List Entry) → Comes r s k (record { now = x; queue = e ∷ q })
      → length (x.chains (chain_of e.flag e.value)) ≤ n.answer.report.woken
  -- activated is the number of tasks that were inactive and became dispatchable, each by a service; whom the test activated is not counted
  pub activated : n.answer.report.activated + by_test r (ended s k) (serve r (effect r s k)).now ≡ made inactive (effect r s k).now.states n.next.states
  pub called : (t : ℕ) → state_of (effect r s k).now t ≡ inactive → state_of n.next t ≡ dispatchable
      → ByService r (Comes r s k) t ⊎ ByTest r (ended s k) (effect r s k) t
  -- no task is counted twice
  pub few : n.answer.report.woken + n.answer.report.activated ≤ r.tasks

module _ (r : Rig) (ok : RigOk r) (s : State) (h : Sound r s) (k : Call) (p : Proper k) where
  says_accepted : refusal r s k ≡ 0 → Says r s k (accepted r s k)
  unfolding accepted settled dispatch
  says_accepted e =
      let w = effect r s k in
      let u = ended s k in
      let c = effect_ready r ok s h k p e in
      let m = settle_made r u w in
      record {
        woken = m.woken;
        waited = λ t. woken_exactly r ok w c t u;
        least = says_at_least r ok u w c;
        activated = m.activated;
        called = λ t i n. settle_activates r ok u w c t (ap active i) (ap active n);
        few = settle_few r u w c.good.tasks.within;
      }

  pub says : refusal r s k ≡ 0 → Says r s k (step r s k)
  says e = subst (Says r s k) (sym (accepted_is r s k e)) (says_accepted e)

  -- whether it is accepted or refused
  pub heard_few : (step r s k).answer.report.woken + (step r s k).answer.report.activated ≤ r.tasks
  heard_few = go (refusal r s k) refl
    where
      go : (n : ℕ) → refusal r s k ≡ n → (step r s k).answer.report.woken + (step r s k).answer.report.activated ≤ r.tasks
      go zero e = (says e).few
      go (suc n) e = let q = refused_is r s k n e in omega (arith, ap (λ (x : Step). x.answer.report.woken) q, ap (λ (x : Step). x.answer.report.activated) q)

-- a signal leaves the state as it is to the serving
pub signal_leaves : (r : Rig) (s : State) (f v : ℕ) → (effect r s (signal f v)).now ≡ s
unfolding effect
signal_leaves r s f v = refl

-- and no task is tested after it
pub signal_untested : (r : Rig) (s : State) (f v : ℕ) (x : State) → by_test r (ended s (signal f v)) x ≡ 0
unfolding ended
signal_untested r s f v x = refl

-- ---- the start: nobody waits, and nobody but task 1 is invoked

-- with nobody in state a nobody is made dispatchable from it
nobody : (a : ℕ) → total (is_state a) (set (set (replicate 65 0) 1 1) 1 3) ≡ 0 → (m : List ℕ) → made a (set (set (replicate 65 0) 1 1) 1 3) m ≡ 0
nobody a e m = omega (arith, made_le a (set (set (replicate 65 0) 1 1) 1 3) m)

pub start_heard : (r : Rig) → ((started r).woken ≡ 0) × ((started r).activated ≡ 0)
unfolding started scheduled activate blank total
start_heard r =
    tested_cases r 1 x (λ w. ((serve r w).woken ≡ 0) × ((serve r w).activated ≡ 0))
    (λ e k.
    let w = activate r 1 (quiet x) in
    let m = serve_made r w in
    (m.woken ∙ nobody 2 refl (serve r w).now.states, m.activated ∙ nobody 1 refl (serve r w).now.states))
    (λ n. let e = serve_nil r x in (ap (λ (d : Done). d.woken) e, ap (λ (d : Done). d.activated) e))
  where
    x : State
    x = as_scheduled r blank 1
