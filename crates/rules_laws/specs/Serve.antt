-- The serving loop ends with its queue empty, and serves at most what was queued and what is inactive.
use Rattle.std.specs.Prelude.{◌≡◌, refl, Bool, true, false, cond, ◌&&◌, List, [], ◌∷◌, ℕ, zero, suc, ◌+◌, ◌≤◌, eqb, length, get_or, set}
use Rattle.std.proofs.Common.{ap, ◌∙◌, arith, add-one, le_refl, le_trans, suc-add, eqb-true}
use Rattle.laws.specs.Laws.Iter.{iter_ind}
use Rattle.laws.specs.Laws.Tables.{over_set, over_store, in_range}
use Rattle.rules.specs.Rig.{Rig}
use Rattle.rules.specs.State.{Chain, chain_of, State, Work, Entry, state_of}
use Rattle.rules.specs.Serving.{push, is_inactive, inactives, activate, offer, offer_next, offers, rouse, wake, takes, serve_flag, woken_by, activated_by, another, unserved, serving, serve, ready}

-- what is left to do: the entries queued and the tasks that may yet be activated
abbrev pub load : Work → ℕ
load w = length w.queue + inactives w.now.states

pub push_length : (f b : ℕ) (q : List Entry) → length (push f b q) ≤ suc (length q)
push_length zero b q = omega arith
push_length (suc f) b q = omega arith

-- an inactive task makes the number of the inactive at least 1, and one less once it is active
pub less_one : (l : List ℕ) (k : ℕ) → get_or l (suc k) 0 ≡ 1 → inactives (set l (suc k) 3) + 1 ≡ inactives l
less_one l k h = omega (arith, ap is_inactive h, over_set is_inactive l k 3 (in_range l (suc k) 0 h))

offer_load : (r : Rig) (f k : ℕ) (w : Work) → load (offer r f (suc k) w) ≤ load w
unfolding offer activate
offer_load r f k w =
    go (eqb (state_of w.now (suc k)) 1) refl (ready r f (suc k) w.now)
  where
    go : (a : Bool) → eqb (state_of w.now (suc k)) 1 ≡ a → (b : Bool) → load (cond (a && b) (activate r (suc k) w) w) ≤ load w
    go true e true =
        let h : state_of w.now (suc k) ≡ 1 = eqb-true _ _ e in
        omega (arith, push_length (r.activation (suc k)) 1 w.queue, less_one w.now.states k h)
    go true e false = le_refl _
    go false e b = le_refl _

pub offers_load : (r : Rig) (f k : ℕ) (w : Work) → load (offers r f k w) ≤ load w
unfolding offers
offers_load r f k w =
    iter_ind (λ i x. load x ≤ load w) (offer_next r f) w (le_refl _)
    (λ i x h. le_trans (rw add-one (offer_load r f i x)) h) k

pub rouse_inactives : (ts l : List ℕ) → inactives (rouse ts l) ≤ inactives l
unfolding rouse
rouse_inactives [] l = le_refl _
rouse_inactives (t ∷ ts) l = le_trans (rouse_inactives ts (set l t 3)) (over_store is_inactive l t 3 refl)

pub wake_load : (c : Chain) (s : State) → inactives (wake c s).states ≤ inactives s.states
unfolding wake
wake_load c s = rouse_inactives (s.chains c) s.states

-- to serve an entry takes one off
pub serve_flag_load : (r : Rig) (e : Entry) (s : State) (q : List Entry) → load (serve_flag r e s q) ≤ length q + inactives s.states
unfolding serve_flag wake takes
serve_flag_load r e s q =
    le_trans (offers_load r e.flag 64 _)
    (omega (arith, rouse_inactives (s.chains (chain_of e.flag e.value)) s.states))

-- more room than the load changes nothing
pub room : (r : Rig) (k j : ℕ) (s : State) (q : List Entry) → length q + inactives s.states ≤ k → length q + inactives s.states ≤ j
    → serving r k s q ≡ serving r j s q
unfolding serving
room r zero zero s q h g = refl
room r zero (suc j) s [] h g = refl
room r zero (suc j) s (e ∷ q) h g = absurd (omega arith)
room r (suc k) zero s [] h g = refl
room r (suc k) zero s (e ∷ q) h g = absurd (omega arith)
room r (suc k) (suc j) s [] h g = refl
room r (suc k) (suc j) s (e ∷ q) h g =
    let g₁ = serve_flag_load r e s q in
    ap (another (woken_by s (serve_flag r e s q)) (activated_by s (serve_flag r e s q))) (room r k j (serve_flag r e s q).now (serve_flag r e s q).queue (omega arith) (omega arith))

serving_nil : (r : Rig) (k : ℕ) (s : State) → serving r k s [] ≡ unserved s
unfolding serving
serving_nil r zero s = refl
serving_nil r (suc k) s = refl

-- THE SERVING RULE, with no bound in it
pub serve_nil : (r : Rig) (s : State) → serve r (record { now = s; queue = [] }) ≡ unserved s
unfolding serve
serve_nil r s = serving_nil r _ s

pub serve_cons : (r : Rig) (s : State) (e : Entry) (q : List Entry)
    → serve r (record { now = s; queue = e ∷ q }) ≡ another (woken_by s (serve_flag r e s q)) (activated_by s (serve_flag r e s q)) (serve r (serve_flag r e s q))
unfolding serve serving
serve_cons r s e q =
    ap (λ (n : ℕ). serving r n s (e ∷ q)) (suc-add (length q) (inactives s.states))
    ∙ ap (another (woken_by s (serve_flag r e s q)) (activated_by s (serve_flag r e s q)))
    (room r (length q + inactives s.states) (load (serve_flag r e s q)) (serve_flag r e s q).now (serve_flag r e s q).queue
    (serve_flag_load r e s q) (le_refl _))

-- what is served, and what may yet be, is never more than the load
serving_left : (r : Rig) (k : ℕ) (s : State) (q : List Entry)
    → (serving r k s q).served + inactives (serving r k s q).now.states ≤ length q + inactives s.states
unfolding serving
serving_left r zero s q = omega arith
serving_left r (suc k) s [] = omega arith
serving_left r (suc k) s (e ∷ q) =
    omega (arith, serving_left r k (serve_flag r e s q).now (serve_flag r e s q).queue, serve_flag_load r e s q)

pub served_left : (r : Rig) (w : Work) → (serve r w).served + inactives (serve r w).now.states ≤ load w
unfolding serve
served_left r w = serving_left r (load w) w.now w.queue

pub served_le : (r : Rig) (w : Work) → (serve r w).served ≤ load w
served_le r w = omega (arith, served_left r w)
