-- The tasks due at the count become dispatchable. The rule picks them out of the time chain one by one; the code takes
-- them off its front, which is the same where the chain is in order and nobody in it is due before the count.
use Rattle.std.specs.Prelude.{◌≡◌, refl, ◌≢◌, not, set}
use Rattle.std.proofs.Math.Path.{sym, ap, subst}
use Rattle.std.proofs.Common.{◌∙◌, inl, inr, arith, add-one, lit<, eq-eqb, ne_eqb}
use mathlib.Core.List.{List, [], ◌∷◌}
use Prim.Native.Nat.{ℕ, ◌+◌, ◌%◌, ◌≤◌, ◌<◌}
use Rattle.laws.specs.Functions.{upd}
use Rattle.laws.specs.Laws.Functions.{upd_same}
use Rattle.laws.specs.Members.{In, keep}
use Rattle.laws.specs.Order.{Sorted}
use Rattle.chains.specs.Held.{at, HoldsChains, Leaves}
use Rattle.chains.specs.Link.{first}
use Rattle.chains.specs.Laws.Front.{Leaving, leaving_start, leaving_step, left_start, left_step}
use Rattle.chains.specs.Read.{chains_of}
use Rattle.chains.specs.Laws.Read.{sound_chains}
use Rattle.chains.specs.declared.Links.{Links}
use Rattle.exec_family.specs.Anchors.{by_name}
use Rattle.exec_family.proofs.Laws.Anchors.{named_put}
use Rattle.exec_queue.specs.View.{entries_of, minor_of}
use Rattle.exec_queue.specs.declared.Queue.{Queue}
use Rattle.rig.specs.declared.Cycle.{Cycle}
use Rattle.rules.specs.State as S
use Rattle.rules.specs.State.{Chain, time_chain, with_chain, Entry, with_chains, with_count}
use Rattle.rules.specs.Serving.{rouse}
use Rattle.rules.specs.Waiting.{is_due, wake_due}
use Rattle.rules.specs.Calls.{ticked, cycle_queue}
use Rattle.exec_state.specs.View.{view_of}
use Rattle.exec_state.specs.Set.{put_state, put_links, put_count}
use Rattle.exec_waking.specs.Post.{Timed, TickOk, WokenDue, Ticked}
use Rattle.exec_state.specs.declared.State.{State}

-- ---- of a list

module _ (wakes : List ℕ) (count : ℕ) where
  abbrev pub due : List ℕ → List ℕ
  due xs = keep (is_due wakes count) xs

  abbrev pub rest : List ℕ → List ℕ
  rest xs = keep (λ (t : ℕ). not (is_due wakes count t)) xs

  pub due_first : (t : ℕ) (xs : List ℕ) → at wakes t ≡ count → (due (t ∷ xs) ≡ t ∷ due xs) × (rest (t ∷ xs) ≡ rest xs)
  due_first t xs e = (rw (eq-eqb (at wakes t) count e), rw (eq-eqb (at wakes t) count e))

  pub none_due : (xs : List ℕ) → ((a : ℕ) → In a xs → count < at wakes a) → (due xs ≡ []) × (rest xs ≡ xs)
  none_due [] h = (refl, refl)
  none_due (x ∷ xs) h =
      let n : at wakes x ≢ count = λ q. omega (arith, h x (inl refl)) in
      let k = none_due xs (λ a i. h a (inr i)) in
      (rw (ne_eqb (at wakes x) count n, k.0), rw (ne_eqb (at wakes x) count n, k.1))

  -- the first is not due, so nobody is
  pub first_later : (v s : ℕ) (xs : List ℕ) → Sorted (at wakes) xs → ((a : ℕ) → In a xs → a ≢ s) → first xs s ≡ v → (v ≢ s → count < at wakes v)
      → (a : ℕ) → In a xs → count < at wakes a
  first_later v s [] o n e h a i = absurd i
  first_later v s (x ∷ xs) o n e h a (inl q) =
      let b : count < at wakes x = subst (λ (y : ℕ). count < at wakes y) (sym e) (h (λ p. n x (inl refl) (e ∙ p))) in
      rw q b
  first_later v s (x ∷ xs) o n e h a (inr i) =
      let b : count < at wakes x = subst (λ (y : ℕ). count < at wakes y) (sym e) (h (λ p. n x (inl refl) (e ∙ p))) in
      omega (arith, b, o.0 a i)

-- ---- the loop

pub record Waking (e q : State) (k : Links) (v : ℕ) : Type 0 where
  pub leaving : Leaving 65 k v (chains_of e.links)
  pub states : rouse (due e.wake e.count (chains_of e.links 65)) e.state ≡ rouse (due e.wake e.count leaving.left) q.state
  pub stays : rest e.wake e.count (chains_of e.links 65) ≡ rest e.wake e.count leaving.left
  pub ordered : Sorted (at e.wake) leaving.left
  pub ahead : (a : ℕ) → In a leaving.left → e.count ≤ at e.wake a
  pub kept : q ≡ put_state e q.state

low : 64 < 65
low = lit< tt

high : 65 < 322
high = lit< tt

module _ (e : State) where
  X : ℕ → List ℕ
  X = chains_of e.links

  W : List ℕ
  W = e.wake

  pub waking_start : HoldsChains e.links → Timed e → Waking e e e.links (at e.links.next 65)
  unfolding X W
  waking_start h t =
      let l = sym (left_start 65 low high X e.links (sound_chains e.links h)) in
      record {
        leaving = leaving_start 65 low high X e.links (sound_chains e.links h);
        states = ap (λ (xs : List ℕ). rouse (due W e.count xs) e.state) l;
        stays = ap (rest W e.count) l;
        ordered = subst (Sorted (at W)) l t.ordered;
        ahead = λ a i. t.due a (subst (λ (xs : List ℕ). In a xs) (sym l) i);
        kept = refl;
      }

  module _ (q : State) (k : Links) (v : ℕ) (w : Waking e q k v) where
    -- waking counts are not changed on the way
    pub wakes_kept : at q.wake v ≤ e.count → at e.wake v ≤ e.count
    wakes_kept h = omega (arith, ap (λ (x : State). at x.wake v) w.kept, h)

    pub wakes_later : e.count < at q.wake v → e.count < at e.wake v
    wakes_later h = omega (arith, ap (λ (x : State). at x.wake v) w.kept, h)

    -- the task in front is due
    pub waking_step : v ≢ 65 → at e.wake v ≤ e.count → (n : Links) → Leaves k v n → Waking e (put_state q (set q.state v 3)) n (at n.next 65)
    unfolding rouse X W
    waking_step d b n f =
        let l = left_step 65 low high X k v w.leaving d n f in
        let zs : List ℕ = (leaving_step 65 low high X k v w.leaving d n f).left in
        let a : (a : ℕ) → In a (v ∷ zs) → e.count ≤ at W a = λ a i. w.ahead a (subst (λ (xs : List ℕ). In a xs) (sym l) i) in
        let o : Sorted (at W) (v ∷ zs) = subst (Sorted (at W)) l w.ordered in
        let g = due_first W e.count v zs (omega (arith, a v (inl refl))) in
        record {
          leaving = leaving_step 65 low high X k v w.leaving d n f;
          states = w.states ∙ ap (λ (xs : List ℕ). rouse (due W e.count xs) q.state) l ∙ ap (λ (xs : List ℕ). rouse xs q.state) g.0;
          stays = w.stays ∙ ap (rest W e.count) l ∙ g.1;
          ordered = o.1;
          ahead = λ c i. a c (inr i);
          kept = ap (λ (x : State). put_state x (set q.state v 3)) w.kept;
        }

    -- nobody is in front, or one who is not due
    pub waking_done : (v ≢ 65 → e.count < at e.wake v) → WokenDue e (put_links q k)
    unfolding rouse wake_due X W
    waking_done b =
        let ys = w.leaving.left in
        let own : (a : ℕ) → In a ys → a ≢ 65 =
        λ a i p. let z = w.leaving.held.own 65 low high a (rw (upd_same X 65 ys) i) in omega (arith, z.1) in
        let g = none_due W e.count ys (first_later W e.count v 65 ys w.ordered own w.leaving.front b) in
        let r : rest W e.count (X 65) ≡ ys = w.stays ∙ g.1 in
        let l : rouse (due W e.count (X 65)) e.state ≡ q.state = w.states ∙ ap (λ (xs : List ℕ). rouse xs q.state) g.0 in
        let c : by_name (chains_of k) ≡ with_chain (by_name X) time_chain ys = named_put time_chain tt ys e.links k w.leaving.held in
        record {
          is =
              ap (λ (x : State). view_of (put_links x k)) w.kept
              ∙ ap (λ (xs : List ℕ). with_chains (view_of e) xs (by_name (chains_of k))) (sym l)
              ∙ ap (λ (Y : Chain → List ℕ). with_chains (view_of e) (rouse (due W e.count (X 65)) e.state) Y) (c ∙ ap (with_chain (by_name X) time_chain) (sym r));
          sound = (upd X 65 ys, w.leaving.held);
        }

-- ---- the tick

pub risen : (s : State) → TickOk s → Timed (put_count s (s.count + 1))
risen s k = record { ordered = k.ordered; due = λ t i. omega (arith, k.ahead t i) }

pub ticked_is : (s : State) (cycles : List Cycle) (q : Queue) → entries_of q ≡ cycle_queue (minor_of cycles ((s.count + 1) % 64)) → (r : State)
    → WokenDue (put_count s (s.count + 1)) r → Ticked s cycles (record { st = r; queue = q })
unfolding ticked
ticked_is s cycles q e r w =
    record {
      is = λ g.
          ap (λ (x : List Entry). record { now = view_of r; queue = x }) e
          ∙ ap (λ (x : S.State). record { now = x; queue = cycle_queue (minor_of cycles ((s.count + 1) % 64)) }) w.is
          ∙ ap (λ (n : ℕ). record { now = wake_due (with_count (view_of s) n); queue = cycle_queue (minor_of cycles (n % 64)) }) (add-one s.count);
      sound = w.sound;
    }
