-- All who wait in a chain become dispatchable: the loop, turn by turn.
use Rattle.std.specs.Prelude.{◌≡◌, ◌≢◌, Bool, true, false, cond, ◌&&◌, ℕ, zero, suc, ◌+◌, ◌≤◌, ◌<◌, leb, ltb, set}
use Rattle.std.proofs.Common.{sym, ◌∙◌, subst, zero-le, arith}
use Rattle.std.proofs.Math.Path.{ap}
use mathlib.Core.List.{List, [], ◌∷◌}
use Rattle.std.proofs.Math.ListN.{length}
use Rattle.laws.specs.Functions.{upd}
use Rattle.chains.specs.Held.{at, Held, HoldsChains, Leaves}
use Rattle.chains.specs.Laws.Front.{Leaving, leaving_start, leaving_step, leaving_none, left_start, left_step, left_none}
use Rattle.chains.specs.Ops.{walk}
use Rattle.chains.specs.Read.{chains_of}
use Rattle.chains.specs.Laws.Read.{sound_chains}
use Rattle.chains.specs.declared.Links.{Links}
use Rattle.exec_family.specs.Anchors.{anchor_of, by_name}
use Rattle.exec_family.proofs.Laws.Anchors.{anchor_chain, named_put}
use Rattle.rules.specs.State.{Chain, with_chain, with_chains}
use Rattle.rules.specs.Serving.{rouse, wake}
use Rattle.exec_state.specs.View.{view_of}
use Rattle.exec_waking.specs.Post.{Awoken, Rouses}

-- who is left, and what is still to be stored; m are woken
pub record Waking (l : Links) (a : List ℕ) (s : ℕ) (b : List ℕ) (k : Links) (v m : ℕ) : Type 0 where
  pub leaving : Leaving s k v (chains_of l)
  pub states : rouse (chains_of l s) a ≡ rouse leaving.left b
  pub many : m + length leaving.left ≡ length (chains_of l s)

-- a chain that is read has at most as many tasks as there are
walk_few : (f : ℕ → ℕ) (most n u : ℕ) → length (walk f most n u) ≤ n
unfolding walk
walk_few f most zero u = zero-le
walk_few f most (suc n) u = go (ltb 0 (f u) && leb (f u) most) (walk_few f most n (f u))
  where
    go : (b : Bool) → length (walk f most n (f u)) ≤ n → length (cond b (f u ∷ walk f most n (f u)) []) ≤ suc n
    go true h = omega arith
    go false h = zero-le

chain_few : (l : Links) (s : ℕ) → length (chains_of l s) ≤ 64
unfolding chains_of
chain_few l s = go (ltb 64 s && ltb s 322) (walk_few (at l.next) 64 64 s)
  where
    go : (b : Bool) → length (walk (at l.next) 64 64 s) ≤ 64 → length (cond b (walk (at l.next) 64 64 s) []) ≤ 64
    go true h = h
    go false h = zero-le

module _ (s : ℕ) (ls : 64 < s) (hs : s < 322) (l : Links) (a : List ℕ) where
  X : ℕ → List ℕ
  X = chains_of l

  pub waking_start : HoldsChains l → Waking l a s a l (at l.next s) 0
  unfolding X
  waking_start h =
      record {
        leaving = leaving_start s ls hs X l (sound_chains l h);
        states = ap (λ (ys : List ℕ). rouse ys a) (sym (left_start s ls hs X l (sound_chains l h)));
        many = omega (arith, ap length (left_start s ls hs X l (sound_chains l h)));
      }

  pub waking_step : (b : List ℕ) (k : Links) (v m : ℕ) → Waking l a s b k v m → v ≢ s → (n : Links) → Leaves k v n
      → Waking l a s (set b v 3) n (at n.next s) (m + 1)
  unfolding rouse X
  waking_step b k v m w d n f =
      record {
        leaving = leaving_step s ls hs X k v w.leaving d n f;
        states = w.states ∙ ap (λ (ys : List ℕ). rouse ys b) (left_step s ls hs X k v w.leaving d n f);
        many = omega (arith, w.many, ap length (left_step s ls hs X k v w.leaving d n f));
      }

  pub waking_few : (b : List ℕ) (k : Links) (v m : ℕ) → Waking l a s b k v m → m ≤ 64
  waking_few b k v m w = omega (arith, w.many, chain_few l s)

  waking_all : (b : List ℕ) (k : Links) (v m : ℕ) → Waking l a s b k v m → v ≡ s → Awoken l a s k b
  unfolding rouse wake X
  waking_all b k v m w d e c q =
      let h : Held k (upd X s []) = leaving_none s ls hs X k v w.leaving d in
      let n : by_name (chains_of k) ≡ with_chain (by_name X) c [] =
      named_put c (anchor_chain c (omega (arith, ls, q))) [] l k (subst (λ (x : ℕ). Held k (upd X x [])) (sym q) h) in
      let r : rouse (X (anchor_of c)) a ≡ b =
      ap (λ (x : ℕ). rouse (X x) a) q ∙ w.states ∙ ap (λ (ys : List ℕ). rouse ys b) (left_none s ls hs X k v w.leaving d) in
      record {
        is =
            ap (λ (ys : List ℕ). with_chains (view_of e) ys (by_name (chains_of k))) (sym r)
            ∙ ap (λ (Y : Chain → List ℕ). with_chains (view_of e) (rouse (X (anchor_of c)) a) Y) n;
        sound = (upd X s [], h);
      }

  pub waking_done : (b : List ℕ) (k : Links) (v m : ℕ) → Waking l a s b k v m → v ≡ s → Rouses l a s (record { links = k; woken = m }) b
  unfolding X
  waking_done b k v m w d =
      record {
        awoken = waking_all b k v m w d;
        many = omega (arith, w.many, ap length (left_none s ls hs X k v w.leaving d));
        few = waking_few b k v m w;
      }

  -- nobody waits
  pub waking_none : HoldsChains l → at l.next s ≡ s → Rouses l a s (record { links = l; woken = 0 }) a
  waking_none h d = waking_done a l (at l.next s) 0 (waking_start h) d
