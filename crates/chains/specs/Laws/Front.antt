-- Tasks taken off the front of a chain, one after the other.
use Rattle.std.specs.Prelude.{◌≡◌, ◌≢◌, List, [], ◌∷◌, ℕ, ◌≤◌, ◌<◌}
use Rattle.std.proofs.Math.Path.{refl, ap}
use Rattle.std.proofs.Common.{sym, ◌∙◌, subst, inl, arith}
use Rattle.std.proofs.Math.ListN.{length}
use Rattle.laws.specs.Functions.{upd}
use Rattle.laws.specs.Laws.Functions.{upd_same, upd_upd, upd_self}
use Rattle.laws.specs.Members.{In, Distinct, without}
use Rattle.laws.specs.Laws.Members.{without_mid}
use Rattle.chains.specs.Link.{first}
use Rattle.chains.specs.Laws.Chains.{nodes_distinct, at_place}
use Rattle.chains.specs.Ops.{walk}
use Rattle.chains.specs.Laws.Ops.{forward}
use Rattle.chains.specs.Held.{at, Held, Leaves}
use Rattle.chains.specs.declared.Links.{Links}

-- while tasks leave the chain of s: what is left of it, with v in front
pub record Leaving (s : ℕ) (r : Links) (v : ℕ) (X : ℕ → List ℕ) : Type 0 where
  pub left : List ℕ
  pub held : Held r (upd X s left)
  pub front : first left s ≡ v

module _ (s : ℕ) (ls : 64 < s) (hs : s < 322) (X : ℕ → List ℕ) where
  -- the anchor's next is the first of what is left
  pub front_is : (r : Links) (ys : List ℕ) → Held r (upd X s ys) → first ys s ≡ at r.next s
  front_is r ys h =
      sym (at_place (at r.next) (at r.prev) s [] ys (rw upd_same at (h.link s ls hs))).0

  unfoldable pub leaving_start : (l : Links) → Held l X → Leaving s l (at l.next s) X
  leaving_start l h =
      let g : Held l (upd X s (X s)) = subst (λ (Z : ℕ → List ℕ). Held l Z) (sym (upd_self X s)) h in
      record { left = X s; held = g; front = front_is l (X s) g }

  pub left_start : (l : Links) (h : Held l X) → (leaving_start l h).left ≡ X s
  unfolding leaving_start
  left_start l h = refl

  -- where the anchor is in front, the list is at its end
  pub left_none : (r : Links) (v : ℕ) (k : Leaving s r v X) → v ≡ s → k.left ≡ []
  left_none r v k e = go k.left (k.front ∙ e) (λ a i. (k.held.own s ls hs a (rw (upd_same X s k.left) i)).1)
    where
      go : (ys : List ℕ) → first ys s ≡ s → ((a : ℕ) → In a ys → a ≤ 64) → ys ≡ []
      go [] q f = refl
      go (y ∷ ys) q f = let z : ⊥ = omega (arith, f y (inl refl)) in absurd z

  leaving_walk : (r : Links) (v : ℕ) (k : Leaving s r v X) → walk (at r.next) 64 64 s ≡ k.left
  leaving_walk r v k = forward 64 322 (at r.next) (at r.prev) (at r.on) (upd X s k.left) k.held s ls hs ∙ upd_same X s k.left

  -- where the anchor is in front, nothing is left
  pub leaving_none : (r : Links) (v : ℕ) → Leaving s r v X → v ≡ s → Held r (upd X s [])
  leaving_none r v k e = subst (λ (ys : List ℕ). Held r (upd X s ys)) (left_none r v k e) k.held

  module _ (r : Links) (v : ℕ) (k : Leaving s r v X) (n : v ≢ s) where
    -- v is the first task of what is left
    pub leaving_task : (zs : List ℕ) × (k.left ≡ v ∷ zs)
    leaving_task = go k.left k.front
      where
        go : (ys : List ℕ) → first ys s ≡ v → (zs : List ℕ) × (ys ≡ v ∷ zs)
        go [] e = absurd (n (sym e))
        go (y ∷ zs) e = (zs, rw e)

    pub leaving_own : (0 < v) × (v ≤ 64) × (at r.on v ≡ s)
    leaving_own =
        let e = leaving_task in
        k.held.own s ls hs v (rw (upd_same X s k.left, e.1) (inl refl))

    -- v leaves
    pub leaving_step : (q : Links) → Leaves r v q → Leaving s q (at q.next s) X
    leaving_step q f =
        let e = leaving_task in
        let g = popped e.0 e.1 in
        record { left = e.0; held = g; front = front_is q e.0 g }
      where
        popped : (zs : List ℕ) → k.left ≡ v ∷ zs → Held q (upd X s zs)
        popped zs e =
            let Y = upd X s (v ∷ zs) in
            let h : Held r Y = subst (λ (ys : List ℕ). Held r (upd X s ys)) e k.held in
            let y : Y s ≡ v ∷ zs = upd_same X s (v ∷ zs) in
            let d : Distinct (v ∷ zs) = rw y at (nodes_distinct 64 322 (at r.next) (at r.prev) (at r.on) Y h s ls hs).1 in
            let w : without v (v ∷ zs) ≡ zs = without_mid v [] zs (λ i. i) d.0 in
            subst (λ (Z : ℕ → List ℕ). Held q Z)
            (ap (λ (a : ℕ). upd Y a (without v (Y a))) leaving_own.2
            ∙ ap (λ (l : List ℕ). upd Y s (without v l)) y
            ∙ ap (λ (l : List ℕ). upd Y s l) w
            ∙ upd_upd X s (v ∷ zs) zs)
            (f Y h)

    pub left_step : (q : Links) (f : Leaves r v q) → k.left ≡ v ∷ (leaving_step q f).left
    unfolding leaving_step
    left_step q f = leaving_task.1

    pub leaving_falls : (q : Links) (f : Leaves r v q) → length (walk (at q.next) 64 64 s) < length (walk (at r.next) 64 64 s)
    unfolding leaving_step
    leaving_falls q f =
        let a = leaving_walk r v k in
        let b : walk (at q.next) 64 64 s ≡ leaving_task.0 = leaving_walk q (at q.next s) (leaving_step q f) in
        omega (arith, ap length a, ap length b, ap length leaving_task.1)
