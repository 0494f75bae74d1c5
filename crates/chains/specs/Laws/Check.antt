-- The check of arbitrary link arrays: each chain is walked once from its anchor, with at most T steps.
use Rattle.std.specs.Prelude.{◌≡◌, ◌⊎◌, ◌≢◌, ◌↔◌, Bool, cond, ◌&&◌, ltb, length}
use Rattle.std.proofs.Math.Path.{refl, ap}
use Rattle.std.proofs.Common.{sym, ◌∙◌}
use Rattle.std.proofs.Math.Logic.{inl, inr, ⊎_elim}
use Rattle.std.proofs.Math.Bool.{true, false, not}
use Rattle.std.proofs.lemmas.Bool.{false≢true}
use mathlib.Core.List.{List, [], ◌∷◌, ◌++◌}
use Prim.Native.Nat.{ℕ, zero, suc, ◌≤◌, ◌<◌}
use native.Mathlib.Omega.{arith}
use Rattle.std.proofs.Math.Dec.{eqb, leb}
use borrow.Author.Tests.{eq-eqb, ne_eqb, eqb-true, eqb-false, le-leb, lt-leb, lt-ltb, leb-true, ltb-true, not-true}
use Rattle.laws.specs.Cases.{by}
use Rattle.laws.specs.Functions.{upd}
use Rattle.laws.specs.Laws.Functions.{upd_same, on_upd}
use Rattle.laws.specs.Members.{In}
use Rattle.chains.specs.Link.{Linked}
use Rattle.chains.specs.Chains.{LinkedChains}
use Rattle.chains.specs.Ops.{walk}
use Rattle.chains.specs.Laws.Ops.{short, forward}

-- the parts of a test that holds
pub and_out : (a b : Bool) → (a && b) ≡ true → (a ≡ true) × (b ≡ true)
and_out true b e = (refl, e)
and_out false b e = absurd (false≢true e)

-- v, behind u in the chain of s, is a task that links back to u and names s
unfoldable pub stepb : (ℕ → ℕ) → (ℕ → ℕ) → ℕ → ℕ → ℕ → ℕ → Bool
stepb P O T s u v = ltb 0 v && leb v T && eqb (P v) u && eqb (O v) s

-- from u on, within n tasks, the links come round to s
unfoldable pub ringb : (ℕ → ℕ) → (ℕ → ℕ) → (ℕ → ℕ) → ℕ → ℕ → ℕ → ℕ → Bool
ringb N P O T s zero u = eqb (N u) s && eqb (P s) u
ringb N P O T s (suc n) u = cond (eqb (N u) s) (eqb (P s) u) (stepb P O T s u (N u) && ringb N P O T s n (N u))

module _ (N P O : ℕ → ℕ) (T s : ℕ) (ls : T < s) where
  -- the step's parts
  pub step_out : (u v : ℕ) → stepb P O T s u v ≡ true → (0 < v) × (v ≤ T) × (P v ≡ u) × (O v ≡ s)
  unfolding stepb
  step_out u v e =
      let a = and_out (ltb 0 v && leb v T && eqb (P v) u) (eqb (O v) s) e in
      let b = and_out (ltb 0 v && leb v T) (eqb (P v) u) a.0 in
      let c = and_out (ltb 0 v) (leb v T) b.0 in
      (ltb-true 0 v c.0, leb-true v T c.1, eqb-true (P v) u b.1, eqb-true (O v) s a.1)

  pub step_in : (u v : ℕ) → 0 < v → v ≤ T → P v ≡ u → O v ≡ s → stepb P O T s u v ≡ true
  unfolding stepb
  step_in u v a b c d = rw (lt-ltb 0 v a, le-leb v T b, eq-eqb (P v) u c, eq-eqb (O v) s d)

  -- the walk of a ring that is accepted is linked, and its tasks name s
  pub ring_sound : (n u : ℕ) → ringb N P O T s n u ≡ true
      → Linked N P u (walk N T n u ++ s ∷ []) × ((a : ℕ) → In a (walk N T n u) → (0 < a) × (a ≤ T) × (O a ≡ s))
  unfolding ringb walk
  ring_sound zero u e =
      let a = and_out (eqb (N u) s) (eqb (P s) u) e in
      ((eqb-true (N u) s a.0, eqb-true (P s) u a.1, tt), (λ a i. absurd i))
  ring_sound (suc n) u e =
      by (eqb (N u) s)
      (λ q.
      let c : N u ≡ s = eqb-true (N u) s q in
      rw (c, le_leb_no) ((c, eqb-true (P s) u (rw q at e), tt), (λ a i. absurd i)))
      (λ q.
      let f : (stepb P O T s u (N u) && ringb N P O T s n (N u)) ≡ true = rw q at e in
      let g = and_out (stepb P O T s u (N u)) (ringb N P O T s n (N u)) f in
      let k = step_out u (N u) g.0 in
      let r = ring_sound n (N u) g.1 in
      rw (lt-ltb 0 (N u) k.0, le-leb (N u) T k.1)
      ((refl, k.2, r.0), (λ a i. ⊎_elim (λ p. rw p (k.0, k.1, k.3)) (λ j. r.1 a j) i)))
    where
      le_leb_no : (ltb 0 s && leb s T) ≡ false
      le_leb_no = rw (lt-ltb 0 s (omega arith), lt-leb s T ls)

  -- a ring is accepted
  pub ring_complete : (n u : ℕ) (xs : List ℕ) → Linked N P u (xs ++ s ∷ []) → ((a : ℕ) → In a xs → (0 < a) × (a ≤ T) × (O a ≡ s)) → length xs ≤ n
      → ringb N P O T s n u ≡ true
  unfolding ringb
  ring_complete zero u [] l own f = rw (eq-eqb (N u) s l.0, eq-eqb (P s) u l.1)
  ring_complete zero u (x ∷ xs) l own f = let z : ⊥ = omega arith in absurd z
  ring_complete (suc n) u [] l own f = rw (eq-eqb (N u) s l.0, eq-eqb (P s) u l.1)
  ring_complete (suc n) u (x ∷ xs) l own f =
      let k = own x (inl refl) in
      rw (l.0, ne_eqb x s (λ e. omega arith), step_in u x k.0 k.1 l.1 k.2, ring_complete n x xs l.2 (λ a i. own a (inr i)) (omega arith))

-- the tasks of the list, marked with 1
unfoldable pub marked : (ℕ → ℕ) → List ℕ → ℕ → ℕ
marked f [] = f
marked f (x ∷ xs) = marked (upd f x 1) xs

pub marked_only : (f : ℕ → ℕ) (xs : List ℕ) (t : ℕ) → marked f xs t ≢ 0 → (f t ≢ 0) ⊎ In t xs
unfolding marked
marked_only f [] t n = inl n
marked_only f (x ∷ xs) t n =
    ⊎_elim (λ m. by (eqb t x) (λ e. inr (inl (eqb-true t x e))) (λ e. inl (λ z. m (rw e z)))) (λ i. inr (inr i)) (marked_only (upd f x 1) xs t n)

pub marked_kept : (f : ℕ → ℕ) (xs : List ℕ) (t : ℕ) → f t ≢ 0 → marked f xs t ≢ 0
unfolding marked
marked_kept f [] t n = n
marked_kept f (x ∷ xs) t n =
    marked_kept (upd f x 1) xs t (on_upd (λ (w : ℕ). w ≢ 0) f x 1 t (λ e. (λ z. omega arith)) (λ m. n))

pub marked_all : (f : ℕ → ℕ) (xs : List ℕ) (t : ℕ) → In t xs → marked f xs t ≢ 0
unfolding marked
marked_all f [] t i = absurd i
marked_all f (x ∷ xs) t (inl e) = marked_kept (upd f x 1) xs t (rw (e, upd_same f x 1) (λ z. omega arith))
marked_all f (x ∷ xs) t (inr i) = marked_all (upd f x 1) xs t i

-- EQUIVALENCE. Where each ring is accepted, and each task is idle with links 0 or is met on the walk of some ring,
-- the arrays hold the chains that the walks read; and the other way round.
module _ (T M : ℕ) (N P O : ℕ → ℕ) where
  pub record Accepted : Type 0 where
    pub ring : (s : ℕ) → T < s → s < M → ringb N P O T s T s ≡ true
    pub task : (a : ℕ) → a ≤ T → ((O a ≡ 0) × (N a ≡ 0) × (P a ≡ 0)) ⊎ ((s : ℕ) × (T < s) × (s < M) × In a (walk N T T s))

  pub accepted_sound : Accepted → LinkedChains T M N P O (walk N T T)
  accepted_sound c =
      record {
        link = λ s ls hs. (ring_sound N P O T s ls T s (c.ring s ls hs)).0;
        own = λ s ls hs. (ring_sound N P O T s ls T s (c.ring s ls hs)).1;
        task = λ a a_t.
            ⊎_elim (λ k. inl k)
            (λ k.
            let o : O a ≡ k.0 = ((ring_sound N P O T k.0 k.1 T k.0 (c.ring k.0 k.1 k.2)).1 a k.3).2 in
            inr (rw o k.1, rw o k.2, rw o k.3))
            (c.task a a_t);
      }

  pub sound_accepted : (X : ℕ → List ℕ) → LinkedChains T M N P O X → Accepted
  sound_accepted X h =
      record {
        ring = λ s ls hs. ring_complete N P O T s ls T s (X s) (h.link s ls hs) (h.own s ls hs) (short T M N P O X h s ls hs);
        task = λ a a_t.
            ⊎_elim (λ k. inl k) (λ k. inr (O a, k.0, k.1, rw (forward T M N P O X h (O a) k.0 k.1) k.2)) (h.task a a_t);
      }

  pub equivalence : Accepted ↔ ((X : ℕ → List ℕ) × LinkedChains T M N P O X)
  equivalence = ((λ c. (walk N T T, accepted_sound c)), (λ h. sound_accepted h.0 h.1))

-- THE CHECK'S LOOPS. One step of a ring's walk:
module _ (N P O : ℕ → ℕ) (T s : ℕ) (ls : T < s) where
  pub ring_end : (n u : ℕ) → N u ≡ s → ringb N P O T s n u ≡ eqb (P s) u
  unfolding ringb
  ring_end zero u e = rw (eq-eqb (N u) s e)
  ring_end (suc n) u e = rw (eq-eqb (N u) s e)

  pub ring_out : (u : ℕ) → N u ≢ s → ringb N P O T s 0 u ≡ false
  unfolding ringb
  ring_out u e = rw (ne_eqb (N u) s e)

  pub ring_bad : (n u : ℕ) → N u ≢ s → stepb P O T s u (N u) ≡ false → ringb N P O T s n u ≡ false
  unfolding ringb
  ring_bad zero u e b = rw (ne_eqb (N u) s e)
  ring_bad (suc n) u e b = rw (ne_eqb (N u) s e, b)

  pub ring_next : (n m u : ℕ) → n ≡ suc m → N u ≢ s → stepb P O T s u (N u) ≡ true → ringb N P O T s n u ≡ ringb N P O T s m (N u)
  unfolding ringb
  ring_next n m u q e b = ap (λ (k : ℕ). ringb N P O T s k u) q ∙ go
    where
      go : ringb N P O T s (suc m) u ≡ ringb N P O T s m (N u)
      go = rw (ne_eqb (N u) s e, b)

  pub walk_end : (n u : ℕ) → N u ≡ s → walk N T n u ≡ []
  unfolding walk
  walk_end zero u e = refl
  walk_end (suc n) u e = rw (e, lt-ltb 0 s (omega arith), lt-leb s T ls)

  pub walk_next : (n m u : ℕ) → n ≡ suc m → 0 < N u → N u ≤ T → walk N T n u ≡ N u ∷ walk N T m (N u)
  unfolding walk
  walk_next n m u q a b = ap (λ (k : ℕ). walk N T k u) q ∙ go
    where
      go : walk N T (suc m) u ≡ N u ∷ walk N T m (N u)
      go = rw (lt-ltb 0 (N u) a, le-leb (N u) T b)

-- the rings of the anchors below m are accepted, and S marks just the tasks on them
pub record Rings (T : ℕ) (N P O S : ℕ → ℕ) (m : ℕ) : Type 0 where
  pub ring : (s : ℕ) → T < s → s < m → ringb N P O T s T s ≡ true
  pub only : (t : ℕ) → S t ≢ 0 → (s : ℕ) × (T < s) × (s < m) × In t (walk N T T s)
  pub all : (s : ℕ) → T < s → s < m → (t : ℕ) → In t (walk N T T s) → S t ≢ 0

pub rings_start : (T : ℕ) (N P O S : ℕ → ℕ) → ((t : ℕ) → S t ≡ 0) → Rings T N P O S (suc T)
rings_start T N P O S z =
    record {
      ring = λ s l h. let q : ⊥ = omega arith in absurd q;
      only = λ t n. absurd (n (z t));
      all = λ s l h. let q : ⊥ = omega arith in absurd q;
    }

pub rings_next : (T : ℕ) (N P O S S' : ℕ → ℕ) (m : ℕ) → T < m → Rings T N P O S m → ringb N P O T m T m ≡ true → S' ≡ marked S (walk N T T m) → Rings T N P O S' (suc m)
rings_next T N P O S S' m lm r b e =
    record {
      ring = λ s l h. at_or_below s h (λ k. r.ring s l k) (λ q. rw q b);
      only = λ t n.
          ⊎_elim (λ i. let k = r.only t i in (k.0, k.1, omega (arith, k.2), k.3)) (λ i. (m, lm, omega arith, i))
          (marked_only S (walk N T T m) t (λ z. n (ap (λ (f : ℕ → ℕ). f t) e ∙ z)));
      all = λ s l h t i z.
          at_or_below s h
          (λ k. marked_kept S (walk N T T m) t (r.all s l k t i) (ap (λ (f : ℕ → ℕ). f t) (sym e) ∙ z))
          (λ q. marked_all S (walk N T T m) t (rw q at i) (ap (λ (f : ℕ → ℕ). f t) (sym e) ∙ z));
    }
  where
    at_or_below : {A : Type 0} (s : ℕ) → s < suc m → (s < m → A) → (s ≡ m → A) → A
    at_or_below s h f g = by (eqb s m) (λ q. g (eqb-true s m q)) (λ q. f (omega (arith, eqb-false s m q)))

-- a task, by its marks
unfoldable pub taskb : (ℕ → ℕ) → (ℕ → ℕ) → (ℕ → ℕ) → (ℕ → ℕ) → ℕ → Bool
taskb N P O S t = cond (eqb (O t) 0) (eqb (N t) 0 && eqb (P t) 0) (not (eqb (S t) 0))

module _ (T M : ℕ) (N P O S : ℕ → ℕ) (r : Rings T N P O S M) where
  pub tasks_accepted : ((t : ℕ) → t ≤ T → taskb N P O S t ≡ true) → Accepted T M N P O
  unfolding taskb
  tasks_accepted f =
      record {
        ring = r.ring;
        task = λ a a_t.
            by (eqb (O a) 0)
            (λ e.
            let g : (eqb (N a) 0 && eqb (P a) 0) ≡ true = rw e at (f a a_t) in
            let k = and_out (eqb (N a) 0) (eqb (P a) 0) g in
            inl (eqb-true (O a) 0 e, eqb-true (N a) 0 k.0, eqb-true (P a) 0 k.1))
            (λ e.
            let g : not (eqb (S a) 0) ≡ true = rw e at (f a a_t) in
            inr (r.only a (eqb-false (S a) 0 (not-true (eqb (S a) 0) g))));
      }

  pub accepted_tasks : Accepted T M N P O → (t : ℕ) → t ≤ T → taskb N P O S t ≡ true
  unfolding taskb
  accepted_tasks c t t_t =
      ⊎_elim (λ k. rw (eq-eqb (O t) 0 k.0, eq-eqb (N t) 0 k.1, eq-eqb (P t) 0 k.2))
      (λ k.
      let o : O t ≡ k.0 = ((ring_sound N P O T k.0 k.1 T k.0 (r.ring k.0 k.1 k.2)).1 t k.3).2 in
      rw (ne_eqb (O t) 0 (λ z. omega (arith, k.1, o)), ne_eqb (S t) 0 (r.all k.0 k.1 k.2 t k.3)))
      (c.task t t_t)
