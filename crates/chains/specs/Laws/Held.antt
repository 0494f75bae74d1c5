-- Laws of the definitions of Held.antt.
use Rattle.std.specs.Prelude.{◌≡◌, refl, ◌≢◌, List, [], ◌∷◌, ◌++◌, ℕ, ◌+◌, ◌≤◌, ◌<◌, eqb, leb, set, replicate}
use Rattle.std.proofs.Common.{sym, ◌∙◌, inl, ⊎_elim, append_assoc, append-nil, arith, lit<, leb-true, leb-false, eqb-true, length-set, length-append, get_or-set_same, get_or-set_other}
use Rattle.std.proofs.Math.Path.{ap, fun_ext}
use Rattle.std.proofs.lemmas.Bool.{eqb-false}
use Rattle.std.proofs.Math.ListN.{length}
use Rattle.std.proofs.lemmas.List.{length-replicate}
use Rattle.laws.specs.Laws.Tables.{zeros_at}
use Rattle.laws.specs.Cases.{by}
use Rattle.laws.specs.Functions.{upd}
use Rattle.laws.specs.Laws.Functions.{on_upd}
use Rattle.laws.specs.Members.{without}
use Rattle.laws.specs.Laws.Members.{in_left, in_right, in_cases}
use Rattle.laws.specs.Order.{insert_by}
use Rattle.laws.specs.Laws.Order.{place_split}
use Rattle.chains.specs.Link.{Chain, last, first}
use Rattle.chains.specs.Laws.Link.{in_last, linked_split}
use Rattle.chains.specs.Chains.{LinkedChains}
use Rattle.chains.specs.Laws.Chains.{remove, task_below, anchor_below, insert, at_place, at_element}
use Rattle.chains.specs.Ops.{walk}
use Rattle.chains.specs.Laws.Ops.{walk_linked, short}
use Rattle.chains.specs.declared.Links.{Links}
use Rattle.chains.specs.Held.{at, Held, Sized, Puts, Scan, Empty, Selves}

-- a store is an update of what is read
pub at_set : (l : List ℕ) (i v : ℕ) → i < length l → at (set l i v) ≡ upd (at l) i v
at_set l i v h =
    fun_ext λ j.
    on_upd (λ (w : ℕ). at (set l i v) j ≡ w) (at l) i v j
    (λ e. rw e (get_or-set_same l i v 0 h)) (λ n. get_or-set_other l i j v 0 n)

-- two stores to an array
pub at_set2 : (l : List ℕ) (i v j w : ℕ) → i < length l → j < length l → at (set (set l i v) j w) ≡ upd (upd (at l) i v) j w
at_set2 l i v j w h k = at_set (set l i v) j w (rw length-set k) ∙ ap (λ (f : ℕ → ℕ). upd f j w) (at_set l i v h)

-- what the stores of `unlink` come to
pub unlinked : (l : Links) → Sized l → (t : ℕ) → 0 < t → t ≤ 64 → (at l.on t ≡ 0 → ⊥) → (X : ℕ → List ℕ) → Held l X
    → LinkedChains 64 322
    (at (set (set l.next (at l.prev t) (at l.next t)) t 0))
    (at (set (set l.prev (at l.next t) (at l.prev t)) t 0))
    (at (set l.on t 0))
    (upd X (at l.on t) (without t (X (at l.on t))))
unlinked l z t t0 t_t n X h =
    let b = task_below 64 322 (at l.next) (at l.prev) (at l.on) X h (lit< tt) t t0 t_t in
    rw (
      at_set2 l.next (at l.prev t) (at l.next t) t 0 (omega (arith, b.1, z.next)) (omega (arith, z.next)),
      at_set2 l.prev (at l.next t) (at l.prev t) t 0 (omega (arith, b.0, z.prev)) (omega (arith, z.prev)),
      at_set l.on t 0 (omega (arith, z.on)),
    )
    (remove 64 322 (at l.next) (at l.prev) (at l.on) X h t t0 t_t n)

pub task_links : (l : Links) (X : ℕ → List ℕ) → Held l X → (t : ℕ) → 0 < t → t ≤ 64 → (at l.next t < 322) × (at l.prev t < 322)
task_links l X h t t0 t_t = task_below 64 322 (at l.next) (at l.prev) (at l.on) X h (lit< tt) t t0 t_t

pub anchor_links : (l : Links) (X : ℕ → List ℕ) → Held l X → (s : ℕ) → 64 < s → s < 322 → (at l.next s < 322) × (at l.prev s < 322)
anchor_links l X h s ls hs = anchor_below 64 322 (at l.next) (at l.prev) (at l.on) X h s ls hs

pub node_links : (l : Links) (X : ℕ → List ℕ) → Held l X → (u : ℕ) → 0 < u → u < 322 → (at l.next u < 322) × (at l.prev u < 322)
node_links l X h u u0 hu =
    by (leb u 64) (λ e. task_links l X h u u0 (leb-true u 64 e)) (λ e. anchor_links l X h u (leb-false u 64 e) hu)

-- what the stores of `link_after` come to
pub linked_after : (l : Links) → Sized l → (s u t : ℕ) → Puts l s u t → (X : ℕ → List ℕ) → Held l X
    → (xs ys : List ℕ) → X s ≡ xs ++ ys → last s xs ≡ u
    → LinkedChains 64 322
    (at (set (set l.next u t) t (at l.next u)))
    (at (set (set l.prev (at l.next u) t) t u))
    (at (set l.on t s))
    (upd X s (xs ++ t ∷ ys))
linked_after l z s u t p X h xs ys e q =
    let b = node_links l X h u p.node p.inside in
    let a : at l.next (last s xs) ≡ first ys s = (at_place (at l.next) (at l.prev) s xs ys (rw e at (h.link s p.low p.high))).0 in
    let v : at l.next u ≡ first ys s = rw q at a in
    rw (
      at_set2 l.next u t t (at l.next u) (omega (arith, z.next)) (omega (arith, z.next)),
      at_set2 l.prev (at l.next u) t t u (omega (arith, b.0, z.prev)) (omega (arith, z.prev)),
      at_set l.on t s (omega (arith, z.on)),
      v,
      ← q,
    )
    (insert 64 322 (at l.next) (at l.prev) (at l.on) X h s p.low p.high t p.some p.task xs ys p.idle e)

-- the end of a chain, as the anchor's previous has it
pub tail_node : (l : Links) (X : ℕ → List ℕ) → Held l X → (s : ℕ) → 64 < s → s < 322
    → (0 < at l.prev s) × (at l.prev s < 322) × (last s (X s) ≡ at l.prev s)
tail_node l X h s ls hs =
    let k : Chain (at l.next) (at l.prev) s (X s ++ []) = rw append-nil (h.link s ls hs) in
    let e : at l.prev s ≡ last s (X s) = (at_place (at l.next) (at l.prev) s (X s) [] k).1 in (
      rw e (⊎_elim (λ q. omega arith) (λ i. (h.own s ls hs (last s (X s)) i).0) (in_last s (X s))),
      (anchor_links l X h s ls hs).1,
      sym e,
    )

last_snoc : (w : ℕ) (l : List ℕ) (z : ℕ) → last w (l ++ z ∷ []) ≡ z
last_snoc w [] z = refl
last_snoc w (y ∷ l) z = last_snoc y l z

module _ (l : Links) (X : ℕ → List ℕ) (h : Held l X) (Q : ℕ → Type 0) (s : ℕ) (ls : 64 < s) (hs : s < 322) where
  pub scan_start : Scan Q s s (at l.next s) (X s)
  scan_start =
      record {
        front = [];
        back = X s;
        whole = refl;
        end = refl;
        then = sym (at_place (at l.next) (at l.prev) s [] (X s) (h.link s ls hs)).0;
        before = λ a i. absurd i;
      }

  -- where the search stands at a task, that task is the first of what is left
  pub at_task : (u v : ℕ) → (c : Scan Q s u v (X s)) → v ≢ s → (zs : List ℕ) × (c.back ≡ v ∷ zs)
  at_task u v c n = go c.back c.then
    where
      go : (ys : List ℕ) → first ys s ≡ v → (zs : List ℕ) × (ys ≡ v ∷ zs)
      go [] e = absurd (n (sym e))
      go (y ∷ zs) e = (zs, rw e)

  pub scan_task : (u v : ℕ) → Scan Q s u v (X s) → v ≢ s → (0 < v) × (v ≤ 64)
  scan_task u v c n =
      let r = at_task u v c n in
      let k = h.own s ls hs v (rw (c.whole, r.1) (in_right v c.front (v ∷ r.0) (inl refl))) in
      (k.0, k.1)

  pub scan_step : (u v : ℕ) → Scan Q s u v (X s) → v ≢ s → Q v → Scan Q s v (at l.next v) (X s)
  scan_step u v c n w =
      let r = at_task u v c n in
      let e : X s ≡ c.front ++ v ∷ r.0 = c.whole ∙ ap (λ (q : List ℕ). c.front ++ q) r.1 in
      record {
        front = c.front ++ v ∷ [];
        back = r.0;
        whole = e ∙ rw append_assoc refl;
        end = last_snoc s c.front v;
        then = sym (at_element (at l.next) (at l.prev) s v c.front r.0 (rw e at (h.link s ls hs))).1;
        before = λ a i. ⊎_elim (λ j. c.before a j) (λ j. ⊎_elim (λ q. rw q w) (λ z. absurd z) j) (in_cases a c.front (v ∷ []) i);
      }

  -- how far the search has still to go
  pub scan_left : (u v : ℕ) → (c : Scan Q s u v (X s)) → walk (at l.next) 64 64 u ≡ c.back
  scan_left u v c =
      let k : Chain (at l.next) (at l.prev) s (c.front ++ c.back) = rw c.whole at (h.link s ls hs) in
      let b = linked_split (at l.next) (at l.prev) s c.front (c.back ++ s ∷ []) (rw append_assoc at k) in
      let n : length (X s) ≤ 64 = short 64 322 (at l.next) (at l.prev) (at l.on) X h s ls hs in
      walk_linked (at l.next) (at l.prev) 64 s ls 64 u c.back
      (λ a i. let o = h.own s ls hs a (rw c.whole (in_right a c.front c.back i)) in (o.0, o.1))
      (omega (arith, n, simp length-append at (ap length c.whole))) (rw c.end at b.1)

  pub scan_falls : (u v : ℕ) → (c : Scan Q s u v (X s)) → (n : v ≢ s) → (w : Q v)
      → length (walk (at l.next) 64 64 v) < length (walk (at l.next) 64 64 u)
  unfolding scan_step
  scan_falls u v c n w =
      let q : length (walk (at l.next) 64 64 v) ≡ length (at_task u v c n).0 = ap length (scan_left v (at l.next v) (scan_step u v c n w)) in
      omega (arith, q, ap length (scan_left u v c), ap length (at_task u v c n).1)

  -- the node that the search stands at
  pub scan_node : (u v : ℕ) → Scan Q s u v (X s) → (0 < u) × (u < 322)
  scan_node u v c =
      rw (← c.end)
      (⊎_elim (λ q. (omega arith, omega arith))
      (λ i.
      let k = h.own s ls hs (last s c.front) (rw c.whole (in_left (last s c.front) c.front c.back i)) in
      (k.0, omega (arith, k.1)))
      (in_last s c.front))

-- the place of t is found
pub scan_done : (l : Links) (X : ℕ → List ℕ) (h : Held l X) (wake : List ℕ) (s t : ℕ) (ls : 64 < s) (hs : s < 322) (u v : ℕ)
    → (c : Scan (λ (a : ℕ). at wake a ≤ at wake t) s u v (X s)) → (v ≢ s → at wake t < at wake v)
    → insert_by (at wake) t (X s) ≡ c.front ++ t ∷ c.back
scan_done l X h wake s t ls hs u v c w =
    ap (insert_by (at wake) t) c.whole
    ∙ place_split (at wake) t c.front c.back c.before
    (λ y zs e.
    let f : y ≡ v = sym (ap (λ (q : List ℕ). first q s) e) ∙ c.then in
    let k = h.own s ls hs y (rw (c.whole, e) (in_right y c.front (y ∷ zs) (inl refl))) in
    rw f (w (λ q. omega (arith, k.1))))

-- the same at another node
pub puts_at : (l : Links) (s u t : ℕ) → Puts l s s t → 0 < u → u < 322 → Puts l s u t
puts_at l s u t p a b =
    record { low = p.low; high = p.high; some = p.some; task = p.task; idle = p.idle; node = a; inside = b }

pub selves_start : Selves (replicate 322 0) 65
selves_start =
    record {
      size = length-replicate {A = ℕ} 322 0;
      anchor = λ k a b. let z : ⊥ = omega arith in absurd z;
      none = λ k a. zeros_at 322 k;
    }

pub selves_step : (l : List ℕ) (i : ℕ) → 64 < i → i < 322 → Selves l i → Selves (set l i i) (i + 1)
selves_step l i li hi s =
    record {
      size = length-set l i i ∙ s.size;
      anchor = λ k a b.
          by (eqb k i)
          (λ e. let q : k ≡ i = eqb-true k i e in rw q (get_or-set_same l i i 0 (omega (arith, s.size))))
          (λ e. let n : k ≢ i = eqb-false k i e in get_or-set_other l i k i 0 n ∙ s.anchor k a (omega arith));
      none = λ k a. get_or-set_other l i k i 0 (λ q. omega arith) ∙ s.none k a;
    }

pub selves_empty : (next prev : List ℕ) → Selves next 322 → Selves prev 322 → Empty (record { next = next; prev = prev; on = replicate 65 0 })
selves_empty next prev n p =
    record {
      link = λ s ls hs. (n.anchor s ls hs, p.anchor s ls hs, tt);
      own = λ s ls hs a i. absurd i;
      task = λ a a_t. inl (zeros_at 65 a, n.none a a_t, p.none a a_t);
    }
