-- Laws of the definitions of Chains.antt.
use Rattle.std.specs.Prelude.{◌≡◌, refl, ◌⊎◌, ◌≢◌, List, [], ◌∷◌, ◌++◌, ℕ, ◌≤◌, ◌<◌}
use Rattle.std.proofs.Common.{sym, ◌∙◌, ap, subst, inl, inr, ⊎_elim, append_assoc, append-nil, arith}
use Rattle.laws.specs.Functions.{upd}
use Rattle.laws.specs.Laws.Functions.{upd_same, upd_other, on_upd, upd2}
use Rattle.laws.specs.Members.{In, Distinct, without}
use Rattle.laws.specs.Laws.Members.{in_left, in_right, in_cases, in_split, without_mid, in_mid, out_mid, apart_left, distinct_right, distinct_left, distinct_mid, distinct_apart}
use Rattle.chains.specs.Link.{Linked, Chain, last, first, rest}
use Rattle.chains.specs.Laws.Link.{in_last, linked_split, linked_join, seam_out, seam_in, distinct}
use Rattle.chains.specs.Chains.{LinkedChains}

-- Stores that touch nothing of a linked stretch but its end's next, or its start's previous, leave it linked.
module _ (N P N' P' : ℕ → ℕ) where
  front : (u : ℕ) (xs : List ℕ) → Distinct (u ∷ xs)
      → ((c : ℕ) → In c (u ∷ xs) → c ≢ last u xs → N' c ≡ N c) → ((c : ℕ) → In c xs → P' c ≡ P c)
      → Linked N P u xs → Linked N' P' u xs
  front u [] d f g l = tt
  front u (x ∷ xs) d f g l = (
    f u (inl refl) (λ e. d.0 (subst (λ (z : ℕ). In z (x ∷ xs)) (sym e) (in_last x xs))) ∙ l.0,
    g x (inl refl) ∙ l.1,
    front x xs d.1 (λ c i. f c (inr i)) (λ c i. g c (inr i)) l.2,
  )

  pub behind : (y : ℕ) (zs : List ℕ) (s : ℕ)
      → ((c : ℕ) → In c (y ∷ zs) → N' c ≡ N c) → ((c : ℕ) → In c zs → P' c ≡ P c) → P' s ≡ P s
      → Linked N P y (zs ++ s ∷ []) → Linked N' P' y (zs ++ s ∷ [])
  behind y [] s f g e l = (f y (inl refl) ∙ l.0, e ∙ l.1, tt)
  behind y (z ∷ zs) s f g e l =
      (f y (inl refl) ∙ l.0, g z (inl refl) ∙ l.1, behind z zs s (λ c i. f c (inr i)) (λ c i. g c (inr i)) e l.2)

  tail_kept : (ys : List ℕ) (s : ℕ) → Distinct ys → (In s ys → ⊥)
      → ((c : ℕ) → In c ys → N' c ≡ N c) → ((c : ℕ) → In c (s ∷ ys) → c ≢ first ys s → P' c ≡ P c)
      → Linked N P (first ys s) (rest ys s) → Linked N' P' (first ys s) (rest ys s)
  tail_kept [] s d n f g l = tt
  tail_kept (y ∷ ys) s d n f g l =
      behind y ys s f
      (λ c i. g c (inr (inr i)) (λ e. d.0 (subst (λ (z : ℕ). In z ys) e i)))
      (g s (inl refl) (λ e. n (inl e))) l

module _ (N P : ℕ → ℕ) (s x : ℕ) (xs ys : List ℕ) (sx : x ≢ s) (d : Distinct (s ∷ xs ++ ys)) (nx : In x (xs ++ ys) → ⊥) where
  u_in : In (last s xs) (s ∷ xs ++ ys)
  u_in = in_left _ (s ∷ xs) ys (in_last s xs)

  v_in : In (first ys s) (s ∷ xs ++ ys)
  v_in = go ys
    where
      go : (zs : List ℕ) → In (first zs s) (s ∷ xs ++ zs)
      go [] = inl refl
      go (z ∷ zs) = inr (in_right z xs (z ∷ zs) (inl refl))

  off_x : (c : ℕ) → In c (s ∷ xs ++ ys) → c ≢ x
  off_x c (inl e) q = sx (sym q ∙ e)
  off_x c (inr i) q = nx (subst (λ (z : ℕ). In z (xs ++ ys)) q i)

  -- both sides of the seam, under stores at the seam and at x alone
  sides : (N' P' : ℕ → ℕ) → ((c : ℕ) → c ≢ last s xs → c ≢ x → N' c ≡ N c) → ((c : ℕ) → c ≢ first ys s → c ≢ x → P' c ≡ P c)
      → Linked N P s xs → Linked N P (first ys s) (rest ys s)
      → Linked N' P' s xs × Linked N' P' (first ys s) (rest ys s)
  sides N' P' f g a b = (
    front N P N' P' s xs (distinct_left (s ∷ xs) ys d)
        (λ c i q. f c q (off_x c (in_left c (s ∷ xs) ys i)))
        (λ c i. g c (not_first c i) (off_x c (inr (in_left c xs ys i)))) a,
    tail_kept N P N' P' ys s (distinct_right (s ∷ xs) ys d) (λ i. d.0 (in_right s xs ys i))
        (λ c i. f c (λ e. distinct_apart c (s ∷ xs) ys d (subst (λ (z : ℕ). In z (s ∷ xs)) (sym e) (in_last s xs)) i) (off_x c (inr (in_right c xs ys i))))
        (λ c i q. g c q (off_x c (⊎_elim (λ e. inl e) (λ j. inr (in_right c xs ys j)) i))) b,
  )
    where
      not_first : (c : ℕ) → In c xs → c ≢ first ys s
      not_first c i = go ys d
        where
          go : (zs : List ℕ) → Distinct (s ∷ xs ++ zs) → c ≢ first zs s
          go [] e q = e.0 (in_left s xs [] (subst (λ (z : ℕ). In z xs) q i))
          go (z ∷ zs) e q = distinct_apart c xs (z ∷ zs) e.1 i (inl q)

  -- x linked in between xs and ys
  pub chain_insert : Chain N P s (xs ++ ys)
      → Chain (upd (upd N (last s xs) x) x (first ys s)) (upd (upd P (first ys s) x) x (last s xs)) s (xs ++ x ∷ ys)
  chain_insert l =
      let u = last s xs in
      let v = first ys s in
      let N' = upd (upd N u x) x v in
      let P' = upd (upd P v x) x u in
      let h = linked_split N P s xs (ys ++ s ∷ []) (rw append_assoc at l) in
      let q = seam_out N P u ys s h.1 in
      let k = sides N' P' (λ c. upd2 N u x x v c) (λ c. upd2 P v x x u c) h.0 q.2 in
      rw append_assoc
      (linked_join N' P' s xs (x ∷ ys ++ s ∷ []) k.0 (
        upd_other (upd N u x) x v u (off_x u u_in) ∙ upd_same N u x,
        upd_same (upd P v x) x u,
        seam_in N' P' x ys s (upd_same (upd N u x) x v) (upd_other (upd P v x) x u v (off_x v v_in) ∙ upd_same P v x) k.1,
      ))

  -- x linked out
  pub chain_remove : Chain N P s (xs ++ x ∷ ys)
      → Chain (upd (upd N (last s xs) (first ys s)) x 0) (upd (upd P (first ys s) (last s xs)) x 0) s (xs ++ ys)
  chain_remove l =
      let u = last s xs in
      let v = first ys s in
      let N' = upd (upd N u v) x 0 in
      let P' = upd (upd P v u) x 0 in
      let h = linked_split N P s xs (x ∷ ys ++ s ∷ []) (rw append_assoc at l) in
      let q = seam_out N P x ys s h.1.2 in
      let k = sides N' P' (λ c. upd2 N u v x 0 c) (λ c. upd2 P v u x 0 c) h.0 q.2 in
      rw append_assoc
      (linked_join N' P' s xs (ys ++ s ∷ []) k.0
      (seam_in N' P' u ys s
      (upd_other (upd N u v) x 0 u (off_x u u_in) ∙ upd_same N u v)
      (upd_other (upd P v u) x 0 v (off_x v v_in) ∙ upd_same P v u) k.1))

-- what the links say at an element of a chain, and at the place between two parts of it
pub at_element : (N P : ℕ → ℕ) (s x : ℕ) (xs ys : List ℕ) → Chain N P s (xs ++ x ∷ ys) → (P x ≡ last s xs) × (N x ≡ first ys s)
at_element N P s x xs ys l =
    let h = linked_split N P s xs (x ∷ ys ++ s ∷ []) (rw append_assoc at l) in
    (h.1.1, (seam_out N P x ys s h.1.2).0)

pub at_place : (N P : ℕ → ℕ) (s : ℕ) (xs ys : List ℕ) → Chain N P s (xs ++ ys) → (N (last s xs) ≡ first ys s) × (P (first ys s) ≡ last s xs)
at_place N P s xs ys l =
    let h = linked_split N P s xs (ys ++ s ∷ []) (rw append_assoc at l) in
    let q = seam_out N P (last s xs) ys s h.1 in
    (q.0, q.1)

module _ (T M : ℕ) (N P O : ℕ → ℕ) (X : ℕ → List ℕ) (ch : LinkedChains T M N P O X) where
  pub anchor_out : (s : ℕ) → T < s → s < M → In s (X s) → ⊥
  anchor_out s l h i = omega (arith, (ch.own s l h s i).1)

  pub nodes_distinct : (s : ℕ) → T < s → s < M → Distinct (s ∷ X s)
  nodes_distinct s l h = (
    anchor_out s l h,
    distinct N P s (X s) (linked_split N P s (X s) (s ∷ []) (ch.link s l h)).0 (anchor_out s l h),
  )

  -- a node of the chain of s: the anchor, or a task that names s
  node : (s : ℕ) → T < s → s < M → (a : ℕ) → In a (s ∷ X s) → (a ≡ s) ⊎ ((0 < a) × (a ≤ T) × (O a ≡ s))
  node s l h a (inl e) = inl e
  node s l h a (inr i) = inr (ch.own s l h a i)

  -- the nodes of two chains are apart
  pub apart : (s d : ℕ) → T < s → s < M → T < d → d < M → d ≢ s → (a b : ℕ) → In a (s ∷ X s) → In b (d ∷ X d) → b ≢ a
  apart s d ls hs ld hd n a b i j e =
      ⊎_elim
      (λ p. ⊎_elim (λ q. n (sym q ∙ e ∙ p)) (λ q. omega (arith, q.1, p, e)) (node d ld hd b j))
      (λ p. ⊎_elim (λ q. omega (arith, p.1, q, e)) (λ q. n (sym q.2 ∙ ap O e ∙ p.2)) (node d ld hd b j))
      (node s ls hs a i)

  -- an idle task is in no chain
  pub idle_out : (x : ℕ) → O x ≡ 0 → (s : ℕ) → T < s → s < M → In x (X s) → ⊥
  idle_out x o s l h i = omega (arith, (ch.own s l h x i).2)

  -- no task is in two chains
  pub in_one : (s d a : ℕ) → T < s → s < M → T < d → d < M → In a (X s) → In a (X d) → s ≡ d
  in_one s d a ls hs ld hd i j = sym (ch.own s ls hs a i).2 ∙ (ch.own d ld hd a j).2

  -- a link of any node is the number of a node, or 0
  first_below : (s : ℕ) → T < s → s < M → (ys : List ℕ) → ((a : ℕ) → In a ys → In a (X s)) → first ys s < M
  first_below s ls hs [] f = hs
  first_below s ls hs (y ∷ ys) f = omega (arith, (ch.own s ls hs y (f y (inl refl))).1)

  last_below : (s : ℕ) → T < s → s < M → (xs : List ℕ) → ((a : ℕ) → In a xs → In a (X s)) → last s xs < M
  last_below s ls hs xs f =
      ⊎_elim (λ q. omega arith) (λ i. omega (arith, (ch.own s ls hs (last s xs) (f (last s xs) i)).1)) (in_last s xs)

  element_below : (s : ℕ) → T < s → s < M → (x : ℕ) (xs ys : List ℕ) → X s ≡ xs ++ x ∷ ys → (N x < M) × (P x < M)
  element_below s ls hs x xs ys e =
      let a = at_element N P s x xs ys (rw e at (ch.link s ls hs)) in (
        rw a.1 (first_below s ls hs ys (λ b i. rw e (in_right b xs (x ∷ ys) (inr i)))),
        rw a.0 (last_below s ls hs xs (λ b i. rw e (in_left b xs (x ∷ ys) i))),
      )

  pub task_below : T < M → (x : ℕ) → 0 < x → x ≤ T → (N x < M) × (P x < M)
  task_below m x x0 x_t =
      ⊎_elim (λ k. omega arith)
      (λ k. let h = in_split x (X (O x)) k.2 in element_below (O x) k.0 k.1 x h.0 h.1 h.2)
      (ch.task x x_t)

  pub anchor_below : (s : ℕ) → T < s → s < M → (N s < M) × (P s < M)
  anchor_below s ls hs =
      let l : Chain N P s (X s ++ []) = rw append-nil (ch.link s ls hs) in
      let h = at_place N P s [] (X s) (ch.link s ls hs) in
      let k = at_place N P s (X s) [] l in
      (rw h.0 (first_below s ls hs (X s) (λ b i. i)), rw k.1 (last_below s ls hs (X s) (λ b i. i)))

  -- a task in no chain is apart from the nodes of a chain
  idle_off : (s : ℕ) → T < s → s < M → (a : ℕ) → a ≤ T → O a ≡ 0 → (w : ℕ) → In w (s ∷ X s) → a ≢ w
  idle_off s ls hs a a_t oa w (inl q) r = omega arith
  idle_off s ls hs a a_t oa w (inr i) r = idle_out a oa s ls hs (subst (λ (z : ℕ). In z (X s)) (sym r) i)

  -- the chain of d is as it was, under stores at nodes of another chain and at x alone
  other : (s d : ℕ) → T < s → s < M → T < d → d < M → d ≢ s → (x u v : ℕ) → In u (s ∷ X s) → In v (s ∷ X s) → ((c : ℕ) → In c (d ∷ X d) → c ≢ x)
      → (p q r t : ℕ) → Chain (upd (upd N u p) x q) (upd (upd P v r) x t) d (X d)
  other s d ls hs ld hd n x u v in_u in_v offx p q r t =
      behind N P (upd (upd N u p) x q) (upd (upd P v r) x t) d (X d) d
      (λ c i. upd2 N u p x q c (apart s d ls hs ld hd n u c in_u i) (offx c i))
      (λ c i. upd2 P v r x t c (apart s d ls hs ld hd n v c in_v (inr i)) (offx c (inr i)))
      (upd2 P v r x t d (apart s d ls hs ld hd n v d in_v (inl refl)) (offx d (inl refl)))
      (ch.link d ld hd)

  -- x, a task in no chain, is put between two parts of the chain of s
  module _ (s : ℕ) (ls : T < s) (hs : s < M) (x : ℕ) (x0 : 0 < x) (x_t : x ≤ T) (xs ys : List ℕ) where
    pub insert : O x ≡ 0 → X s ≡ xs ++ ys
        → LinkedChains T M (upd (upd N (last s xs) x) x (first ys s)) (upd (upd P (first ys s) x) x (last s xs)) (upd O x s) (upd X s (xs ++ x ∷ ys))
    insert o e =
        record {
          link = λ d ld hd.
              on_upd (λ (l : List ℕ). Chain N' P' d l) X s (xs ++ x ∷ ys) d
              (λ q. rw q (chain_insert N P s x xs ys xs≢ dn nx (rw e at (ch.link s ls hs))))
              (λ n. other s d ls hs ld hd n x u v in_u in_v (λ c i r. idle_off d ld hd x x_t o c i (sym r)) x v x u);
          own = λ d ld hd a.
              on_upd (λ (l : List ℕ). In a l → (0 < a) × (a ≤ T) × (upd O x s a ≡ d)) X s (xs ++ x ∷ ys) d
              (λ q i. on_upd (λ (w : ℕ). (0 < a) × (a ≤ T) × (w ≡ d)) O x s a
              (λ r. (omega arith, omega arith, sym q))
              (λ r. let k = ch.own s ls hs a (rw e (out_mid a x xs ys i r)) in (k.0, k.1, k.2 ∙ sym q)))
              (λ n i. let k = ch.own d ld hd a i in
              (k.0, k.1, upd_other O x s a (λ r. idle_out x o d ld hd (rw r at i)) ∙ k.2));
          task = λ a a_t.
              on_upd (λ (w : ℕ). ((w ≡ 0) × (N' a ≡ 0) × (P' a ≡ 0)) ⊎ ((T < w) × (w < M) × In a (upd X s (xs ++ x ∷ ys) w))) O x s a
              (λ r. inr (ls, hs, rw (upd_same X s (xs ++ x ∷ ys), r) (in_right x xs (x ∷ ys) (inl refl))))
              (λ r. ⊎_elim
              (λ k. inl (k.0, upd2 N u x x v a (idle_off s ls hs a a_t k.0 u in_u) r ∙ k.1, upd2 P v x x u a (idle_off s ls hs a a_t k.0 v in_v) r ∙ k.2))
              (λ k. inr (
                k.0,
                k.1,
                on_upd (λ (l : List ℕ). In a l) X s (xs ++ x ∷ ys) (O a) (λ q. in_mid a x xs ys (rw (q, e) at k.2)) (λ q. k.2),
              ))
              (ch.task a a_t));
        }
      where
        u : ℕ
        u = last s xs

        v : ℕ
        v = first ys s

        N' : ℕ → ℕ
        N' = upd (upd N u x) x v

        P' : ℕ → ℕ
        P' = upd (upd P v x) x u

        xs≢ : x ≢ s
        xs≢ q = omega arith

        dn : Distinct (s ∷ xs ++ ys)
        dn = rw e at (nodes_distinct s ls hs)

        nx : In x (xs ++ ys) → ⊥
        nx = rw e at (idle_out x o s ls hs)

        in_u : In u (s ∷ X s)
        in_u = rw e (u_in N P s x xs ys xs≢ dn nx)

        in_v : In v (s ∷ X s)
        in_v = rw e (v_in N P s x xs ys xs≢ dn nx)

  -- x leaves its chain, whose anchor is O x, by its own links
  module _ (x : ℕ) (x0 : 0 < x) (x_t : x ≤ T) (ls : T < O x) (hs : O x < M) (xs ys : List ℕ) where
    remove_split : X (O x) ≡ xs ++ x ∷ ys
        → LinkedChains T M (upd (upd N (last (O x) xs) (first ys (O x))) x 0) (upd (upd P (first ys (O x)) (last (O x) xs)) x 0) (upd O x 0) (upd X (O x) (xs ++ ys))
    remove_split e =
        record {
          link = λ d ld hd.
              on_upd (λ (l : List ℕ). Chain N' P' d l) X s (xs ++ ys) d
              (λ q. rw q (chain_remove N P s x xs ys xs≢ dn nx (rw e at (ch.link s ls hs))))
              (λ n. other s d ls hs ld hd n x u v in_u in_v (λ c i r. apart s d ls hs ld hd n x c in_x i r) v 0 u 0);
          own = λ d ld hd a.
              on_upd (λ (l : List ℕ). In a l → (0 < a) × (a ≤ T) × (upd O x 0 a ≡ d)) X s (xs ++ ys) d
              (λ q i.
              let k = ch.own s ls hs a (rw e (in_mid a x xs ys i)) in
              (k.0, k.1, upd_other O x 0 a (λ r. nx (rw r at i)) ∙ k.2 ∙ sym q))
              (λ n i.
              let k = ch.own d ld hd a i in
              (k.0, k.1, upd_other O x 0 a (λ r. n (sym k.2 ∙ ap O r)) ∙ k.2));
          task = λ a a_t.
              on_upd (λ (w : ℕ). ((w ≡ 0) × (N' a ≡ 0) × (P' a ≡ 0)) ⊎ ((T < w) × (w < M) × In a (upd X s (xs ++ ys) w))) O x 0 a
              (λ r. inl (refl, rw r (upd_same (upd N u v) x 0), rw r (upd_same (upd P v u) x 0)))
              (λ r. ⊎_elim
              (λ k. inl (k.0, upd2 N u v x 0 a (idle_off s ls hs a a_t k.0 u in_u) r ∙ k.1, upd2 P v u x 0 a (idle_off s ls hs a a_t k.0 v in_v) r ∙ k.2))
              (λ k. inr (
                k.0,
                k.1,
                on_upd (λ (l : List ℕ). In a l) X s (xs ++ ys) (O a) (λ q. out_mid a x xs ys (rw (q, e) at k.2) r) (λ q. k.2),
              ))
              (ch.task a a_t));
        }
      where
        s : ℕ
        s = O x

        u : ℕ
        u = last s xs

        v : ℕ
        v = first ys s

        N' : ℕ → ℕ
        N' = upd (upd N u v) x 0

        P' : ℕ → ℕ
        P' = upd (upd P v u) x 0

        in_x : In x (s ∷ X s)
        in_x = rw e (inr (in_right x xs (x ∷ ys) (inl refl)))

        xs≢ : x ≢ s
        xs≢ q = omega arith

        da : Distinct (s ∷ xs ++ x ∷ ys)
        da = rw e at (nodes_distinct s ls hs)

        dn : Distinct (s ∷ xs ++ ys)
        dn = distinct_mid x (s ∷ xs) ys da

        nx : In x (xs ++ ys) → ⊥
        nx i = ⊎_elim (λ j. apart_left x xs ys da.1 j) (λ j. (distinct_right xs (x ∷ ys) da.1).0 j) (in_cases x xs ys i)

        up : (a : ℕ) → In a (s ∷ xs ++ ys) → In a (s ∷ X s)
        up a i = rw e (in_mid a x (s ∷ xs) ys i)

        in_u : In u (s ∷ X s)
        in_u = up u (u_in N P s x xs ys xs≢ dn nx)

        in_v : In v (s ∷ X s)
        in_v = up v (v_in N P s x xs ys xs≢ dn nx)

    -- the same with the links read at x
    remove_at : X (O x) ≡ xs ++ x ∷ ys
        → LinkedChains T M (upd (upd N (P x) (N x)) x 0) (upd (upd P (N x) (P x)) x 0) (upd O x 0) (upd X (O x) (without x (X (O x))))
    remove_at e =
        let l : Chain N P (O x) (xs ++ x ∷ ys) = rw e at (ch.link (O x) ls hs) in
        let d : Distinct (xs ++ x ∷ ys) = rw e at (nodes_distinct (O x) ls hs).1 in
        let w : without x (X (O x)) ≡ xs ++ ys =
        rw e (without_mid x xs ys (apart_left x xs ys d) (distinct_right xs (x ∷ ys) d).0) in
        let a = at_element N P (O x) x xs ys l in
        rw (w, a.0, a.1) (remove_split e)

  -- x, a task in a chain, leaves it: the code's stores, and the chain without x
  pub remove : (x : ℕ) → 0 < x → x ≤ T → O x ≢ 0
      → LinkedChains T M (upd (upd N (P x) (N x)) x 0) (upd (upd P (N x) (P x)) x 0) (upd O x 0) (upd X (O x) (without x (X (O x))))
  remove x x0 x_t n =
      ⊎_elim (λ k. absurd (n k.0))
      (λ k. let h = in_split x (X (O x)) k.2 in remove_at x x0 x_t k.0 k.1 h.0 h.1 h.2)
      (ch.task x x_t)
