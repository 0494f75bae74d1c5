-- Each chain lists exactly who waits there, once: kept when some are woken, when one begins to wait, when one leaves.
use Rattle.std.specs.Prelude.{◌≡◌, refl, ◌≢◌, ◌⊎◌, Bool, false, cond, List, [], ◌∷◌, ◌++◌, ℕ, zero, suc, ◌+◌, ◌<◌, length, set}
use Rattle.std.proofs.Common.{sym, ap, ◌∙◌, subst, ⊎_elim, arith, get_or-set_same, get_or-set_other}
use Rattle.std.proofs.Math.Logic.{inl, inr}
use Rattle.std.proofs.Math.Bool.{true, not, false≢true}
use Rattle.std.proofs.lemmas.Bool.{eqb-false}
use Rattle.std.proofs.Math.ListN.{get_or}
use Rattle.laws.specs.Cases.{by, dec_eq}
use Rattle.laws.specs.Iter.{iter}
use Rattle.laws.specs.Laws.Tables.{in_range, was_there, keeps}
use Rattle.laws.specs.Members.{In, Distinct, keep}
use Rattle.laws.specs.Laws.Members.{in_left, in_right, in_cases, dec_in, in_without, without_in, distinct_without, in_keep, keep_in, keep_test, distinct_keep, distinct_end}
use Rattle.laws.specs.Order.{Sorted, insert_by}
use Rattle.laws.specs.Laws.Order.{in_place, place_new, place_old, place_sorted, place_distinct, sorted_same, keep_sorted, without_sorted}
use Rattle.rules.specs.State.{Chain, time_chain, chain_of, with_chain}
use Rattle.rules.specs.Serving.{rouse}
use Rattle.rules.specs.Waiting.{leave, is_due}
use Rattle.rules.specs.Family.{is_marked, clear_one, leave_one, cleared, deserted}
use Rattle.rules.specs.Soundness.{Somewhere, Listed, Apart, IsChain, Chains}
use Rattle.rules.specs.Laws.Chains.{on_chain, chain_same}
use Rattle.rules_laws.specs.Rousing.{rouse_in, rouse_out}

-- ---- some of a chain, ts, are woken; the others, ys, are left

module _ (X : Chain → List ℕ) (c : Chain) (ts ys : List ℕ) (woken : (t : ℕ) → In t ts → In t (X c)) (left : (t : ℕ) → In t ys → In t (X c))
    (both : (t : ℕ) → In t ts → In t ys → ⊥) (all : (t : ℕ) → In t (X c) → In t ts ⊎ In t ys) where
  was_in : (t : ℕ) (d : Chain) → In t (with_chain X c ys d) → In t (X d)
  was_in t d =
      on_chain (λ (zs : List ℕ). In t zs → In t (X d)) X c ys d (λ e i. subst (λ (k : Chain). In t (X k)) (sym e) (left t i)) (λ n i. i)

  listed_part : (l : List ℕ) → Apart X → Listed X l → Listed (with_chain X c ys) (rouse ts l)
  listed_part l a h = record { there = λ t. there t (dec_in t ts); two = λ t. two t (dec_in t ts) }
    where
      there : (t : ℕ) → Dec (In t ts) → get_or (rouse ts l) t 0 ≡ 2 → Somewhere t (with_chain X c ys)
      there t (yes i) e = absurd (omega (arith, rouse_in t ts l (in_range l t 1 (h.two t (c, woken t i))) i))
      there t (no n) e =
          let w = h.there t (sym (rouse_out t ts l n) ∙ e) in
          (w.0, on_chain (λ (zs : List ℕ). In t zs) X c ys w.0 (λ q. ⊎_elim (λ i. absurd (n i)) (λ i. i) (all t (subst (λ (d : Chain). In t (X d)) q w.1))) (λ q. w.1))

      two : (t : ℕ) → Dec (In t ts) → Somewhere t (with_chain X c ys) → get_or (rouse ts l) t 0 ≡ 2
      two t (yes i) w =
          absurd (on_chain (λ (zs : List ℕ). In t zs → ⊥) X c ys w.0 (λ e j. both t i j) (λ m j. m (sym (a t c w.0 (woken t i) j))) w.1)
      two t (no n) w = rouse_out t ts l n ∙ h.two t (w.0, was_in t w.0 w.1)

  pub chains_part : (n m : ℕ) (w l : List ℕ) → Chains n w X l → Distinct ys
      → Sorted (λ (t : ℕ). get_or w t 0) (with_chain X c ys time_chain) → ((t : ℕ) → In t (with_chain X c ys time_chain) → m < get_or w t 0)
      → Chains m w (with_chain X c ys) (rouse ts l)
  chains_part n m w l h d o f =
      record {
        listed = listed_part l h.apart h.listed;
        apart = λ t a b i j. h.apart t a b (was_in t a i) (was_in t b j);
        once = λ a. on_chain Distinct X c ys a (λ e. d) (λ k. h.once a);
        only = λ t a i. h.only t a (was_in t a i);
        ordered = o;
        ahead = f;
      }

-- all of a chain
pub chains_wake : (n : ℕ) (w : List ℕ) (X : Chain → List ℕ) (l : List ℕ) (c : Chain) → Chains n w X l → Chains n w (with_chain X c []) (rouse (X c) l)
chains_wake n w X l c h =
    chains_part X c (X c) [] (λ t i. i) (λ t i. absurd i) (λ t i j. j) (λ t i. inl i) n n w l h tt
    (on_chain (λ (ys : List ℕ). Sorted (λ (t : ℕ). get_or w t 0) ys) X c [] time_chain (λ e. tt) (λ e. h.ordered))
    (λ t. on_chain (λ (ys : List ℕ). In t ys → n < get_or w t 0) X c [] time_chain (λ e i. absurd i) (λ e i. h.ahead t i))

-- those of the time chain who are due at the next count
module _ (n : ℕ) (w : List ℕ) (X : Chain → List ℕ) (l : List ℕ) (h : Chains n w X l) where
  due : ℕ → Bool
  due t = is_due w (suc n) t

  stay : ℕ → Bool
  stay t = not (is_due w (suc n) t)

  pub chains_due : Chains (suc n) w (with_chain X time_chain (keep (λ (t : ℕ). not (is_due w (suc n) t)) (X time_chain))) (rouse (keep (is_due w (suc n)) (X time_chain)) l)
  unfolding due stay
  chains_due =
      chains_part X time_chain (keep due (X time_chain)) (keep stay (X time_chain)) (λ t i. in_keep due t (X time_chain) i) (λ t i. in_keep stay t (X time_chain) i)
      (λ t i j. no_both t (keep_test due t (X time_chain) i) (keep_test stay t (X time_chain) j))
      (λ t i. by (due t) (λ e. inl (keep_in due t (X time_chain) i e)) (λ e. inr (keep_in stay t (X time_chain) i (ap not e))))
      n (suc n) w l h (distinct_keep stay (X time_chain) (h.once time_chain))
      (keep_sorted (λ (t : ℕ). get_or w t 0) stay (X time_chain) h.ordered)
      (λ t i. later t (h.ahead t (in_keep stay t (X time_chain) i)) (keep_test stay t (X time_chain) i))
    where
      no_both : (t : ℕ) → due t ≡ true → stay t ≡ true → ⊥
      no_both t e f = false≢true (sym (ap not e) ∙ f)

      later : (t : ℕ) → n < get_or w t 0 → stay t ≡ true → suc n < get_or w t 0
      later t a f = by (due t) (λ e. absurd (no_both t e f)) (λ e. omega (arith, eqb-false (get_or w t 0) (suc n) e))

-- ---- a task that does not wait goes over to a state that is no waiting

pub chains_set : (n : ℕ) (w : List ℕ) (X : Chain → List ℕ) (l : List ℕ) (t v : ℕ) → get_or l t 0 ≢ 2 → v ≢ 2 → Chains n w X l → Chains n w X (set l t v)
chains_set n w X l t v a b h =
    record {
      listed =
          record {
            there = λ u e. h.listed.there u (was_there l t u v 2 b e);
            two = λ u k.
                get_or-set_other l t u v 0 (λ q. a (subst (λ (m : ℕ). get_or l m 0 ≡ 2) q (h.listed.two u k))) ∙ h.listed.two u k;
          };
      apart = h.apart;
      once = h.once;
      only = h.only;
      ordered = h.ordered;
      ahead = h.ahead;
    }

-- ---- a task that does not wait begins to: chain c then reads ys

module _ (X : Chain → List ℕ) (c : Chain) (t : ℕ) (ys : List ℕ) (l : List ℕ) (out : Somewhere t X → ⊥) (new : In t ys) (old : (u : ℕ) → In u (X c) → In u ys)
    (who : (u : ℕ) → In u ys → (u ≡ t) ⊎ In u (X c)) where
  in_joined : (u : ℕ) (d : Chain) → In u (with_chain X c ys d) → In u (X d) ⊎ ((u ≡ t) × (d ≡ c))
  in_joined u d =
      on_chain (λ (zs : List ℕ). In u zs → In u (X d) ⊎ ((u ≡ t) × (d ≡ c))) X c ys d
      (λ e i. ⊎_elim (λ q. inr (q, e)) (λ j. inl (subst (λ (k : Chain). In u (X k)) (sym e) j)) (who u i))
      (λ m i. inl i)

  apart_join : Apart X → Apart (with_chain X c ys)
  apart_join a u d e i j =
      ⊎_elim
      (λ p. ⊎_elim (λ q. a u d e p q) (λ q. absurd (out (d, subst (λ (k : ℕ). In k (X d)) q.0 p))) (in_joined u e j))
      (λ p. ⊎_elim (λ q. absurd (out (e, subst (λ (k : ℕ). In k (X e)) p.0 q))) (λ q. p.1 ∙ sym q.1) (in_joined u e j))
      (in_joined u d i)

  listed_join : t < length l → Listed X l → Listed (with_chain X c ys) (set l t 2)
  listed_join b h =
      record {
        there = λ u. there u (dec_eq u t);
        two = λ u w.
            ⊎_elim
            (λ i. keeps l t u 2 (h.two u (w.0, i)))
            (λ q. subst (λ (k : ℕ). get_or (set l t 2) k 0 ≡ 2) (sym q.0) (get_or-set_same l t 2 0 b))
            (in_joined u w.0 w.1);
      }
    where
      there : (u : ℕ) → Dec (u ≡ t) → get_or (set l t 2) u 0 ≡ 2 → Somewhere u (with_chain X c ys)
      there u (yes e) q = (c, rw (chain_same X c ys) (subst (λ (k : ℕ). In k ys) (sym e) new))
      there u (no m) q =
          let w = h.there u (sym (get_or-set_other l t u 2 0 m) ∙ q) in
          (w.0, on_chain (λ (zs : List ℕ). In u zs) X c ys w.0 (λ e. old u (subst (λ (k : Chain). In u (X k)) e w.1)) (λ e. w.1))

  pub chains_join : (n : ℕ) (w v : List ℕ) → Chains n w X l → t < length l → Distinct ys → IsChain c
      → Sorted (λ (t : ℕ). get_or v t 0) (with_chain X c ys time_chain) → ((u : ℕ) → In u (with_chain X c ys time_chain) → n < get_or v u 0)
      → Chains n v (with_chain X c ys) (set l t 2)
  chains_join n w v h b d k o f =
      record {
        listed = listed_join b h.listed;
        apart = apart_join h.apart;
        once = λ a. on_chain Distinct X c ys a (λ e. d) (λ m. h.once a);
        only = λ u a i. ⊎_elim (λ j. h.only u a j) (λ q. subst IsChain (sym q.1) k) (in_joined u a i);
        ordered = o;
        ahead = f;
      }

module _ (n : ℕ) (w : List ℕ) (X : Chain → List ℕ) (l : List ℕ) (t : ℕ) (h : Chains n w X l) (up : get_or l t 0 ≡ 3) where
  out : Somewhere t X → ⊥
  out i = omega (arith, up, h.listed.two t i)

  -- for a flag's value: at the end of that chain
  pub chains_flag : (f v : ℕ) → IsChain (chain_of f v) → Chains n w (with_chain X (chain_of f v) (X (chain_of f v) ++ t ∷ [])) (set l t 2)
  chains_flag f v k =
      chains_join X c t (X c ++ t ∷ []) l out (in_right t (X c) (t ∷ []) (inl refl)) (λ u i. in_left u (X c) (t ∷ []) i)
      (λ u i. ⊎_elim (λ j. inr j) (λ j. ⊎_elim (λ q. inl q) (λ z. absurd z) j) (in_cases u (X c) (t ∷ []) i))
      n w w h (in_range l t 2 up) (distinct_end t (X c) (λ i. out (c, i)) (h.once c)) k h.ordered h.ahead
    where
      c : Chain
      c = chain_of f v

  -- for a count k: at its place in the time chain
  pub chains_time : (k : ℕ) → n < k → t < length w
      → Chains n (set w t k) (with_chain X time_chain (insert_by (λ (a : ℕ). get_or (set w t k) a 0) t (X time_chain))) (set l t 2)
  chains_time k a b =
      chains_join X time_chain t ys l out (place_new W t (X time_chain)) (λ u i. place_old W t u (X time_chain) i) (λ u i. in_place W t u (X time_chain) i)
      n w (set w t k) h (in_range l t 2 up) (place_distinct W t (X time_chain) (λ i. out (time_chain, i)) (h.once time_chain)) tt
      (place_sorted W t (X time_chain) (sorted_same (λ (u : ℕ). get_or w u 0) W (X time_chain) (λ u i. other u i) h.ordered))
      (λ u i. ⊎_elim
      (λ q. subst (λ (m : ℕ). n < get_or (set w t k) m 0) (sym q) (rw (get_or-set_same w t k 0 b) a))
      (λ j. subst (λ (m : ℕ). n < m) (sym (other u j)) (h.ahead u j))
      (in_place W t u (X time_chain) i))
    where
      W : ℕ → ℕ
      W a = get_or (set w t k) a 0

      ys : List ℕ
      ys = insert_by W t (X time_chain)

      other : (u : ℕ) → In u (X time_chain) → W u ≡ get_or w u 0
      other u i = get_or-set_other w t u k 0 (λ q. out (time_chain, subst (λ (m : ℕ). In m (X time_chain)) q i))

-- ---- a task leaves whatever chain it is in, and is no longer waiting

pub chains_leave : (n : ℕ) (w : List ℕ) (X : Chain → List ℕ) (l : List ℕ) (t v : ℕ) → v ≢ 2 → Chains n w X l → Chains n w (leave t X) (set l t v)
unfolding leave
chains_leave n w X l t v b h =
    record {
      listed =
          record {
            there = λ u e.
                let was : get_or l u 0 ≡ 2 = was_there l t u v 2 b e in
                let k = h.listed.there u was in
                (k.0, without_in t u (X k.0) k.1 (λ q. b (gone u q was e)));
            two = λ u k.
                let i = in_without t u (X k.0) k.1 in
                get_or-set_other l t u v 0 i.1 ∙ h.listed.two u (k.0, i.0);
          };
      apart = λ u c d i j. h.apart u c d (in_without t u (X c) i).0 (in_without t u (X d) j).0;
      once = λ c. distinct_without t (X c) (h.once c);
      only = λ u c i. h.only u c (in_without t u (X c) i).0;
      ordered = without_sorted (λ (t : ℕ). get_or w t 0) t (X time_chain) h.ordered;
      ahead = λ u i. h.ahead u (in_without t u (X time_chain) i).0;
    }
  where
    gone : (u : ℕ) → u ≡ t → get_or l u 0 ≡ 2 → get_or (set l t v) u 0 ≡ 2 → v ≡ 2
    gone u q was e = sym (get_or-set_same l t v 0 (subst (λ (m : ℕ). m < length l) q (in_range l u 1 was))) ∙ (subst (λ (m : ℕ). get_or (set l t v) m 0 ≡ 2) q e)

-- all who are marked leave
pub chains_desert : (n : ℕ) (w : List ℕ) (X : Chain → List ℕ) (l marks : List ℕ) → Chains n w X l → Chains n w (deserted marks X) (cleared marks l)
unfolding deserted cleared iter
chains_desert n w X l marks h = go 64
  where
    turn : (b : Bool) (i : ℕ) (Y : Chain → List ℕ) (m : List ℕ) → Chains n w Y m → Chains n w (cond b (leave (i + 1) Y) Y) (cond b (set m (i + 1) 0) m)
    turn true i Y m k = chains_leave n w Y m (i + 1) 0 (λ q. omega arith) k
    turn false i Y m k = k

    go : (i : ℕ) → Chains n w (iter i (leave_one marks) X) (iter i (clear_one marks) l)
    go zero = h
    go (suc i) = turn (is_marked marks (i + 1)) i (iter i (leave_one marks) X) (iter i (clear_one marks) l) (go i)
