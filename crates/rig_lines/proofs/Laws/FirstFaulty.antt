-- The first faulty line, as `fault_of` computes it, is the one that `FirstFaulty` (Words) says: nothing is wrong with the lines before it, and the
-- number is the smallest that is due to it.
--     first_faulty    fault_of s ≡ fault (suc j) (suc n) ↔ FirstFaulty s n (suc j)
--     none_faulty     (fault_of s).no ≡ 0 ↔ nothing is wrong with any line
-- Assumes nothing.
use Rattle.std.specs.Prelude.{ℕ, zero, suc, ◌+◌, ◌≤◌, ◌<◌, ◌≡◌, refl, ◌⊎◌, ◌↔◌, Bool, true, false, cond, ◌&&◌, List, [], ◌∷◌, ltb, eqb, length, get_or}
use Rattle.std.proofs.Common.{sym, ap, ◌∙◌, inl, inr, ⊎_elim, arith, ltb-true, ltb-false, lt-ltb, le-ltb, eqb-true}
use Rattle.std.proofs.lemmas.Bool.{false≢true, eqb-false}
use Rattle.laws.specs.Cases.{by, and_true}
use Rattle.text.specs.Split.{split}
use Rattle.text.specs.Laws.Split.{split_cons}
use Rattle.rig_lines.specs.Line.{Line, line_of, shaped, sized, placed, ordered, judge}
use Rattle.rig_lines.specs.File.{Fault, fault, first_fault, fault_of}
use Rattle.rig_lines.specs.Words.{line_at, Ended, InPlace, Wrong, unended, shape, size, order, FirstFaulty, NoneFaulty}
use Rattle.rig_lines.specs.Laws.Kinds.{kind_small}
use Rattle.rig_lines.specs.Laws.Judged.{judged_sound, sound_judged, judged_one, judged_two, judged_three}
use Rattle.rig_lines.proofs.Laws.Order.{Passed, ordered_first, ordered_exact}
use Rattle.rig_lines.specs.Laws.Shape.{shaped_exact, sized_exact}

-- ---- the number of each line, one after the other

-- the place of the line before line n of the pieces; p before the first
abbrev place_at : ℕ → List (List ℕ) → ℕ → ℕ
place_at p ps zero = p
place_at p ps (suc n) = placed (line_of (get_or ps n []))

-- the number of line n of the pieces, the first of which is line k of the file
unfoldable number_at : ℕ → ℕ → List (List ℕ) → ℕ → ℕ
number_at k p ps n =
    cond (ltb (n + 1) (length ps)) (judge (place_at p ps n) (line_of (get_or ps n [])))
    (cond (eqb (length (get_or ps n [])) 0 && ltb 1 (k + n)) 0 1)

-- what the first faulty line is: none, or line n by number j
data Outcome (k p : ℕ) (ps : List (List ℕ)) (f : Fault) : Type 0 where
  clean : f ≡ fault 0 0 → ((n : ℕ) → number_at k p ps n ≡ 0) → Outcome k p ps f
  faulty : (n j : ℕ) → f ≡ fault (suc j) (k + n) → ((i : ℕ) → i < n → number_at k p ps i ≡ 0) → number_at k p ps n ≡ suc j → Outcome k p ps f

number_here : (k p : ℕ) (l m : List ℕ) (ms : List (List ℕ)) → number_at k p (l ∷ m ∷ ms) 0 ≡ judge p (line_of l)
unfolding number_at
number_here k p l m ms = rw (lt-ltb (0 + 1) (length (l ∷ m ∷ ms)) (omega arith))

number_next : (k p n : ℕ) (l m : List ℕ) (ms : List (List ℕ)) → number_at k p (l ∷ m ∷ ms) (suc n) ≡ number_at (k + 1) (placed (line_of l)) (m ∷ ms) n
unfolding number_at
number_next k p n l m ms =
    let a : k + suc n ≡ (k + 1) + n = omega arith in
    let t : ltb (suc n + 1) (length (l ∷ m ∷ ms)) ≡ ltb (n + 1) (length (m ∷ ms)) =
    by (ltb (n + 1) (length (m ∷ ms)))
    (λ e. let h = ltb-true (n + 1) (length (m ∷ ms)) e in lt-ltb (suc n + 1) (length (l ∷ m ∷ ms)) (omega arith) ∙ sym e)
    (λ e. let h = ltb-false (n + 1) (length (m ∷ ms)) e in le-ltb (suc n + 1) (length (l ∷ m ∷ ms)) (omega arith) ∙ sym e) in
    rw (t, a, place n)
  where
    place : (n : ℕ) → place_at p (l ∷ m ∷ ms) (suc n) ≡ place_at (placed (line_of l)) (m ∷ ms) n
    place zero = refl
    place (suc n) = refl

-- a last piece
number_last : (k p : ℕ) (l : List ℕ) → number_at k p (l ∷ []) 0 ≡ cond (eqb (length l) 0 && ltb 1 k) 0 1
unfolding number_at
number_last k p l = let a : k + 0 ≡ k = omega arith in rw a

number_behind : (k p n : ℕ) (l : List ℕ) → 1 ≤ k → number_at k p (l ∷ []) (suc n) ≡ 0
unfolding number_at
number_behind k p n l h = rw (le-ltb (suc n + 1) (length (l ∷ [])) (omega arith), lt-ltb 1 (k + suc n) (omega arith))

outcome : (l : List ℕ) (ps : List (List ℕ)) (k p : ℕ) → 1 ≤ k → Outcome k p (l ∷ ps) (first_fault k p (l ∷ ps))
unfolding first_fault
outcome l [] k p h =
    by (eqb (length l) 0 && ltb 1 k)
    (λ e. clean (rw e) (λ n. at e n))
    (λ e. let a : k + 0 ≡ k = omega arith in faulty 0 0 (rw (e, a)) (λ i g. absurd (omega arith)) (number_last k p l ∙ rw e))
  where
    at : (eqb (length l) 0 && ltb 1 k) ≡ true → (n : ℕ) → number_at k p (l ∷ []) n ≡ 0
    at e zero = number_last k p l ∙ rw e
    at e (suc n) = number_behind k p n l h
outcome l (m ∷ ms) k p h =
    by (eqb (judge p (line_of l)) 0)
    (λ e. on e (outcome m ms (k + 1) (placed (line_of l)) (omega arith)))
    (λ e. stop (judge p (line_of l)) refl e)
  where
    stop : (j : ℕ) → judge p (line_of l) ≡ j → eqb (judge p (line_of l)) 0 ≡ false →
        Outcome k p (l ∷ m ∷ ms) (cond (eqb (judge p (line_of l)) 0) (first_fault (k + 1) (placed (line_of l)) (m ∷ ms)) (fault (judge p (line_of l)) k))
    stop zero d e = absurd (eqb-false (judge p (line_of l)) 0 e d)
    stop (suc j) d e =
        let a : k + 0 ≡ k = omega arith in
        faulty 0 j (rw (e, d, a)) (λ i g. absurd (omega arith)) (number_here k p l m ms ∙ d)

    here : eqb (judge p (line_of l)) 0 ≡ true → number_at k p (l ∷ m ∷ ms) 0 ≡ 0
    here e = number_here k p l m ms ∙ eqb-true (judge p (line_of l)) 0 e

    on : eqb (judge p (line_of l)) 0 ≡ true → Outcome (k + 1) (placed (line_of l)) (m ∷ ms) (first_fault (k + 1) (placed (line_of l)) (m ∷ ms)) →
        Outcome k p (l ∷ m ∷ ms) (cond (eqb (judge p (line_of l)) 0) (first_fault (k + 1) (placed (line_of l)) (m ∷ ms)) (fault (judge p (line_of l)) k))
    on e (clean f z) = clean (rw (e, f)) all
      where
        all : (n : ℕ) → number_at k p (l ∷ m ∷ ms) n ≡ 0
        all zero = here e
        all (suc n) = number_next k p n l m ms ∙ z n
    on e (faulty n j f z d) =
        let a : (k + 1) + n ≡ k + suc n = omega arith in
        faulty (suc n) j (rw (e, f, a)) before (number_next k p n l m ms ∙ d)
      where
        before : (i : ℕ) → i < suc n → number_at k p (l ∷ m ∷ ms) i ≡ 0
        before zero g = here e
        before (suc i) g = number_next k p i l m ms ∙ z i (omega arith)

-- ---- the same in words

known_line : (l : List ℕ) → (line_of l).kind < 7
unfolding line_of
known_line l = kind_small _

module _ (s : List ℕ) where
  -- the number of line n
  abbrev number : ℕ → ℕ
  number n = number_at 1 0 (split 10 s) n

  the_outcome : Outcome 1 0 (split 10 s) (fault_of s)
  unfolding fault_of
  the_outcome = let w = split_cons 10 s in rw w.2 (outcome w.0 w.1 1 0 (omega arith))

  -- a line that ends is judged
  ended : (n : ℕ) → Ended s n → number n ≡ judge (place_at 0 (split 10 s) n) (line_of (line_at s n))
  unfolding number_at
  ended n h = rw (lt-ltb (n + 1) (length (split 10 s)) h)

  -- one that does not is wrong where it is a line at all
  not_ended : (n : ℕ) → (Ended s n → ⊥) → number n ≡ cond (eqb (length (line_at s n)) 0 && ltb 1 (1 + n)) 0 1
  unfolding number_at
  not_ended n h = rw (le-ltb (n + 1) (length (split 10 s)) (omega arith))

  passed : (n : ℕ) → Ended s n → number n ≡ 0 → Passed (line_of (line_at s n))
  passed n h e =
      let w = judged_sound (place_at 0 (split 10 s) n) (line_of (line_at s n)) (sym (ended n h) ∙ e) in
      record { known = known_line (line_at s n); shape = w.shape; size = w.size }

  -- after lines of which none is wrong, a line of shape and sizes is in order exactly when it is in its place
  placed_well : (n : ℕ) → Ended s n → ((i : ℕ) → i < n → number i ≡ 0) → shaped (line_of (line_at s n)) ≡ true → sized (line_of (line_at s n)) ≡ true →
      (ordered (place_at 0 (split 10 s) n) (line_of (line_at s n)) ≡ true) ↔ InPlace s n
  placed_well zero h z a b = ordered_first (line_of (line_at s 0))
  placed_well (suc n) h z a b =
      ordered_exact (line_of (line_at s n)) (line_of (line_at s (suc n))) (passed n (omega arith) (z n (omega arith))) (record { known = known_line (line_at s (suc n)); shape = a; size = b })

  no_false : {b : Bool} → b ≡ false → b ≡ true → ⊥
  no_false e f = false≢true (sym e ∙ f)

  -- what a line's number says, where nothing is wrong with the lines before it
  module _ (n : ℕ) (z : (i : ℕ) → i < n → number i ≡ 0) where
    right : number n ≡ 0 → (k : ℕ) → Wrong s n k → ⊥
    right e k (unended q h o) =
        by (eqb (length (line_at s n)) 0 && ltb 1 (1 + n))
        (λ t. let w = and_true (eqb (length (line_at s n)) 0) (ltb 1 (1 + n)) t in
        let a = eqb-true (length (line_at s n)) 0 w.0 in
        let b = ltb-true 1 (1 + n) w.1 in
        ⊎_elim (λ y. omega arith) (λ y. omega arith) o)
        (λ t. let y : ◌≡◌ {A = ℕ} 1 0 = sym (not_ended n h ∙ rw t) ∙ e in omega arith)
    right e k (shape q h o) = o ((shaped_exact (line_at s n)).0 (passed n h e).shape)
    right e k (size q h o) = o ((sized_exact (line_of (line_at s n))).0 (passed n h e).size)
    right e k (order q h o) =
        let w = judged_sound (place_at 0 (split 10 s) n) (line_of (line_at s n)) (sym (ended n h) ∙ e) in
        o ((placed_well n h z w.shape w.size).0 w.order)

    due : (j : ℕ) → number n ≡ suc j → Wrong s n (suc j) × ((k : ℕ) → k < suc j → Wrong s n k → ⊥)
    due j e = by (ltb (n + 1) (length (split 10 s))) (λ t. at_end (ltb-true _ _ t)) (λ t. let g = ltb-false (n + 1) (length (split 10 s)) t in at_open (λ h. omega arith))
      where
        at_open : (Ended s n → ⊥) → Wrong s n (suc j) × ((k : ℕ) → k < suc j → Wrong s n k → ⊥)
        at_open h =
            by (eqb (length (line_at s n)) 0 && ltb 1 (1 + n))
            (λ t. let y : ◌≡◌ {A = ℕ} 0 (suc j) = sym (not_ended n h ∙ rw t) ∙ e in absurd (omega arith))
            (λ t. let y : ◌≡◌ {A = ℕ} 1 (suc j) = sym (not_ended n h ∙ rw t) ∙ e in
            (unended (sym y) h (a_line_lem t), λ k l w. least k (omega arith) w))
          where
            a_line_lem : (eqb (length (line_at s n)) 0 && ltb 1 (1 + n)) ≡ false → (n ≡ 0) ⊎ (0 < length (line_at s n))
            a_line_lem t =
                by (eqb n 0)
                (λ q. inl (eqb-true n 0 q))
                (λ q. let y = eqb-false n 0 q in
                inr (by (eqb (length (line_at s n)) 0) (λ u. absurd (no_false (rw (u, lt-ltb 1 (1 + n) (omega arith)) at t) refl)) (λ u. let x = eqb-false (length (line_at s n)) 0 u in omega arith)))

            least : (k : ℕ) → k < 1 → Wrong s n k → ⊥
            least k l (unended q _ _) = omega arith
            least k l (shape q _ _) = omega arith
            least k l (size q _ _) = omega arith
            least k l (order q _ _) = omega arith

        at_end : Ended s n → Wrong s n (suc j) × ((k : ℕ) → k < suc j → Wrong s n k → ⊥)
        at_end h =
            by (shaped r)
            (λ a. by (sized r)
            (λ b. by (ordered p r)
            (λ c. let y : ◌≡◌ {A = ℕ} 0 (suc j) = sym (sound_judged p r (record { shape = a; size = b; order = c })) ∙ d in absurd (omega arith))
            (λ c. let y : 3 ≡ suc j = sym ((judged_three p r).1 (a, b, c)) ∙ d in
            (order (sym y) h (λ w. no_false c ((placed_well n h z a b).1 w)), λ k l w. upto_order a b k (omega arith) w)))
            (λ b. let y : 2 ≡ suc j = sym ((judged_two p r).1 (a, b)) ∙ d in
            (size (sym y) h (λ w. no_false b ((sized_exact r).1 w)), λ k l w. upto_size a k (omega arith) w)))
            (λ a. let y : 1 ≡ suc j = sym ((judged_one p r).1 a) ∙ d in
            (shape (sym y) h (λ w. no_false a ((shaped_exact (line_at s n)).1 w)), λ k l w. upto_shape k (omega arith) w))
          where
            r : Line
            r = line_of (line_at s n)

            p : ℕ
            p = place_at 0 (split 10 s) n

            d : judge p r ≡ suc j
            d = sym (ended n h) ∙ e

            upto_shape : (k : ℕ) → k < 1 → Wrong s n k → ⊥
            upto_shape k l (unended q _ _) = omega arith
            upto_shape k l (shape q _ _) = omega arith
            upto_shape k l (size q _ _) = omega arith
            upto_shape k l (order q _ _) = omega arith

            upto_size : shaped r ≡ true → (k : ℕ) → k < 2 → Wrong s n k → ⊥
            upto_size a k l (unended q o _) = o h
            upto_size a k l (shape q _ o) = o ((shaped_exact (line_at s n)).0 a)
            upto_size a k l (size q _ _) = omega arith
            upto_size a k l (order q _ _) = omega arith

            upto_order : shaped r ≡ true → sized r ≡ true → (k : ℕ) → k < 3 → Wrong s n k → ⊥
            upto_order a b k l (unended q o _) = o h
            upto_order a b k l (shape q _ o) = o ((shaped_exact (line_at s n)).0 a)
            upto_order a b k l (size q _ o) = o ((sized_exact r).0 b)
            upto_order a b k l (order q _ _) = omega arith

  -- lines with which nothing is wrong have number 0
  numbers_none : (n : ℕ) → ((i k : ℕ) → i < n → Wrong s i k → ⊥) → (i : ℕ) → i < n → number i ≡ 0
  numbers_none zero w i h = absurd (omega arith)
  numbers_none (suc n) w i h = go (numbers_none n (λ j k l. w j k (omega arith)))
    where
      last : ((j : ℕ) → j < n → number j ≡ 0) → (j : ℕ) → number n ≡ j → number n ≡ 0
      last before zero d = d
      last before (suc j) d = absurd (w n (suc j) (omega arith) (due n before j d).0)

      go : ((j : ℕ) → j < n → number j ≡ 0) → number i ≡ 0
      go before =
          by (eqb i n)
          (λ e. let q = eqb-true i n e in rw q (last before (number n) refl))
          (λ e. let q = eqb-false i n e in before i (omega arith))

  -- "For a file, the first faulty line decides, then the smallest number"
  pub first_faulty : (j n : ℕ) → (fault_of s ≡ fault (suc j) (suc n)) ↔ FirstFaulty s n (suc j)
  first_faulty j n = (λ e. there e the_outcome, λ w. back w the_outcome)
    where
      there : fault_of s ≡ fault (suc j) (suc n) → Outcome 1 0 (split 10 s) (fault_of s) → FirstFaulty s n (suc j)
      there e (clean f z) = let y : ◌≡◌ {A = ℕ} 0 (suc j) = ap (λ (x : Fault). x.no) (sym f ∙ e) in absurd (omega arith)
      there e (faulty m i f z d) =
          let a : suc i ≡ suc j = ap (λ (x : Fault). x.no) (sym f ∙ e) in
          let b : 1 + m ≡ suc n = ap (λ (x : Fault). x.line) (sym f ∙ e) in
          same m i (omega arith) (omega arith) z d
        where
          same : (m i : ℕ) → m ≡ n → i ≡ j → ((x : ℕ) → x < m → number x ≡ 0) → number m ≡ suc i → FirstFaulty s n (suc j)
          same m i p q z d =
              let z₁ : (x : ℕ) → x < n → number x ≡ 0 = λ x h. z x (omega arith) in
              let w = due n z₁ j (rw (← p, ← q) d) in
              record { before = λ x k h. right x (λ y l. z₁ y (omega arith)) (z₁ x h) k; here = w.0; least = w.1 }

      back : FirstFaulty s n (suc j) → Outcome 1 0 (split 10 s) (fault_of s) → fault_of s ≡ fault (suc j) (suc n)
      back w (clean f z) = absurd (right n (λ i _. z i) (z n) (suc j) w.here)
      back w (faulty m i f z d) =
          let u = due m z i d in
          let before = numbers_none n w.before in
          by (ltb m n)
          (λ t. absurd (w.before m (suc i) (ltb-true m n t) u.0))
          (λ t. by (ltb n m)
          (λ v. absurd (right n before (z n (ltb-true n m v)) (suc j) w.here))
          (λ v. let g = ltb-false m n t in let h = ltb-false n m v in let same : m ≡ n = omega arith in
          at m same u f))
        where
          at : (m : ℕ) → m ≡ n → Wrong s m (suc i) × ((k : ℕ) → k < suc i → Wrong s m k → ⊥) → fault_of s ≡ fault (suc i) (1 + m) → fault_of s ≡ fault (suc j) (suc n)
          at m q u f =
              let u₁ : Wrong s n (suc i) × ((k : ℕ) → k < suc i → Wrong s n k → ⊥) = rw q at u in
              by (ltb i j)
              (λ t. absurd (w.least (suc i) (let l = ltb-true i j t in omega arith) u₁.0))
              (λ t. by (ltb j i)
              (λ v. absurd (u₁.1 (suc j) (let l = ltb-true j i v in omega arith) w.here))
              (λ v. let g = ltb-false i j t in let h = ltb-false j i v in
              let a : i ≡ j = omega arith in
              let b : 1 + m ≡ suc n = omega arith in
              f ∙ rw (a, b)))

  pub none_faulty : ((fault_of s).no ≡ 0) ↔ NoneFaulty s
  none_faulty = (λ e. there e the_outcome, λ w. back w the_outcome)
    where
      there : (fault_of s).no ≡ 0 → Outcome 1 0 (split 10 s) (fault_of s) → (n k : ℕ) → Wrong s n k → ⊥
      there e (clean f z) n k = right n (λ i _. z i) (z n) k
      there e (faulty m i f z d) n k = let y : ◌≡◌ {A = ℕ} (suc i) 0 = sym (ap (λ (x : Fault). x.no) f) ∙ e in absurd (omega arith)

      back : ((n k : ℕ) → Wrong s n k → ⊥) → Outcome 1 0 (split 10 s) (fault_of s) → (fault_of s).no ≡ 0
      back w (clean f z) = ap (λ (x : Fault). x.no) f
      back w (faulty m i f z d) = absurd (w m (suc i) (due m z i d).0)
