-- WHAT IS QUEUED AND WHAT IS SENT, in the paper's words: who exactly, and in which order.
use Rattle.std.specs.Prelude.{◌≡◌, refl, ◌≢◌, ◌↔◌, Bool, true, false, cond, ◌&&◌, ℕ, zero, suc, ◌+◌, ◌%◌, ◌≤◌, ◌<◌, eqb}
use Rattle.std.proofs.Math.Path.{sym, ap}
use Rattle.std.proofs.Common.{◌∙◌, subst, inl, inr, ⊎_elim, true≢false, arith, add-one, le_refl, eqb-true, eq-eqb}
use mathlib.Core.List.{List, [], ◌∷◌, ◌++◌, append-nil, append_assoc, map, flat_map}
use Rattle.laws.specs.Cases.{and_true, and_go, dec_eq}
use Rattle.laws.specs.Iter.{iter}
use Rattle.laws.specs.Laws.Iter.{iter_ind}
use Rattle.laws.specs.Members.{In}
use Rattle.laws.specs.Laws.Members.{in_left, in_right, in_cases}
use Rattle.laws.specs.Ordered.{Ordered}
use Rattle.laws.specs.Laws.Ordered.{ordered_end}
use Rattle.rules.specs.Rig.{Rig, Row}
use Rattle.rules.specs.RigOk.{RigOk}
use Rattle.rules.specs.State.{State, Entry, state_of, active, on, off}
use Rattle.rules.specs.Serving.{push}
use Rattle.rules.specs.Family.{Under, family, is_marked, offs}
use Rattle.rules.specs.Bus.{row_due, row_words, bus_one, bus_words}
use Rattle.rules.specs.Calls.{cycle_queue}
use Rattle.rules_laws.specs.FamilyLaws.{family_is}

-- ---- queued

-- By rising number, who is queued: each n of whom Who holds and whose flag is not 0 has its flag queued with the value, and
-- nobody else. What is queued last stands first.
pub record QueuedByNumber (flag : ℕ → ℕ) (value : ℕ) (Who : ℕ → Type 0) (q : List Entry) : Type 0 where
  pub numbers : List ℕ
  pub queued : q ≡ map (λ (n : ℕ). record { flag = flag n; value = value }) numbers
  pub who : (n : ℕ) → In n numbers ↔ ((flag n ≢ 0) × Who n)
  pub rising : Ordered (λ (a b : ℕ). b < a) numbers

-- the same for others who are described otherwise
pub queued_same : (flag : ℕ → ℕ) (value : ℕ) (Who Whom : ℕ → Type 0) (q : List Entry) → ((n : ℕ) → Who n ↔ Whom n)
    → QueuedByNumber flag value Who q → QueuedByNumber flag value Whom q
queued_same flag value Who Whom q f h =
    record {
      numbers = h.numbers;
      queued = h.queued;
      who = λ n. (
        (λ i. let w = (h.who n).0 i in (w.0, (f n).0 w.1)),
        (λ w. (h.who n).1 (w.0, (f n).1 w.1)),
      );
      rising = h.rising;
    }

-- a loop that queues, turn i for the number `at i`
module _ (flag : ℕ → ℕ) (value : ℕ) (test : ℕ → Bool) (at : ℕ → ℕ) (up : (i j : ℕ) → i < j → at i < at j) where
  -- number n had its turn before turn k, and passed the test
  abbrev Passed : ℕ → ℕ → Type 0
  Passed k n = (i : ℕ) × (i < k) × ((n ≡ at i) × (test n ≡ true))

  abbrev turn_of : ℕ → List Entry → List Entry
  turn_of i q = cond (test (at i)) (push (flag (at i)) value q) q

  later : (k n : ℕ) → Passed k n → Passed (suc k) n
  later k n p = (p.0, omega (arith, p.1), p.2)

  -- nobody new
  skip : (k : ℕ) (q : List Entry) → (flag (at k) ≢ 0 → test (at k) ≡ true → ⊥)
      → QueuedByNumber flag value (Passed k) q → QueuedByNumber flag value (Passed (suc k)) q
  skip k q never h =
      record {
        numbers = h.numbers;
        queued = h.queued;
        who = λ n. (
          (λ i. let w = (h.who n).0 i in (w.0, later k n w.1)),
          (λ w. (h.who n).1 (w.0, go n w.0 w.1 (dec_eq w.1.0 k))),
        );
        rising = h.rising;
      }
    where
      go : (n : ℕ) → flag n ≢ 0 → (p : Passed (suc k) n) → Dec (p.0 ≡ k) → Passed k n
      go n z p (yes e) =
          let s : n ≡ at k = p.2.0 ∙ ap at e in
          absurd (never (λ y. z (ap flag s ∙ y)) (ap test (sym s) ∙ p.2.1))
      go n z p (no e) = (p.0, omega (arith, p.1), p.2)

  -- one more
  one : (k f : ℕ) (q : List Entry) → flag (at k) ≡ suc f → test (at k) ≡ true
      → QueuedByNumber flag value (Passed k) q → QueuedByNumber flag value (Passed (suc k)) (record { flag = suc f; value = value } ∷ q)
  one k f q e t h =
      record {
        numbers = at k ∷ h.numbers;
        queued = (λ i. record { flag = sym e i; value = value } ∷ h.queued i);
        who = λ n. (
          (λ i. ⊎_elim (λ s. (λ z. omega (arith, z, ap flag s, e), (k, le_refl _, (s, ap test s ∙ t))))
              (λ j. let w = (h.who n).0 j in (w.0, later k n w.1)) i),
          (λ w. go n w.0 w.1 (dec_eq w.1.0 k)),
        );
        rising = ((λ a i. let w = ((h.who a).0 i).1 in omega (arith, w.2.0, up w.0 k w.1)), h.rising);
      }
    where
      go : (n : ℕ) → flag n ≢ 0 → (p : Passed (suc k) n) → Dec (p.0 ≡ k) → In n (at k ∷ h.numbers)
      go n z p (yes s) = inl (p.2.0 ∙ ap at s)
      go n z p (no s) = inr ((h.who n).1 (z, (p.0, omega (arith, p.1), p.2)))

  turned : (k : ℕ) (q : List Entry) → QueuedByNumber flag value (Passed k) q → QueuedByNumber flag value (Passed (suc k)) (turn_of k q)
  turned k q h = go (test (at k)) refl (flag (at k)) refl
    where
      go : (b : Bool) → test (at k) ≡ b → (f : ℕ) → flag (at k) ≡ f → QueuedByNumber flag value (Passed (suc k)) (cond b (push f value q) q)
      go false t f e = skip k q (λ z y. true≢false (sym y ∙ t)) h
      go true t zero e = skip k q (λ z y. z e) h
      go true t (suc f) e = one k f q e t h

  loop_queues : (n : ℕ) → QueuedByNumber flag value (Passed n) (iter n turn_of [])
  loop_queues n =
      iter_ind (λ k q. QueuedByNumber flag value (Passed k) q) turn_of []
      (record { numbers = []; queued = refl; who = λ n. ((λ i. absurd i), (λ w. absurd (omega (arith, w.1.1)))); rising = tt })
      (λ k q h. turned k q h) n

-- CANCEL: "then activation flags of those that were active are queued off, by rising task number": of the named task t and its
-- descendants those that were active, by the states before
pub record StruckActive (r : Rig) (s : State) (t u : ℕ) : Type 0 where
  pub known : (1 ≤ u) × (u ≤ 64)
  pub family : Under r.controller t u
  pub was : active (state_of s u) ≡ 1

pub offs_queued : (r : Rig) → RigOk r → (s : State) (t : ℕ) → 1 ≤ t → t ≤ 64
    → QueuedByNumber r.activation off (StruckActive r s t) (offs r.activation (family r.controller t) s.states)
unfolding offs
offs_queued r ok s t a b =
    queued_same r.activation off _ (StruckActive r s t) _ (λ u. (there u, back u))
    (loop_queues r.activation off test (λ i. i + 1) (λ i j l. omega arith) 64)
  where
    test : ℕ → Bool
    test u = is_marked (family r.controller t) u && eqb (active (state_of s u)) 1

    there : (u : ℕ) → Passed r.activation off test (λ i. i + 1) (λ i j l. omega arith) 64 u → StruckActive r s t u
    there u p =
        let e = and_true (is_marked (family r.controller t) u) (eqb (active (state_of s u)) 1) p.2.1 in
        let k : (1 ≤ u) × (u ≤ 64) = (omega (arith, p.2.0), omega (arith, p.1, p.2.0)) in
        record { known = k; family = (family_is r ok t a b u k.0 k.1).0 (eqb-true _ 1 e.0); was = eqb-true _ 1 e.1 }

    back : (u : ℕ) → StruckActive r s t u → Passed r.activation off test (λ i. i + 1) (λ i j l. omega arith) 64 u
    back u h = go u refl
      where
        go : (v : ℕ) → u ≡ v → Passed r.activation off test (λ i. i + 1) (λ i j l. omega arith) 64 u
        go zero e = absurd (omega (arith, e, h.known.0))
        go (suc i) e = (
          i,
          omega (arith, e, h.known.1),
          (
            e ∙ sym (add-one i),
            and_go (eq-eqb _ 1 ((family_is r ok t a b u h.known.0 h.known.1).1 h.family)) (eq-eqb _ 1 h.was),
          ),
        )

-- TICK: "the M list of cycle .. is queued, each flag on, in file order": the flags of its up to fifteen places
pub cycle_queued : (flags : ℕ → ℕ) → QueuedByNumber flags on (λ (i : ℕ). i < 15) (cycle_queue flags)
unfolding cycle_queue
cycle_queued flags =
    queued_same flags on _ (λ (i : ℕ). i < 15) _
    (λ i. ((λ p. omega (arith, p.1, p.2.0)), (λ l. (i, l, (refl, refl)))))
    (loop_queues flags on (λ i. true) (λ i. i) (λ i j l. l) 15)

-- ---- sent

-- "Rows in order": the words are those of each row that is due, and of no other, by rising row
pub record SentByRow (rows master : ℕ) (row : ℕ → Row) (count : ℕ) (words : List ℕ) : Type 0 where
  pub numbers : List ℕ
  pub sent : words ≡ flat_map (λ (i : ℕ). row_words master (row i)) numbers
  -- "A row is due when count modulo period equals phase."
  pub who : (i : ℕ) → In i numbers ↔ ((i < rows) × (count % (row i).period ≡ (row i).phase))
  pub rising : Ordered (λ (a b : ℕ). a < b) numbers

module _ (master : ℕ) (row : ℕ → Row) (count : ℕ) where
  flat_end : (f : ℕ → List ℕ) (i : ℕ) (ns : List ℕ) → flat_map f (ns ++ i ∷ []) ≡ flat_map f ns ++ f i
  unfolding flat_map
  flat_end f i [] = append-nil (f i)
  flat_end f i (n ∷ ns) = ap (λ (l : List ℕ). f n ++ l) (flat_end f i ns) ∙ sym (append_assoc (f n) (flat_map f ns) (f i))

  row_turn : (k : ℕ) (words : List ℕ) → SentByRow k master row count words
      → (b : Bool) → row_due (row k) count ≡ b → SentByRow (suc k) master row count (cond b (words ++ row_words master (row k)) words)
  row_turn k words h true e =
      record {
        numbers = h.numbers ++ k ∷ [];
        sent = ap (λ (l : List ℕ). l ++ row_words master (row k)) h.sent ∙ sym (flat_end (λ i. row_words master (row i)) k h.numbers);
        who = λ i. (
          (λ m. ⊎_elim (λ j. let w = (h.who i).0 j in (omega (arith, w.0), w.1))
              (λ j. ⊎_elim (λ q. (omega (arith, q), subst (λ (n : ℕ). count % (row n).period ≡ (row n).phase) (sym q) (eqb-true _ _ e))) (λ z. absurd z) j)
              (in_cases i h.numbers (k ∷ []) m)),
          (λ w. go i w.0 w.1 (dec_eq i k)),
        );
        rising = ordered_end (λ (a b : ℕ). a < b) k h.numbers (λ a m. ((h.who a).0 m).0) h.rising;
      }
    where
      go : (i : ℕ) → i < suc k → count % (row i).period ≡ (row i).phase → Dec (i ≡ k) → In i (h.numbers ++ k ∷ [])
      go i l d (yes q) = in_right i h.numbers (k ∷ []) (inl q)
      go i l d (no q) = in_left i h.numbers (k ∷ []) ((h.who i).1 (omega arith, d))
  row_turn k words h false e =
      record {
        numbers = h.numbers;
        sent = h.sent;
        who = λ i. (
          (λ m. let w = (h.who i).0 m in (omega (arith, w.0), w.1)),
          (λ w. go i w.0 w.1 (dec_eq i k)),
        );
        rising = h.rising;
      }
    where
      go : (i : ℕ) → i < suc k → count % (row i).period ≡ (row i).phase → Dec (i ≡ k) → In i h.numbers
      go i l d (yes q) =
          absurd (true≢false (sym (eq-eqb _ _ (subst (λ (n : ℕ). count % (row n).period ≡ (row n).phase) q d)) ∙ e))
      go i l d (no q) = (h.who i).1 (omega arith, d)

  pub bus_sent : (rows : ℕ) → SentByRow rows master row count (bus_words rows master row count)
  unfolding bus_words flat_map
  bus_sent rows =
      iter_ind (λ k words. SentByRow k master row count words) (bus_one master row count) []
      (record { numbers = []; sent = refl; who = λ i. ((λ m. absurd m), (λ w. absurd (omega (arith, w.0)))); rising = tt })
      (λ k words h. row_turn k words h (row_due (row k) count) refl) rows
