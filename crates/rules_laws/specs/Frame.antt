-- A FRAME (L11): how often a row is due in any 64 counts in a row, and how many counts lie from one to the next; the words of a count, seen from a
-- row; the words come round with the frame; the count rises by accepted ticks alone.
use Rattle.std.specs.Prelude.{◌≡◌, ◌≢◌, Bool, not, ◌&&◌, take}
use Rattle.std.proofs.Math.Path.{refl, sym, ap}
use Rattle.std.proofs.Common.{◌∙◌, arith, zero-add, add-zero, suc-add, add-suc, mul-one, mod-eq_of_lt, take_at, eqb-true}
use Rattle.std.proofs.Math.Bool.{true, false, cond}
use mathlib.Core.List.{List, [], ◌∷◌, ◌++◌, append-nil, append_assoc}
use Prim.Native.Nat.{ℕ, zero, suc, ◌+◌, ◌*◌, ◌/◌, ◌%◌, ◌≤◌, ◌<◌}
use Rattle.std.proofs.Math.Nat.{add-mod_right, add-mul-mod_self_right, mul-div_left}
use Rattle.std.proofs.Math.Dec.{eqb, eqb-suc-zero}
use Rattle.laws.specs.Bits.{bit}
use Rattle.laws.specs.Cases.{and_yes, and_no}
use Rattle.laws.specs.Tables.{total, sum}
use Rattle.laws.specs.Iter.{iter}
use Rattle.laws.specs.Put.{put}
use Rattle.laws.specs.Laws.Sums.{sum_same, sum_more, sum_one, sum_first, round_sum, rounds_sum, round_mod}
use Rattle.word_parts.specs.Packed.{command_word}
use Rattle.rules.specs.Rig.{Rig, Row}
use Rattle.rules.specs.State.{State}
use Rattle.rules.specs.Running.{dispatch}
use Rattle.rules.specs.Bus.{row_due, receive_word, transmit_word, row_words, bus_one, bus_words}
use Rattle.rules.specs.Frame.{due_in, commands_to, commands_in, times_a_frame, commands_a_frame}
use Rattle.rules.specs.Calls.{Call, tick}
use Rattle.rules.specs.Calls.{is_tick, effect, ended, settled, output, words_at, accepted, after, refusal, step}
use Rattle.rules_laws.specs.Good.{settle_count}
use Rattle.rules_laws.specs.Ticking.{effect_count}

-- ---- a row of a right rig: its period goes into 64 q times, and "phase below the period"

pub record Timed (b : Row) (q : ℕ) : Type 0 where
  pub divides : q * b.period ≡ 64
  pub below : b.phase < b.period

module _ (b : Row) (q : ℕ) (h : Timed b q) where
  period_round : (n : ℕ) → due_in b (n + b.period) ≡ due_in b n
  period_round n = ap (λ c. bit (eqb c b.phase)) (add-mod_right n b.period)

  -- any counts in a row, as many as the period: it is due at one of them
  pub due_once : (c : ℕ) → sum b.period (λ i. due_in b (c + i)) ≡ 1
  due_once c =
      round_sum b.period (due_in b) period_round c
      ∙ sum_same b.period (due_in b) (λ i. bit (eqb i b.phase)) (λ i l. ap (λ n. bit (eqb n b.phase)) (mod-eq_of_lt l))
      ∙ sum_one b.period b.phase h.below

  -- any 64 counts in a row
  pub due_times : (c : ℕ) → sum 64 (λ i. due_in b (c + i)) ≡ q
  due_times c =
      ap (λ n. sum n (λ i. due_in b (c + i))) (sym h.divides)
      ∙ rounds_sum b.period (due_in b) period_round q c
      ∙ ap (λ n. q * n) (sym (sum_start b.period) ∙ due_once 0)
      ∙ mul-one q
    where
      sum_start : (n : ℕ) → sum n (λ i. due_in b (0 + i)) ≡ sum n (due_in b)
      sum_start n = sum_same n (λ i. due_in b (0 + i)) (due_in b) (λ i l. ap (due_in b) (zero-add i))

  pub quotient : q ≡ 64 / b.period
  quotient = sym (mul-div_left q (omega (arith, h.below))) ∙ ap (λ n. n / b.period) h.divides

  -- the row comes round with the frame
  pub frame_round : (n : ℕ) → row_due b (n + 64) ≡ row_due b n
  frame_round n =
      ap (λ m. eqb ((n + m) % b.period) b.phase) (sym h.divides)
      ∙ ap (λ m. eqb m b.phase) (add-mul-mod_self_right n q b.period)

  -- it is due at c, then at none of n counts, then at the next: there are as many counts from the one to the other as the period
  pub due_next : (c n : ℕ) → due_in b c ≡ 1 → sum n (λ i. due_in b (suc c + i)) ≡ 0 → due_in b (suc c + n) ≡ 1 → suc n ≡ b.period
  unfolding sum
  due_next c n d none e = meet (suc n) b.period fewer more
    where
      -- as many as the period would have one that is due
      fewer : b.period < suc n → ⊥
      fewer l = omega (arith, none, due_once (suc c), sum_more b.period n (λ i. due_in b (suc c + i)) (omega arith))

      -- with the one before and the one behind them they have two
      two : sum (suc (suc n)) (λ i. due_in b (c + i)) ≡ 2
      two =
          let rest = sum_same (suc n) (λ i. due_in b (c + suc i)) (λ i. due_in b (suc c + i)) (λ i l. ap (due_in b) (add-suc c i ∙ sym (suc-add c i))) in
          omega (arith, sum_first (suc n) (λ i. due_in b (c + i)), ap (due_in b) (add-zero c), rest, d, none, e)

      more : suc n < b.period → ⊥
      more l = omega (arith, two, due_once c, sum_more (suc (suc n)) b.period (λ i. due_in b (c + i)) l)

      meet : (m p : ℕ) → (p < m → ⊥) → (m < p → ⊥) → m ≡ p
      meet m p a z = omega arith

-- ---- the words of a count

module _ (master : ℕ) where
  -- the words of k rows, then those of the d rows behind them
  pub bus_plus : (row : ℕ → Row) (c k d : ℕ) → bus_words (k + d) master row c ≡ bus_words k master row c ++ bus_words d master (λ i. row (k + i)) c
  unfolding bus_words iter
  bus_plus row c k zero = ap (λ n. bus_words n master row c) (add-zero k) ∙ sym (append-nil (bus_words k master row c))
  bus_plus row c k (suc d) =
      ap (λ n. bus_words n master row c) (add-suc k d)
      ∙ ap (λ (words : List ℕ). bus_one master row c (k + d) words) (bus_plus row c k d)
      ∙ behind (row_due (row (k + d)) c) (bus_words k master row c) (bus_words d master (λ i. row (k + i)) c) (row_words master (row (k + d)))
    where
      behind : (b : Bool) (xs ys zs : List ℕ) → cond b ((xs ++ ys) ++ zs) (xs ++ ys) ≡ xs ++ cond b (ys ++ zs) ys
      behind true xs ys zs = append_assoc xs ys zs
      behind false xs ys zs = refl

  -- those of the rows before row k, its own if it is due and none if not, those of the rows behind it
  pub bus_at : (row : ℕ → Row) (c k d : ℕ)
      → bus_words (k + suc d) master row c
      ≡ bus_words k master row c ++ (cond (row_due (row k) c) (row_words master (row k)) [] ++ bus_words d master (λ i. row (suc k + i)) c)
  unfolding bus_words iter
  bus_at row c k d =
      let before = bus_words k master row c in
      let rest = bus_words d master (λ i. row (suc k + i)) c in
      ap (λ n. bus_words n master row c) (add-suc k d ∙ sym (suc-add k d))
      ∙ bus_plus row c (suc k) d
      ∙ ap (λ (words : List ℕ). words ++ rest) (own (row_due (row k) c) before (row_words master (row k)))
      ∙ append_assoc before (cond (row_due (row k) c) (row_words master (row k)) []) rest
    where
      own : (b : Bool) (xs zs : List ℕ) → cond b (xs ++ zs) xs ≡ xs ++ cond b zs []
      own true xs zs = refl
      own false xs zs = sym (append-nil xs)

  -- rows that are due alike have the same words
  pub bus_same : (rows : ℕ) (row : ℕ → Row) (c d : ℕ) → ((i : ℕ) → i < rows → row_due (row i) c ≡ row_due (row i) d)
      → bus_words rows master row c ≡ bus_words rows master row d
  unfolding bus_words iter
  bus_same zero row c d h = refl
  bus_same (suc k) row c d h =
      let before = bus_same k row c d (λ i l. h i (omega arith)) in
      λ j. cond (h k (omega arith) j) (before j ++ row_words master (row k)) (before j)

-- ---- whom a row speaks to: one command to each end but the master

word_address : (address transmit sub words : ℕ) → transmit ≤ 1 → sub ≤ 31 → command_word address transmit sub words / 2048 ≡ address
unfolding command_word
word_address address transmit sub words t s = omega arith

pub row_speaks : (master : ℕ) (b : Row) → b.sender ≢ b.receiver → b.sender_sub ≤ 31 → b.receiver_sub ≤ 31 → (address : ℕ)
    → commands_to address (row_words master b)
    ≡ bit (eqb b.receiver address && not (eqb b.receiver master)) + bit (eqb b.sender address && not (eqb b.sender master))
unfolding row_words commands_to total
row_speaks master b n s r address = go (eqb b.sender master) (eqb b.receiver master) refl refl
  where
    receives : bit (eqb (receive_word b / 2048) address) ≡ bit (eqb b.receiver address)
    receives = ap (λ (a : ℕ). bit (eqb a address)) (word_address b.receiver 0 b.receiver_sub b.words (omega arith) r)

    transmits : bit (eqb (transmit_word b / 2048) address) ≡ bit (eqb b.sender address)
    transmits = ap (λ (a : ℕ). bit (eqb a address)) (word_address b.sender 1 b.sender_sub b.words (omega arith) s)

    asked : (x : Bool) → bit (x && true) ≡ bit x
    asked x = ap bit (and_yes x)

    spared : (x : Bool) → bit (x && false) ≡ 0
    spared x = ap bit (and_no x)

    go : (x y : Bool) → eqb b.sender master ≡ x → eqb b.receiver master ≡ y
        → commands_to address (cond x (receive_word b ∷ []) (cond y (transmit_word b ∷ []) (receive_word b ∷ transmit_word b ∷ [])))
        ≡ bit (eqb b.receiver address && not y) + bit (eqb b.sender address && not x)
    go true true e f = absurd (n (eqb-true b.sender master e ∙ sym (eqb-true b.receiver master f)))
    go true false e f = omega (arith, receives, asked (eqb b.receiver address), spared (eqb b.sender address))
    go false true e f = omega (arith, transmits, asked (eqb b.sender address), spared (eqb b.receiver address))
    go false false e f = omega (arith, receives, transmits, asked (eqb b.receiver address), asked (eqb b.sender address))

-- every row's period goes into 64, and its phase is below it
abbrev pub AllTimed : ℕ → (ℕ → Row) → Type 0
AllTimed rows row = (i : ℕ) → i < rows → (q : ℕ) × Timed (row i) q

module _ (rows master : ℕ) (row : ℕ → Row) (h : AllTimed rows row) where
  -- the words come round with the frame
  words_round : (n : ℕ) → bus_words rows master row (n + 64) ≡ bus_words rows master row n
  words_round n = bus_same master rows row (n + 64) n (λ i l. let t = h i l in frame_round (row i) t.0 t.1 n)

  -- so a count's words are those of its cycle
  pub words_of_cycle : (n : ℕ) → bus_words rows master row n ≡ bus_words rows master row (n % 64)
  words_of_cycle n = round_mod 64 (bus_words rows master row) words_round n

  -- any 64 counts in a row have as many commands to an address as a frame
  pub commands_times : (address c : ℕ) → sum 64 (λ i. commands_in rows master row address (c + i)) ≡ commands_a_frame rows master row address
  unfolding commands_a_frame
  commands_times address c =
      round_sum 64 (commands_in rows master row address) (λ n. ap (commands_to address) (words_round n)) c

-- a row's times in a frame
pub times_is : (b : Row) (q : ℕ) → Timed b q → times_a_frame b ≡ 64 / b.period
unfolding times_a_frame
times_is b q h = sym (round_sum 64 (due_in b) (λ n. ap bit (frame_round b q h n)) 0) ∙ due_times b q h 0 ∙ quotient b q h

-- ---- ticks: the count rises by accepted ones alone

module _ (r : Rig) (s : State) where
  pub step_count : (k : Call) → (step r s k).next.count ≡ cond (is_tick k && eqb (refusal r s k) 0) (suc s.count) s.count
  unfolding step after accepted settled dispatch
  step_count k = go (refusal r s k)
    where
      go : (n : ℕ) → (after n r s k).next.count ≡ cond (is_tick k && eqb n 0) (suc s.count) s.count
      go zero =
          settle_count r (effect r s k) (ended s k) ∙ effect_count r s k ∙ ap (λ b. cond b (suc s.count) s.count) (sym (and_yes (is_tick k)))
      go (suc n) = ap (λ b. cond b (suc s.count) s.count) (sym (ap (λ b. is_tick k && b) (eqb-suc-zero n) ∙ and_no (is_tick k)))

  -- an accepted tick hands out the words of the count that it makes
  pub tick_sends : (buffer : List ℕ) → refusal r s (tick buffer) ≡ 0
      → take (step r s (tick buffer)).answer.report.words (step r s (tick buffer)).lent ≡ words_at r (step r s (tick buffer)).next.count
  unfolding step after accepted output put
  tick_sends buffer e = rw e (take_at (words_at r _) _ _ refl)
