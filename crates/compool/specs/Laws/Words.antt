-- The command words of the rows, row by row.
use Rattle.std.specs.Prelude.{◌≡◌, ◌≢◌, Bool, true, false, cond, ℕ, ◌+◌, ◌<◌, ◌≤◌, eqb, set}
use Rattle.std.proofs.Math.Path.{refl, ap}
use Rattle.std.proofs.Common.{sym, ◌∙◌, arith, length-append}
use mathlib.Core.List.{List, [], ◌∷◌, ◌++◌}
use Rattle.std.proofs.Math.ListN.{length, length-set}
use borrow.Author.Tests.{eq-eqb, ne_eqb}
use Rattle.laws.specs.Cases.{if_yes, if_no}
use Rattle.laws.specs.Iter.{iter}
use Rattle.laws.specs.Laws.Iter.{iter_zero, iter_step}
use Rattle.laws.specs.Put.{put}
use Rattle.laws.specs.Laws.Put.{put_one, put_put, length_put, put_none}
use Rattle.rules.specs.Rig as R
use Rattle.rules.specs.Bus.{row_due, row_words, receive_word, transmit_word, bus_one, bus_words}

-- the three ways of a row
module _ (master : ℕ) (b : R.Row) (l : List ℕ) (n : ℕ) (h : n + 2 ≤ length l) where
  abbrev pub RowPut : ℕ → List ℕ → Type 0
  RowPut r o = (r ≡ n + length (row_words master b)) × (o ≡ put l n (row_words master b))

  pub row_from : b.sender ≡ master → (x : ℕ) → x ≡ receive_word b → RowPut (n + 1) (set l n x)
  unfolding row_words
  row_from e x q = rw (eq-eqb b.sender master e) (refl, rw q (put_one l n (receive_word b) (omega arith)))

  pub row_to : b.sender ≢ master → b.receiver ≡ master → (x : ℕ) → x ≡ transmit_word b → RowPut (n + 1) (set l n x)
  unfolding row_words
  row_to m e x q =
      rw (ne_eqb b.sender master m, eq-eqb b.receiver master e) (refl, rw q (put_one l n (transmit_word b) (omega arith)))

  pub row_both : b.sender ≢ master → b.receiver ≢ master → (x y : ℕ) → x ≡ receive_word b → y ≡ transmit_word b
      → RowPut (n + 2) (set (set l n x) (n + 1) y)
  unfolding row_words
  row_both m k x y p q =
      rw (ne_eqb b.sender master m, ne_eqb b.receiver master k) (
        refl,
        rw (p, q)
            (put_one (set l n (receive_word b)) (n + 1) (transmit_word b) (rw length-set (omega arith))
            ∙ ap (λ (z : List ℕ). put z (n + 1) (transmit_word b ∷ [])) (put_one l n (receive_word b) (omega arith))
            ∙ put_put l n (receive_word b ∷ []) (transmit_word b ∷ []) (omega arith)),
      )

pub row_short : (master : ℕ) (b : R.Row) → length (row_words master b) ≤ 2
unfolding row_words
row_short master b = go (eqb b.sender master) (eqb b.receiver master)
  where
    go : (x y : Bool) → length (cond x (receive_word b ∷ []) (cond y (transmit_word b ∷ []) (receive_word b ∷ transmit_word b ∷ []))) ≤ 2
    go true y = omega arith
    go false true = omega arith
    go false false = omega arith

-- the words of the rows before i stand in the buffer
pub record Sent (master : ℕ) (row : ℕ → R.Row) (count : ℕ) (l₀ l : List ℕ) (n i : ℕ) : Type 0 where
  pub is : l ≡ put l₀ 0 (iter i (bus_one master row count) [])
  pub many : n ≡ length (iter i (bus_one master row count) [])
  pub few : n ≤ i + i
  pub long : length l ≡ length l₀

module _ (master : ℕ) (row : ℕ → R.Row) (count : ℕ) (l₀ : List ℕ) (z : 128 ≤ length l₀) where
  pub sent_start : Sent master row count l₀ l₀ 0 0
  sent_start =
      record {
        is = sym (put_none l₀ 0) ∙ ap (put l₀ 0) (sym (iter_zero _ _));
        many = ap length (sym (iter_zero (bus_one master row count) []));
        few = omega arith;
        long = refl;
      }

  module _ (l : List ℕ) (n i : ℕ) (h : Sent master row count l₀ l n i) (b : i < 64) where
    abbrev words : List ℕ
    words = iter i (bus_one master row count) []

    next : bus_one master row count i words ≡ iter (i + 1) (bus_one master row count) []
    next = iter_step i (bus_one master row count) [] words refl

    pub sent_room : n + 2 ≤ length l
    sent_room = omega (arith, h.few, h.long)

    pub sent_no : row_due (row i) count ≡ false → Sent master row count l₀ l n (i + 1)
    sent_no e =
        let q : words ≡ iter (i + 1) (bus_one master row count) [] = sym (if_no _ e refl) ∙ next in
        record { is = h.is ∙ ap (put l₀ 0) q; many = h.many ∙ ap length q; few = omega (arith, h.few); long = h.long }

    pub sent_yes : row_due (row i) count ≡ true → (r : ℕ) (o : List ℕ) → RowPut master (row i) l n sent_room r o → Sent master row count l₀ o r (i + 1)
    sent_yes e r o m =
        let q : words ++ row_words master (row i) ≡ iter (i + 1) (bus_one master row count) [] = sym (if_yes _ e refl) ∙ next in
        let s : length words + length (row_words master (row i)) ≤ length l₀ = omega (arith, h.many, h.few, row_short master (row i)) in
        let t : o ≡ put l₀ 0 (words ++ row_words master (row i)) =
        m.1 ∙ ap (λ (x : List ℕ). put x n (row_words master (row i))) h.is
        ∙ ap (λ (k : ℕ). put (put l₀ 0 words) k (row_words master (row i))) (h.many ∙ zero_left (length words))
        ∙ put_put l₀ 0 words (row_words master (row i)) (rw length-append (omega (arith, s))) in
        record {
          is = t ∙ ap (put l₀ 0) q;
          many = m.0 ∙ ap (λ (k : ℕ). k + length (row_words master (row i))) h.many ∙ sym (length-append words _) ∙ ap length q;
          few = omega (arith, m.0, h.few, row_short master (row i));
          long = ap length t ∙ length_put l₀ 0 (words ++ row_words master (row i)) (rw length-append (omega (arith, s)));
        }
      where
        zero_left : (k : ℕ) → k ≡ 0 + k
        zero_left k = omega arith

  pub sent_done : (l : List ℕ) (n i many : ℕ) → Sent master row count l₀ l n i → i ≡ many
      → (n ≡ length (bus_words many master row count)) × (l ≡ put l₀ 0 (bus_words many master row count))
  unfolding bus_words
  sent_done l n i many h e = (
    h.many ∙ ap (λ (k : ℕ). length (iter k (bus_one master row count) [])) e,
    h.is ∙ ap (λ (k : ℕ). put l₀ 0 (iter k (bus_one master row count) [])) e,
  )
