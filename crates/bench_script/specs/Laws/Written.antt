-- Laws of output lines as they are written, field after field.
use Rattle.std.specs.Prelude.{ℕ, zero, suc, ◌+◌, ◌*◌, ◌/◌, ◌%◌, ◌≤◌, ◌<◌, ◌≡◌, refl, ◌≢◌, ◌⊎◌, List, [], ◌∷◌, ◌++◌, map, ltb, length, get_or, take, set}
use Rattle.std.proofs.Common.{sym, ap, ◌∙◌, ⊎_elim, append_assoc, append-nil, arith, add-one, length-take, take-suc, take_all, eq-eqb, ne_eqb}
use Rattle.std.proofs.Math.Logic.{inl}
use Rattle.std.proofs.lemmas.List.{map-append}
use Rattle.std.proofs.Math.ListN.{length-append}
use Rattle.laws.specs.Cases.{by, if_yes, if_no}
use Rattle.put_text.specs.Wrote.{Wrote}
use Rattle.put_text.specs.Laws.Wrote.{wrote_same, wrote_then, wrote_as, wrote_none, byte_then, then_byte}
use Rattle.decimal.specs.Decimal.{dec_by, dec}
use Rattle.text.specs.Split.{led}
use Rattle.text.specs.Laws.Split.{led_append}
use Rattle.bench_script.specs.Letters.{start_name}
use Rattle.bench_script.specs.Output.{fields_text, if_any, line_text, start_room}

length_take_most : (i : ℕ) (l : List ℕ) → length (take i l) ≤ i
length_take_most i l = rw length-take (omega arith)

dec_by_length : (k n : ℕ) → length (dec_by k n) ≤ suc k
unfolding dec_by
dec_by_length zero n = omega arith
dec_by_length (suc k) n =
    by (ltb n 10)
    (λ e. rw e (omega arith))
    (λ e. rw (e, length-append (dec_by k (n / 10)) ((48 + n % 10) ∷ [])) (omega (arith, dec_by_length k (n / 10))))

-- a decimal has at most ten digits
pub dec_length : (n : ℕ) → length (dec n) ≤ 10
unfolding dec
dec_length n = dec_by_length 9 n

pub fields_append : (a b : List ℕ) → fields_text (a ++ b) ≡ fields_text a ++ fields_text b
unfolding fields_text
fields_append a b = rw (map-append, led_append)

pub fields_none : fields_text [] ≡ []
unfolding fields_text led
fields_none = refl

-- a number of which 0 says that there is none
pub any_none : (none n : ℕ) (l : List ℕ) (at : ℕ) → n ≡ none → Wrote l at (fields_text (if_any none n)) l at
any_none none n l at e =
    wrote_as l l [] (fields_text (if_any none n)) at at (sym (ap fields_text (if_yes (n ∷ []) (eq-eqb n none e) refl) ∙ fields_none)) (wrote_none l at)

pub any_one : (none n : ℕ) (l m : List ℕ) (at p : ℕ) → n ≢ none → Wrote l at (fields_text (n ∷ [])) m p → Wrote l at (fields_text (if_any none n)) m p
any_one none n l m at p e w = wrote_as l m (fields_text (n ∷ [])) (fields_text (if_any none n)) at p (sym (ap fields_text (if_no [] (ne_eqb n none e) refl))) w

pub fields_one : (n : ℕ) → fields_text (n ∷ []) ≡ 9 ∷ dec n
unfolding fields_text led
fields_one n = rw append-nil

pub fields_length : (l : List ℕ) → length (fields_text l) ≤ 11 * length l
unfolding fields_text led
fields_length [] = omega arith
fields_length (x ∷ xs) =
    let e = length-append (dec x) (led 9 (map dec xs)) in
    omega (arith, e, dec_length x, fields_length xs)

-- a tab is written, then a number
pub field_wrote : (l m : List ℕ) (at n p : ℕ) → at + 11 ≤ length l → Wrote (set l at 9) (at + 1) (dec n) m p → Wrote l at (fields_text (n ∷ [])) m p
field_wrote l m at n p h w =
    let d = dec_length n in
    wrote_as l m (9 ∷ dec n) (fields_text (n ∷ [])) at p (sym (fields_one n)) (byte_then l m (dec n) at 9 p (omega arith) w)

-- ---- words, one field each

pub record Listing (l : List ℕ) (at : ℕ) (ws m : List ℕ) (p i : ℕ) : Type 0 where
  pub wrote : Wrote l at (fields_text (take i ws)) m p
  pub room : at + 11 * length ws ≤ length l

module _ (l : List ℕ) (at : ℕ) (ws : List ℕ) where
  pub listing_start : at + 11 * length ws ≤ length l → Listing l at ws l at 0
  listing_start h = record { wrote = wrote_as l l [] (fields_text []) at at (sym fields_none) (wrote_none l at); room = h }

  module _ (m : List ℕ) (p i : ℕ) (w : Listing l at ws m p i) (h : i < length ws) where
    far : p + 11 ≤ at + 11 * length ws
    far =
        let a = fields_length (take i ws) in
        let b : length (take i ws) ≤ i = length_take_most i ws in
        let c = w.wrote.place in
        omega arith

    pub listing_room : p + 11 ≤ length m
    listing_room = let a = far in let b = w.wrote.size in let c = w.room in omega arith

    pub listing_step : (k : List ℕ) (q : ℕ) → Wrote m p (fields_text (get_or ws i 0 ∷ [])) k q → Listing l at ws k q (i + 1)
    listing_step k q u =
        let e : fields_text (take i ws) ++ fields_text (get_or ws i 0 ∷ []) ≡ fields_text (take (i + 1) ws) =
        sym (fields_append (take i ws) (get_or ws i 0 ∷ [])) ∙ ap fields_text (sym (rw add-one (take-suc ws i 0 h))) in
        let a = far in
        let b = fields_length (get_or ws i 0 ∷ []) in
        let c = w.wrote.place in
        let r = w.room in
        record {
          wrote =
              wrote_as l k (fields_text (take i ws) ++ fields_text (get_or ws i 0 ∷ [])) (fields_text (take (i + 1) ws)) at q e
              (wrote_then l m k (fields_text (take i ws)) (fields_text (get_or ws i 0 ∷ [])) at p q (omega arith) w.wrote u);
          room = w.room;
        }

  pub listing_end : (m : List ℕ) (p i : ℕ) → Listing l at ws m p i → length ws ≤ i → Wrote l at (fields_text ws) m p
  listing_end m p i w h = wrote_as l m (fields_text (take i ws)) (fields_text ws) at p (ap fields_text (take_all i ws h)) w.wrote

-- ---- two fields

pub two_fields_wrote : (l m o : List ℕ) (at a b p q : ℕ) → at + 22 ≤ length l → Wrote l at (fields_text (a ∷ [])) m p → Wrote m p (fields_text (b ∷ [])) o q
    → Wrote l at (fields_text (a ∷ b ∷ [])) o q
two_fields_wrote l m o at a b p q h u v =
    let f = fields_length (a ∷ []) in
    let g = fields_length (b ∷ []) in
    wrote_as l o (fields_text (a ∷ []) ++ fields_text (b ∷ [])) (fields_text (a ∷ b ∷ [])) at q (sym (fields_append (a ∷ []) (b ∷ [])))
    (wrote_then l m o (fields_text (a ∷ [])) (fields_text (b ∷ [])) at p q (omega arith) u v)

-- ---- the first output line

-- the line START with these numbers stands at the front, if there is room for it
pub record Begun (out numbers after : List ℕ) (p : ℕ) : Type 0 where
  pub is : ((start_room ≤ length out) × Wrote out 0 (line_text start_name numbers) after p) ⊎ ((length out < start_room) × (after ≡ out) × (p ≡ 0))

pub begun_same : (out numbers m n : List ℕ) (p q : ℕ) → Begun out numbers m p → Begun out numbers n q → (m ≡ n) × (p ≡ q)
begun_same out numbers m n p q a b =
    ⊎_elim
    (λ x. ⊎_elim (λ y. wrote_same out 0 (line_text start_name numbers) m n p q x.1 y.1) (λ y. absurd (omega (arith, x.0, y.0))) b.is)
    (λ x. ⊎_elim (λ y. absurd (omega (arith, x.0, y.0))) (λ y. (x.1 ∙ sym y.1, x.2 ∙ sym y.2)) b.is)
    a.is

module _ (out numbers m o : List ℕ) (p : ℕ) (h : 64 ≤ length out) (few : length numbers ≤ 5) (n : Wrote out 0 start_name m 5) (w : Wrote m 5 (fields_text numbers) o p) where
  named : Wrote out 0 (start_name ++ fields_text numbers) o p
  named =
      let f = fields_length numbers in
      wrote_then out m o start_name (fields_text numbers) 0 5 p (omega arith) n w

  pub begun_room : p < length o
  begun_room =
      let f = fields_length numbers in
      let a = w.place in
      let b = w.size in
      let c = n.size in
      omega arith

  pub begun_done : Begun out numbers (set o p 10) (p + 1)
  unfolding line_text
  begun_done =
      let f = fields_length numbers in
      let l = length-append start_name (fields_text numbers) in
      record {
        is = inl (
          h,
          wrote_as out (set o p 10) ((start_name ++ fields_text numbers) ++ (10 ∷ [])) (line_text start_name numbers) 0 (p + 1)
              (append_assoc start_name (fields_text numbers) (10 ∷ []))
              (then_byte out o (start_name ++ fields_text numbers) 0 10 p (omega arith) named),
        );
      }
