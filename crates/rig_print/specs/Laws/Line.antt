-- How a line is written, field after field.
-- Assumes nothing.
use Rattle.std.specs.Prelude.{ℕ, suc, ◌+◌, ◌-◌, ◌≤◌, ◌<◌, ◌≡◌, length, get_or, take, set}
use Rattle.std.proofs.Math.Path.{refl}
use Rattle.std.proofs.Common.{sym, ap, arith, add-one, length-append, length-set, take-suc, take-add}
use mathlib.Core.List.{List, [], ◌∷◌, ◌++◌, map-append, append-nil}
use Rattle.put_text.specs.Wrote.{Wrote}
use Rattle.put_text.specs.Laws.Wrote.{wrote_as, wrote_none, wrote_then, byte_wrote, byte_then, then_byte}
use Rattle.decimal.specs.Decimal.{dec}
use Rattle.text.specs.Split.{led}
use Rattle.text.specs.Laws.Split.{led_append}
use Rattle.rig_lines.specs.Kinds.{count_of, name_of}
use Rattle.rig_lines.specs.Text.{line_bytes}
use Rattle.rig_print.specs.Line.{begun, line_text}

pub line_is : (k : ℕ) (v : List ℕ) → line_text k v ≡ line_bytes (record { kind = k; nums = take (count_of k) v }) ++ (10 ∷ [])
unfolding line_text begun line_bytes
line_is k v = refl

begun_more : (v : List ℕ) (f : ℕ) → f < length v → begun v f ++ (9 ∷ dec (get_or v f 0)) ≡ begun v (f + 1)
unfolding begun
begun_more v f h = rw (add-one, take-suc v f 0 h, map-append, led_append) (unfold led in rw append-nil)

begun_le : (v : List ℕ) (f m : ℕ) → f ≤ m → length (begun v f) ≤ length (begun v m)
unfolding begun
begun_le v f m h =
    let e : m ≡ f + (m - f) = omega arith in
    rw (e, take-add, map-append, led_append) (simp length-append (omega arith))

-- what the loop over fields keeps
pub record InFields (b₀ b : List ℕ) (at m : ℕ) (v : List ℕ) (p f : ℕ) : Type 0 where
  pub few : f ≤ m
  pub nine : m ≤ length v
  pub wrote : Wrote b₀ at (begun v f) b p
  pub room : at + length (begun v m) ≤ length b₀

pub fields_start : (b₀ : List ℕ) (at m : ℕ) (v : List ℕ) → m ≤ length v → at + length (begun v m) ≤ length b₀ → InFields b₀ b₀ at m v at 0
fields_start b₀ at m v a r =
    let n : [] ≡ begun v 0 = unfold begun led in refl in
    record { few = omega arith; nine = a; wrote = wrote_as b₀ b₀ [] (begun v 0) at at n (wrote_none b₀ at); room = r }

module _ (b₀ b : List ℕ) (at m : ℕ) (v : List ℕ) (p f : ℕ) (w : InFields b₀ b at m v p f) where
  pub fields_end : m ≤ f → Wrote b₀ at (begun v m) b p
  fields_end h =
      let e : f ≡ m = let a = w.few in omega arith in
      wrote_as b₀ b (begun v f) (begun v m) at p (ap (begun v) e) w.wrote

  module _ (h : f < m) where
    grown : begun v f ++ (9 ∷ dec (get_or v f 0)) ≡ begun v (f + 1)
    grown = begun_more v f (let a = w.nine in omega arith)

    longer : length (begun v f) + suc (length (dec (get_or v f 0))) ≤ length (begun v m)
    longer =
        let a = length-append (begun v f) (9 ∷ dec (get_or v f 0)) in
        let e = ap length grown in
        let l = begun_le v (f + 1) m (omega arith) in
        omega arith

    pub field_room : (p < length b) × ((p + 1) + length (dec (get_or v f 0)) ≤ length (set b p 9))
    field_room =
        let j = longer in
        let r = w.wrote.place in let s = w.room in let t = w.wrote.size in let u = length-set b p 9 in
        (omega arith, omega arith)

    pub fields_turn : (c : List ℕ) (r : ℕ) → Wrote (set b p 9) (p + 1) (dec (get_or v f 0)) c r → InFields b₀ c at m v r (f + 1)
    fields_turn c r u =
        let j = longer in
        let s = w.room in
        let d = field_room in
        let z = length-set b p 9 in
        record {
          few = omega arith;
          nine = w.nine;
          wrote =
              wrote_as b₀ c (begun v f ++ (9 ∷ dec (get_or v f 0))) (begun v (f + 1)) at r grown
              (wrote_then b₀ b c (begun v f) (9 ∷ dec (get_or v f 0)) at p r (omega arith) w.wrote
              (byte_then b c (dec (get_or v f 0)) p 9 r (omega arith) u));
          room = w.room;
        }

-- a name, then numbers, then LF
module _ (b : List ℕ) (at k : ℕ) (v : List ℕ) (m : ℕ) (e : m ≡ count_of k) (h : at + length (line_text k v) ≤ length b) where
  whole : (name_of k ++ begun v m) ++ (10 ∷ []) ≡ line_text k v
  unfolding line_text
  whole = rw e

  total : length (name_of k) + length (begun v m) + 1 ≡ length (line_text k v)
  total =
      let a = length-append (name_of k ++ begun v m) (10 ∷ []) in
      let c = length-append (name_of k) (begun v m) in
      let w = ap length whole in
      omega arith

  pub name_room : at + length (name_of k) ≤ length b
  name_room = let t = total in omega arith

  module _ (b₁ : List ℕ) (p : ℕ) (u : Wrote b at (name_of k) b₁ p) where
    pub fields_room : p + length (begun v m) ≤ length b₁
    fields_room = let i = total in let s = u.size in let q = u.place in omega arith

    module _ (b₂ : List ℕ) (q : ℕ) (w : Wrote b₁ p (begun v m) b₂ q) where
      pub end_room : q < length b₂
      end_room = let i = total in let s = u.size in let d = u.place in let t = w.size in let f = w.place in omega arith

      pub line_wrote : Wrote b at (line_text k v) (set b₂ q 10) (q + 1)
      line_wrote =
          let i = total in
          let j = length-append (name_of k) (begun v m) in
          wrote_as b (set b₂ q 10) ((name_of k ++ begun v m) ++ (10 ∷ [])) (line_text k v) at (q + 1) whole
          (then_byte b b₂ (name_of k ++ begun v m) at 10 q (omega arith)
          (wrote_then b b₁ b₂ (name_of k) (begun v m) at p q (omega arith) u w))

-- the name RIG
pub name_one : (k : ℕ) → k ≡ 1 → 82 ∷ 73 ∷ 71 ∷ [] ≡ name_of k
unfolding name_of
name_one k e = rw e

pub name_three_room : (l : List ℕ) (at k : ℕ) → k ≡ 1 → at + length (name_of k) ≤ length l → at + 3 ≤ length l
name_three_room l at k e h = let n : 3 ≡ length (name_of k) = ap length (name_one k e) in omega arith

pub name_three : (l m : List ℕ) (at k p : ℕ) → k ≡ 1 → Wrote l at (82 ∷ 73 ∷ 71 ∷ []) m p → Wrote l at (name_of k) m p
name_three l m at k p e w = wrote_as l m (82 ∷ 73 ∷ 71 ∷ []) (name_of k) at p (name_one k e) w

-- a name of one letter is written
pub name_letter : (l : List ℕ) (at k b : ℕ) → name_of k ≡ b ∷ [] → at + length (name_of k) ≤ length l → (at < length l) × Wrote l at (name_of k) (set l at b) (at + 1)
name_letter l at k b e h =
    let n : length (name_of k) ≡ 1 = ap length e in
    (omega arith, wrote_as l (set l at b) (b ∷ []) (name_of k) at (at + 1) (sym e) (byte_wrote l at b (omega arith)))
