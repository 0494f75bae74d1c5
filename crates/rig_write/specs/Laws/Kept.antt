-- Lines by number, as a loop writes them: one law for every kind's loop.
-- Assumes nothing.
use Rattle.std.specs.Prelude.{ℕ, zero, suc, ◌+◌, ◌-◌, ◌≤◌, ◌<◌, ◌≡◌, Bool, true, false, length}
use Rattle.std.proofs.Math.Path.{refl}
use Rattle.std.proofs.Common.{sym, ap, ◌∙◌, arith, add-one, length-append}
use mathlib.Core.List.{List, [], ◌∷◌, ◌++◌, append_assoc, append-nil}
use Rattle.put_text.specs.Wrote.{Wrote}
use Rattle.put_text.specs.Laws.Wrote.{wrote_as, wrote_none, wrote_then}
use Rattle.rig_lines.specs.Line.{Line}
use Rattle.rig_lines.specs.Text.{text}
use Rattle.rig_write.specs.Kept.{kept, ended}

pub text_append : (a b : List Line) → text (a ++ b) ≡ text a ++ text b
unfolding text
text_append [] b = refl
text_append (r ∷ rs) b = rw (text_append rs b, append_assoc)

pub text_one : (r : Line) → text (r ∷ []) ≡ ended r
unfolding text
text_one r = refl

pub kept_yes : (i : ℕ) (p : ℕ → Bool) (f : ℕ → Line) → p i ≡ true → text (kept (i + 1) p f) ≡ text (kept i p f) ++ ended (f i)
unfolding kept
kept_yes i p f e = rw (add-one, e, text_append, text_one)

pub kept_no : (i : ℕ) (p : ℕ → Bool) (f : ℕ → Line) → p i ≡ false → text (kept (i + 1) p f) ≡ text (kept i p f)
unfolding kept
kept_no i p f e = rw (add-one, e, append-nil)

kept_le : (d i : ℕ) (p : ℕ → Bool) (f : ℕ → Line) → length (text (kept i p f)) ≤ length (text (kept (d + i) p f))
unfolding kept
kept_le zero i p f = let z : 0 + i ≡ i = omega arith in rw z (omega arith)
kept_le (suc d) i p f =
    let z : suc d + i ≡ suc (d + i) = omega arith in
    rw (z, text_append) (simp length-append (omega (arith, kept_le d i p f)))

pub kept_within : (i n : ℕ) (p : ℕ → Bool) (f : ℕ → Line) → i ≤ n → length (text (kept i p f)) ≤ length (text (kept n p f))
kept_within i n p f h = let e : (n - i) + i ≡ n = omega arith in rw e at (kept_le (n - i) i p f)

-- what a loop that writes them keeps
pub record InKept (b₀ b : List ℕ) (at n : ℕ) (p : ℕ → Bool) (f : ℕ → Line) (q i : ℕ) : Type 0 where
  pub few : i ≤ n
  pub wrote : Wrote b₀ at (text (kept i p f)) b q
  pub room : at + length (text (kept n p f)) ≤ length b₀

pub kept_start : (b₀ : List ℕ) (at n : ℕ) (p : ℕ → Bool) (f : ℕ → Line) → at + length (text (kept n p f)) ≤ length b₀ → InKept b₀ b₀ at n p f at 0
kept_start b₀ at n p f r =
    let z : [] ≡ text (kept 0 p f) = unfold kept text in refl in
    record { few = omega arith; wrote = wrote_as b₀ b₀ [] (text (kept 0 p f)) at at z (wrote_none b₀ at); room = r }

module _ (b₀ b : List ℕ) (at n : ℕ) (p : ℕ → Bool) (f : ℕ → Line) (q i : ℕ) (w : InKept b₀ b at n p f q i) where
  pub kept_end : n ≤ i → Wrote b₀ at (text (kept n p f)) b q
  kept_end h =
      let e : i ≡ n = let a = w.few in omega arith in
      wrote_as b₀ b (text (kept i p f)) (text (kept n p f)) at q (ap (λ (j : ℕ). text (kept j p f)) e) w.wrote

  -- a line that is left out
  pub kept_skip : i < n → p i ≡ false → InKept b₀ b at n p f q (i + 1)
  kept_skip h e =
      record {
        few = omega arith;
        wrote = wrote_as b₀ b (text (kept i p f)) (text (kept (i + 1) p f)) at q (sym (kept_no i p f e)) w.wrote;
        room = w.room;
      }

-- the line of number i is to be written, by its text l: there is room for it, and behind it the loop goes on
pub record Due (b₀ b : List ℕ) (at n : ℕ) (p : ℕ → Bool) (f : ℕ → Line) (q i : ℕ) : Type 0 where
  pub room : (l : List ℕ) → l ≡ ended (f i) → q + length l ≤ length b
  pub on : (l : List ℕ) → l ≡ ended (f i) → (c : List ℕ) (r : ℕ) → Wrote b q l c r → InKept b₀ c at n p f r (i + 1)

module _ (b₀ b : List ℕ) (at n : ℕ) (p : ℕ → Bool) (f : ℕ → Line) (q i : ℕ) (w : InKept b₀ b at n p f q i) (h : i < n) (e : p i ≡ true) where
  module _ (l : List ℕ) (d : l ≡ ended (f i)) where
    grown : text (kept i p f) ++ l ≡ text (kept (i + 1) p f)
    grown = ap (λ (t : List ℕ). text (kept i p f) ++ t) d ∙ sym (kept_yes i p f e)

    longer : length (text (kept i p f)) + length l ≤ length (text (kept n p f))
    longer =
        let j = length-append (text (kept i p f)) l in
        let g = ap length grown in
        let k = kept_within (i + 1) n p f (omega arith) in
        omega arith

    line_room_lem : q + length l ≤ length b
    line_room_lem = let j = longer in let r = w.wrote.place in let s = w.room in let t = w.wrote.size in omega arith

    line_on : (c : List ℕ) (r : ℕ) → Wrote b q l c r → InKept b₀ c at n p f r (i + 1)
    line_on c r u =
        let j = longer in
        let s = w.room in
        record {
          few = omega arith;
          wrote =
              wrote_as b₀ c (text (kept i p f) ++ l) (text (kept (i + 1) p f)) at r grown
              (wrote_then b₀ b c (text (kept i p f)) l at q r (omega arith) w.wrote u);
          room = w.room;
        }

  pub kept_due : Due b₀ b at n p f q i
  kept_due = record { room = line_room_lem; on = line_on }
