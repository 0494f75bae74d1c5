-- Texts that are written one after the other, each of at most so many bytes.
-- Assumes nothing.
use Rattle.std.specs.Prelude.{ℕ, zero, suc, ◌+◌, ◌*◌, ◌≤◌, ◌<◌, ◌≡◌, refl, List, ◌++◌, length}
use Rattle.std.proofs.Math.Path.{sym}
use Rattle.std.proofs.Common.{ap, add-one, mul-suc, mul-le-mul_left, length-append}
use native.Mathlib.Omega.{arith}
use Rattle.put_text.specs.Wrote.{Wrote}
use Rattle.put_text.specs.Laws.Wrote.{wrote_then, wrote_as, wrote_none}
use Rattle.wiring_lines.specs.Line.{each}

pub each_short : (text : ℕ → List ℕ) (most : ℕ) → ((k : ℕ) → length (text k) ≤ most) → (n : ℕ) → length (each n text) ≤ most * n
unfolding each
each_short text most short zero = omega arith
each_short text most short (suc n) =
    omega (arith, length-append (each n text) (text n), each_short text most short n, short n, mul-suc most n)

pub each_same : (n : ℕ) (f g : ℕ → List ℕ) → ((k : ℕ) → k < n → f k ≡ g k) → each n f ≡ each n g
unfolding each
each_same zero f g h = refl
each_same (suc n) f g h = rw (each_same n f g (λ k l. h k (omega arith)), h n (omega arith))

-- the texts of the first i of n numbers are written, and there is room for the others
pub record Telling (text : ℕ → List ℕ) (most n : ℕ) (l : List ℕ) (at : ℕ) (m : List ℕ) (p i : ℕ) : Type 0 where
  pub wrote : Wrote l at (each i text) m p
  pub room : at + most * n ≤ length l
  pub low : i ≤ n

module _ (text : ℕ → List ℕ) (most n : ℕ) (l : List ℕ) (at : ℕ) where
  pub telling_none : at + most * n ≤ length l → Telling text most n l at l at 0
  unfolding each
  telling_none h = record { wrote = wrote_none l at; room = h; low = omega arith }

  module _ (short : (k : ℕ) → length (text k) ≤ most) (m : List ℕ) (p i : ℕ) (w : Telling text most n l at m p i) (h : i < n) where
    far : length (each i text) + most ≤ most * n
    far = omega (arith, each_short text most short i, mul-suc most i, mul-le-mul_left {m = suc i} {n = n} most h)

    pub telling_room : p + most ≤ length m
    telling_room = omega (arith, far, w.room, w.wrote.place, w.wrote.size)

    pub telling_next : (k : List ℕ) (q : ℕ) → Wrote m p (text i) k q → Telling text most n l at k q (i + 1)
    unfolding each
    telling_next k q u =
        let e : each i text ++ text i ≡ each (i + 1) text = sym (ap (λ j. each j text) (add-one i)) in
        record {
          wrote = wrote_as l k (each i text ++ text i) (each (i + 1) text) at q e (wrote_then l m k (each i text) (text i) at p q (omega (arith, far, short i, w.room)) w.wrote u);
          room = w.room;
          low = omega arith;
        }

  pub telling_all : (m : List ℕ) (p i : ℕ) → Telling text most n l at m p i → n ≤ i → Wrote l at (each n text) m p
  telling_all m p i w h = wrote_as l m (each i text) (each n text) at p (ap (λ j. each j text) (omega (arith, w.low))) w.wrote
