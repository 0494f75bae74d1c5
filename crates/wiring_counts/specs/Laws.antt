-- The table is filled cycle after cycle; the command words of a cycle are counted one after the other.
-- Assumes nothing.
use Rattle.std.specs.Prelude.{◌≡◌, refl, ◌≢◌, List, ℕ, suc, ◌+◌, ◌*◌, ◌/◌, ◌≤◌, ◌<◌, eqb, length, get_or, take, drop, set, replicate}
use Rattle.std.proofs.Math.Path.{ap}
use Rattle.std.proofs.Common.{◌∙◌, add-one, length-set, length-append, drop_of_length-le, drop-cons, get_or-set_same, get_or-set_other, eqb-true}
use native.Mathlib.Omega.{arith}
use Rattle.std.proofs.lemmas.List.{length-replicate}
use Rattle.std.proofs.Math.Seq.{take-append_seam}
use Rattle.std.proofs.lemmas.Bool.{eqb-false}
use Rattle.laws.specs.Bits.{bit}
use Rattle.laws.specs.Cases.{by}
use Rattle.laws.specs.Put.{put}
use Rattle.laws.specs.Tables.{at, total, sum}
use Rattle.laws.specs.Laws.Sums.{sum_same, sum_next}
use Rattle.word_parts.specs.Packed.{past_eleven}
use Rattle.rules.specs.Sizes.{minor_cycles}
use Rattle.rules.specs.Frame.{a_frame, commands_to}
use Rattle.wiring_counts.specs.Cycles.{InCycles}

module _ (f : ℕ → ℕ) where
  pub cycles_none : InCycles f 0 (replicate minor_cycles 0)
  cycles_none = record { long = length-replicate {A = ℕ} minor_cycles 0; each = λ c h. absurd (omega arith) }

  pub cycles_next : (i v : ℕ) (l : List ℕ) → i < minor_cycles → InCycles f i l → v ≡ f i → InCycles f (i + 1) (set l i v)
  cycles_next i v l h w e =
      record {
        long = length-set l i v ∙ w.long;
        each = λ c b.
            by (eqb c i)
            (λ t. let q : c ≡ i = eqb-true c i t in rw q (get_or-set_same l i v 0 (omega (arith, w.long)) ∙ e))
            (λ t. let n : c ≢ i = eqb-false c i t in get_or-set_other l i c v 0 n ∙ w.each c (omega arith));
      }

  pub cycles_all : (i : ℕ) (l : List ℕ) → InCycles f i l → i ≡ minor_cycles → InCycles f minor_cycles l
  cycles_all i l w e = record { long = w.long; each = λ c h. w.each c (omega (arith, e)) }

  -- what the table has together is what the frame has
  pub frame_is : (l : List ℕ) → InCycles f minor_cycles l → a_frame (at l) ≡ a_frame f
  frame_is l w = sum_same minor_cycles (at l) f w.each

-- what the first i cycles have together, and how large that can be
pub record Summed (l : List ℕ) (s i : ℕ) : Type 0 where
  pub is : s ≡ sum i (at l)
  pub small : s ≤ 255 * i

module _ (l : List ℕ) where
  pub summed_none : Summed l 0 0
  unfolding sum
  summed_none = record { is = refl; small = omega arith }

  pub summed_next : (s i v : ℕ) → Summed l s i → v ≡ get_or l i 0 → v < 256 → Summed l (s + v) (i + 1)
  summed_next s i v w e h = record { is = omega (arith, w.is, sum_next i (at l), e); small = omega (arith, w.small) }

  pub summed_all : (s i : ℕ) → Summed l s i → i ≡ minor_cycles → s ≡ a_frame (at l)
  summed_all s i w e = w.is ∙ ap (λ n. sum n (at l)) e

-- ---- the words of a cycle

module _ (address : ℕ) (words : List ℕ) where
  -- what is counted, and what is left, come to the whole
  abbrev pub Counted : ℕ → ℕ → Type 0
  Counted n i = n + commands_to address (drop i words) ≡ commands_to address words

  pub counted_none : Counted 0 0
  counted_none = omega arith

  pub counted_next : (n i : ℕ) → i < length words → Counted n i → Counted (n + bit (eqb (get_or words i 0 / past_eleven) address)) (i + 1)
  unfolding commands_to total
  counted_next n i h w =
      let e = ap (commands_to address) (drop-cons words i 0 h) in
      let k : commands_to address (drop (i + 1) words) ≡ commands_to address (drop (suc i) words) = ap (λ m. commands_to address (drop m words)) (add-one i) in
      omega (arith, w, e, k)

  pub counted_all : (n i : ℕ) → length words ≤ i → Counted n i → n ≡ commands_to address words
  unfolding commands_to total
  counted_all n i h w =
      let e = ap (commands_to address) (drop_of_length-le words h) in
      omega (arith, w, e)

-- words that were put in front of a buffer are its first
pub in_front : (l words m : List ℕ) (n : ℕ) → n ≡ length words → m ≡ put l 0 words → (n ≤ length m) × (take n m ≡ words)
unfolding put
in_front l words m n e p = (
  omega (arith, e, ap length p, length-append words (drop (0 + length words) l)),
  ap (λ k. take k m) e ∙ ap (take (length words)) p ∙ take-append_seam words (drop (0 + length words) l),
)
