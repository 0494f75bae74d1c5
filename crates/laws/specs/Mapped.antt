-- A list that is filled place by place with what a function makes of another's elements is that list's image.
use Rattle.std.specs.Prelude.{◌≡◌, List, map, ℕ, ◌+◌, ◌≤◌, ◌<◌, length, get_or, set}
use Rattle.std.proofs.Common.{sym, ◌∙◌, arith, length-set, get_or-set_same, get_or-set_other, ext_get_or}
use Rattle.std.proofs.lemmas.List.{length-map}
use Rattle.std.proofs.Math.ListN.{get_or-map}
use Rattle.laws.specs.Cases.{by_eqb}

module _ {A B : Type 0} (f : A → B) (d : A) (l : List A) where
  -- the first k places are filled
  pub record Mapped (k : ℕ) (out : List B) : Type 0 where
    pub long : length out ≡ length l
    pub done : (i : ℕ) → i < k → get_or out i (f d) ≡ f (get_or l i d)

  pub mapped_none : (out : List B) → length out ≡ length l → Mapped 0 out
  mapped_none out e = record { long = e; done = λ i h. absurd (omega arith) }

  pub mapped_turn : (k : ℕ) (out : List B) → k < length l → Mapped k out → Mapped (k + 1) (set out k (f (get_or l k d)))
  mapped_turn k out h m =
      record {
        long = length-set out k (f (get_or l k d)) ∙ m.long;
        done = λ i g.
            by_eqb i k (λ b. get_or (set out k (f (get_or l k d))) i (f d) ≡ f (get_or l i d))
            (λ e. rw e (get_or-set_same out k (f (get_or l k d)) (f d) (omega (arith, m.long))))
            (λ n. get_or-set_other out k i (f (get_or l k d)) (f d) n ∙ m.done i (omega arith));
      }

  pub mapped_all : (k : ℕ) (out : List B) → length l ≤ k → Mapped k out → out ≡ map f l
  mapped_all k out h m =
      ext_get_or (f d) out (map f l) (m.long ∙ sym (length-map l f))
      (λ i g. m.done i (omega (arith, m.long)) ∙ sym (get_or-map f l i d))
