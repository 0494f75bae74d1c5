-- Copies, word by word.
use Rattle.std.specs.Prelude.{◌≡◌, refl, ◌≢◌, List, [], ◌∷◌, ◌++◌, ℕ, ◌+◌, ◌<◌, ◌≤◌, eqb, length, get_or, take, drop, set}
use Rattle.std.proofs.Common.{sym, ◌∙◌, ap, append_assoc, arith, add-one, length-set, length-take, length-drop, get_or-set_same, get_or-set_other, ext_get_or, get_or-take, get_or-drop, eqb-true}
use Rattle.std.proofs.Math.Seq.{paste, paste-suc, take-length}
use Rattle.std.proofs.lemmas.Bool.{eqb-false}
use Rattle.laws.specs.Cases.{by}
use Rattle.laws.specs.Put.{put}
use Rattle.laws.specs.Laws.Put.{put_one, put_put, length_put}

pub record Copied (area : List ℕ) (start : ℕ) (out₀ out : List ℕ) (i : ℕ) : Type 0 where
  pub long : length out ≡ length out₀
  pub same : (k : ℕ) → k < i → get_or out k 0 ≡ get_or area (start + k) 0

module _ (area : List ℕ) (start : ℕ) (out₀ : List ℕ) where
  pub copied_start : Copied area start out₀ out₀ 0
  copied_start = record { long = refl; same = λ k h. absurd (omega arith) }

  pub copied_step : (out : List ℕ) (i : ℕ) → i < length out → Copied area start out₀ out i
      → Copied area start out₀ (set out i (get_or area (start + i) 0)) (i + 1)
  copied_step out i l h =
      record {
        long = length-set out i _ ∙ h.long;
        same = λ k b.
            by (eqb k i)
            (λ e. let q : k ≡ i = eqb-true k i e in rw q (get_or-set_same out i (get_or area (start + i) 0) 0 l))
            (λ e.
            let n : k ≢ i = eqb-false k i e in
            get_or-set_other out i k (get_or area (start + i) 0) 0 n ∙ h.same k (omega arith));
      }

  pub copied_done : (out : List ℕ) → start + length out₀ ≤ length area → Copied area start out₀ out (length out₀) → out ≡ take (length out₀) (drop start area)
  copied_done out b h =
      ext_get_or 0 out (take (length out₀) (drop start area))
      (h.long ∙ sym (length_part (length out₀) start area b))
      (λ k l.
      let m : k < length out₀ = omega (arith, h.long) in
      h.same k m ∙ sym (get_or-take (length out₀) (drop start area) k 0 m ∙ get_or-drop start area k 0))
    where
      length_part : (n s : ℕ) (l : List ℕ) → s + n ≤ length l → length (take n (drop s l)) ≡ n
      length_part n s l h = simp (length-take, length-drop) (omega arith)

-- the first n words stand in the area
pub pasted_next : (area : List ℕ) (start : ℕ) (words l : List ℕ) (i : ℕ) → start + i < length area → i < length words
    → l ≡ paste area start words i → set l (start + i) (get_or words i 0) ≡ paste area start words (i + 1)
pasted_next area start words l i a b e =
    ap (λ (x : List ℕ). set x (start + i) (get_or words i 0)) e ∙ paste-suc area start words i 0 a b
    ∙ ap (paste area start words) (sym (add-one i))

pub pasted_done : (area : List ℕ) (start : ℕ) (words : List ℕ) → paste area start words (length words) ≡ put area start words
unfolding put
pasted_done area start words =
    ap (λ (x : List ℕ). take start area ++ x ++ drop (start + length words) area) (take-length words) ∙ append_assoc (take start area) words _

-- the tag, and then the data
pub tagged : (area : List ℕ) (b tag : ℕ) (words : List ℕ) → b + 1 + length words ≤ length area
    → put (set area b tag) (b + 1) words ≡ put area b (tag ∷ words)
tagged area b tag words h =
    ap (λ (l : List ℕ). put l (b + 1) words) (put_one area b tag (omega arith)) ∙ put_put area b (tag ∷ []) words (omega arith)

pub tagged_length : (area : List ℕ) (b tag : ℕ) (words : List ℕ) → b + 1 + length words ≤ length area
    → length (put (set area b tag) (b + 1) words) ≡ length area
tagged_length area b tag words h = length_put (set area b tag) (b + 1) words (rw length-set h) ∙ length-set area b tag
