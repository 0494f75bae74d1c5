-- What one line more does to a table and to a list of what the lines say.
-- Assumes nothing.
use Prim.Native.Nat.{ℕ, zero, suc, ◌+◌, ◌≤◌, ◌<◌}
use Rattle.std.specs.Prelude.{◌≡◌, Bool, cond, length, get_or, set, ltb}
use Rattle.std.proofs.Math.Path.{refl}
use Rattle.std.proofs.Common.{ap, ◌∙◌, length-append, get_or-append-add, ltb-true, ltb-false}
use mathlib.Core.List.{List, [], ◌∷◌, ◌++◌}
use native.Mathlib.Omega.{arith}
use Rattle.std.proofs.Math.ListN.{length-set, get_or-append}
use Rattle.laws.specs.Cases.{by}
use Rattle.rig_lines.specs.Line.{Line}
use Rattle.rig_lines.specs.Whole.{how_many}
use Rattle.rig_fill.specs.OfLines.{stored, listed, places}

pub stored_none : (meant : Line → Bool) (at says : Line → ℕ) (l : List ℕ) → stored meant at says l [] ≡ l
unfolding stored
stored_none meant at says l = refl

pub stored_snoc : (meant : Line → Bool) (at says : Line → ℕ) (l : List ℕ) (rs : List Line) (r : Line) →
    stored meant at says l (rs ++ (r ∷ [])) ≡ cond (meant r) (set (stored meant at says l rs) (at r) (says r)) (stored meant at says l rs)
unfolding stored
stored_snoc meant at says l [] r = refl
stored_snoc meant at says l (q ∷ rs) r = stored_snoc meant at says (cond (meant q) (set l (at q) (says q)) l) rs r

pub stored_length : (meant : Line → Bool) (at says : Line → ℕ) (l : List ℕ) (rs : List Line) → length (stored meant at says l rs) ≡ length l
unfolding stored
stored_length meant at says l [] = refl
stored_length meant at says l (r ∷ rs) =
    stored_length meant at says (cond (meant r) (set l (at r) (says r)) l) rs ∙ by (meant r) (λ e. rw e (length-set l (at r) (says r))) (λ e. rw e)

module _ {A : Type 0} (meant : Line → Bool) (says : Line → A) where
  pub listed_none : (i : ℕ) (l : List A) → listed meant says i l [] ≡ l
  unfolding listed
  listed_none i l = refl

  pub listed_snoc : (i : ℕ) (l : List A) (rs : List Line) (r : Line) →
      listed meant says i l (rs ++ (r ∷ [])) ≡ cond (meant r) (set (listed meant says i l rs) (i + how_many meant rs) (says r)) (listed meant says i l rs)
  unfolding listed how_many
  listed_snoc i l [] r = let e : i + 0 ≡ i = omega arith in rw e
  listed_snoc i l (q ∷ rs) r =
      by (meant q)
      (λ t. let e : i + suc (how_many meant rs) ≡ (i + 1) + how_many meant rs = omega arith in rw (t, e) (listed_snoc (i + 1) (set l i (says q)) rs r))
      (λ t. rw t (listed_snoc i l rs r))

  pub listed_length : (i : ℕ) (l : List A) (rs : List Line) → length (listed meant says i l rs) ≡ length l
  unfolding listed
  listed_length i l [] = refl
  listed_length i l (r ∷ rs) =
      by (meant r)
      (λ t. rw t (listed_length (i + 1) (set l i (says r)) rs ∙ length-set l i (says r)))
      (λ t. rw t (listed_length i l rs))

-- a store behind the end changes nothing
pub set_past : {A : Type 0} (l : List A) (i : ℕ) (x : A) → length l ≤ i → set l i x ≡ l
set_past [] i x h = refl
set_past (y ∷ l) zero x h = absurd (omega arith)
set_past (y ∷ l) (suc i) x h = ap (λ m. y ∷ m) (set_past l i x (omega arith))

-- ---- places

pub places_length : {A : Type 0} (n : ℕ) (f : ℕ → A) → length (places n f) ≡ n
unfolding places
places_length zero f = refl
places_length (suc n) f = length-append (places n f) (f n ∷ []) ∙ (ap (λ (k : ℕ). k + 1) (places_length n f) ∙ omega arith)

pub places_at : {A : Type 0} (n : ℕ) (f : ℕ → A) (i : ℕ) (d : A) → i < n → get_or (places n f) i d ≡ f i
unfolding places
places_at zero f i d h = absurd (omega arith)
places_at (suc n) f i d h =
    by (ltb i n)
    (λ t. let g = ltb-true i n t in get_or-append (places n f) (f n ∷ []) d i (omega (arith, places_length n f)) ∙ places_at n f i d g)
    (λ t. let g = ltb-false i n t in
    let e : i ≡ length (places n f) + 0 = omega (arith, places_length n f) in
    let k : n ≡ i = omega arith in
    ap (λ (j : ℕ). get_or (places n f ++ (f n ∷ [])) j d) e ∙ (get_or-append-add (places n f) (f n ∷ []) 0 d ∙ ap f k))
