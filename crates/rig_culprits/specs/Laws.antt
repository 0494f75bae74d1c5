-- Laws: turns of the search for a culprit.
-- Assumes nothing.
use Rattle.std.specs.Prelude.{ℕ, ◌+◌, ◌≤◌, ◌<◌, ◌≡◌, Bool, cond, List, None, Some, zero, suc, refl}
use Rattle.std.proofs.Common.{arith, le_antisymm, ne_eqb}
use Rattle.std.proofs.Math.ListN.{length}
use Rattle.text.specs.Split.{split, part}
use Rattle.text.specs.Laws.Split.{split_cons}
use Rattle.text.specs.Laws.Parts.{Found, length_part}
use Rattle.rig_shapes.specs.Laws.{one_piece, more_pieces, nothing_left}
use Rattle.rig_suspects.specs.Suspects.{counted}
use Rattle.rig_culprits.specs.Culprits.{Culprit, first_at, found_as}

module _ (s : List ℕ) (at e : ℕ) (w : Found s at (length s) 10 e) where
  -- the first line that a test finds
  pub first_end : (test : ℕ → ℕ → Bool) (n : ℕ) → e ≡ length s → first_at test n at (split 10 (part at (length s) s)) ≡ 0
  unfolding first_at
  first_end test n q = rw (one_piece s at e w q)

  pub first_next : (test : ℕ → ℕ → Bool) (n : ℕ) → e < length s
      → first_at test n at (split 10 (part at (length s) s)) ≡ cond (test at e) n (first_at test (n + 1) (e + 1) (split 10 (part (e + 1) (length s) s)))
  unfolding first_at
  first_next test n h =
      let v = split_cons 10 (part (e + 1) (length s) s) in
      let a = w.low in
      let k : at + length (part at e s) ≡ e = omega (arith, length_part at e s w.high) in
      rw (more_pieces s at e w h, v.2, k)

-- nothing stands at the end of a file
pub first_none : (s : List ℕ) (at : ℕ) (h : at ≤ length s) (k : length s ≤ at) (test : ℕ → ℕ → Bool) (n : ℕ) → first_at test n at (split 10 (part at (length s) s)) ≡ 0
first_none s at h k test n = first_end s at at (nothing_left s at h k) test n (le_antisymm h k)

-- what is found, told with 0 for nothing
abbrev told : ℕ → ℕ → Culprit
told k x = record { what = k; number = x }

pub told_none : (k n : ℕ) → None ≡ counted n → told 0 0 ≡ found_as k n
unfolding counted found_as
told_none k zero h = refl
told_none k (suc n) h = cc

pub told_some : (k n x : ℕ) → Some x ≡ counted n → told k x ≡ found_as k n
unfolding counted found_as
told_some k zero x h = cc
told_some k (suc n) x h =
    let e : x ≡ suc n = cc in
    rw (e, ne_eqb (suc n) 0 (λ z. let y : ⊥ = omega arith in y))
