-- Laws of the definitions of Put.antt.
use Rattle.std.specs.Prelude.{ℕ, ◌+◌, ◌-◌, ◌≤◌, ◌<◌, ◌≡◌, List, [], ◌∷◌, ◌++◌, take, set}
use Rattle.std.proofs.Common.{sym, ◌∙◌, append_assoc, add-one, add_assoc, add-zero, length-append, length-take, length-drop, take-append-drop, take_at, drop-drop, length-take-le}
use Rattle.std.proofs.Math.Path.{ap}
use native.Mathlib.Omega.{arith}
use Rattle.std.proofs.Math.ListN.{length, get_or, drop, get_or-append}
use Rattle.std.proofs.lemmas.List.{set_split}
use Rattle.std.proofs.Math.Seq.{drop-append-add, get_or-append-add, get_or-take, get_or-drop}
use Rattle.laws.specs.Put.{put}

pub put_one : (l : List ℕ) (at b : ℕ) → at < length l → set l at b ≡ put l at (b ∷ [])
unfolding put
put_one l at b h = rw (set_split l at b h, add-one)

pub length_put : (l : List ℕ) (at : ℕ) (vs : List ℕ) → at + length vs ≤ length l → length (put l at vs) ≡ length l
unfolding put
length_put l at vs h = simp (length-append, length-take, length-drop) (omega arith)

pub put_put : (l : List ℕ) (at : ℕ) (a b : List ℕ) → at + length (a ++ b) ≤ length l → put (put l at a) (at + length a) b ≡ put l at (a ++ b)
unfolding put
put_put l at a b h =
    let g : at + (length a + length b) ≤ length l = rw length-append at h in
    let e : length (take at l ++ a) ≡ at + length a = simp (length-append, length-take) (omega arith) in
    let t : take (at + length a) ((take at l ++ a) ++ drop (at + length a) l) ≡ take at l ++ a = take_at _ _ _ e in
    let d : drop (at + length a + length b) ((take at l ++ a) ++ drop (at + length a) l) ≡ drop (at + length (a ++ b)) l =
    rw (← e, drop-append-add, e, drop-drop, length-append, add_assoc) in
    rw (← append_assoc (take at l) a (drop (at + length a) l), t, d, append_assoc, append_assoc a b)

pub put_none : (l : List ℕ) (at : ℕ) → put l at [] ≡ l
unfolding put
put_none l at = ap (λ (n : ℕ). take at l ++ drop n l) (add-zero at) ∙ take-append-drop at l

-- ---- what is read where: what was put, and what was there

module _ (l : List ℕ) (at : ℕ) (vs : List ℕ) (h : at + length vs ≤ length l) where
  front : length (take at l) ≡ at
  front = length-take-le at l (omega arith)

  pub put_inside : (i : ℕ) → i < length vs → get_or (put l at vs) (at + i) 0 ≡ get_or vs i 0
  unfolding put
  put_inside i b =
      ap (λ (n : ℕ). get_or (take at l ++ (vs ++ drop (at + length vs) l)) (n + i) 0) (sym front)
      ∙ get_or-append-add (take at l) (vs ++ drop (at + length vs) l) i 0
      ∙ get_or-append vs (drop (at + length vs) l) 0 i b

  pub put_before : (j : ℕ) → j < at → get_or (put l at vs) j 0 ≡ get_or l j 0
  unfolding put
  put_before j b =
      get_or-append (take at l) (vs ++ drop (at + length vs) l) 0 j (omega (arith, front)) ∙ get_or-take at l j 0 b

  pub put_behind : (j : ℕ) → at + length vs ≤ j → get_or (put l at vs) j 0 ≡ get_or l j 0
  unfolding put
  put_behind j b =
      let n = j - (at + length vs) in
      let e : j ≡ at + (length vs + n) = omega arith in
      ap (λ (k : ℕ). get_or (take at l ++ (vs ++ drop (at + length vs) l)) k 0) (e ∙ ap (λ (k : ℕ). k + (length vs + n)) (sym front))
      ∙ get_or-append-add (take at l) (vs ++ drop (at + length vs) l) (length vs + n) 0
      ∙ get_or-append-add vs (drop (at + length vs) l) n 0
      ∙ get_or-drop (at + length vs) l n 0
      ∙ ap (λ (k : ℕ). get_or l k 0) (omega arith)
