-- Laws: the search for the line RUN, line after line.
use Rattle.std.specs.Prelude.{ℕ, ◌+◌, ◌-◌, ◌≤◌, ◌<◌, ◌≡◌, refl, Bool, true, false, ◌⊎◌, eqb, get_or}
use Rattle.std.proofs.Common.{sym, ◌∙◌, inl, inr, le_antisymm, arith, length-append, eq-eqb}
use Rattle.std.proofs.Math.Path.{ap}
use Rattle.std.proofs.Math.Bool.{cond}
use mathlib.Core.List.{List, [], ◌∷◌, ◌++◌}
use Rattle.std.proofs.Math.ListN.{length}
use Rattle.laws.specs.Cases.{by, if_yes, if_no}
use Rattle.text.specs.Split.{split, part, rest, join, led}
use Rattle.text.specs.Laws.Split.{split_cons, join_split}
use Rattle.text.specs.Laws.Parts.{Found, part_all, part_none, piece, rest_none, rest_next, length_part}
use Rattle.bench_script.specs.Input.{is_run, before_run, rig_end}

-- from place i on, what is left answers what the whole does
abbrev pub Left : List ℕ → ℕ → Type 0
Left s i = i + before_run (split 10 (part i (length s) s)) ≡ rig_end s

pub left_start : (s : List ℕ) → Left s 0
unfolding rig_end
left_start s =
    let e : before_run (split 10 (part 0 (length s) s)) ≡ before_run (split 10 s) = ap (λ (l : List ℕ). before_run (split 10 l)) (part_all s) in
    omega (arith, e)

module _ (s : List ℕ) (i : ℕ) (h : i ≤ length s) (l : Left s i) (e : ℕ) (f : Found s i (length s) 10 e) where
  -- the last piece
  pub left_last : e ≡ length s → length s ≡ rig_end s
  unfolding before_run
  left_last q =
      let p : split 10 (part i (length s) s) ≡ part i e s ∷ rest 10 (part e (length s) s) = piece s i (length s) 10 e (omega arith) f in
      let z : rest 10 (part e (length s) s) ≡ [] = rw q (rest_none 10 (length s) s) in
      let b : before_run (split 10 (part i (length s) s)) ≡ length (part i e s) =
      ap before_run (p ∙ ap (λ (ps : List (List ℕ)). part i e s ∷ ps) z) in
      let n = length_part i e s f.high in
      let a = f.low in
      omega (arith, l, b, n, q)

  module _ (k : e < length s) where
    found : (ps : List (List ℕ)) × (q : List ℕ) × (split 10 (part (e + 1) (length s) s) ≡ q ∷ ps)
    found = let w = split_cons 10 (part (e + 1) (length s) s) in (w.1, w.0, w.2)

    pieces : split 10 (part i (length s) s) ≡ part i e s ∷ split 10 (part (e + 1) (length s) s)
    pieces = piece s i (length s) 10 e (omega arith) f ∙ ap (λ (ps : List (List ℕ)). part i e s ∷ ps) (rest_next 10 e (length s) s k (omega arith))

    step : before_run (split 10 (part i (length s) s))
        ≡ cond (is_run (part i e s)) 0 (length (part i e s) + 1 + before_run (split 10 (part (e + 1) (length s) s)))
    unfolding before_run
    step =
        let w = found in
        ap before_run (pieces ∙ ap (λ (ps : List (List ℕ)). part i e s ∷ ps) w.2)
        ∙ ap (λ (ps : List (List ℕ)). cond (is_run (part i e s)) 0 (length (part i e s) + 1 + before_run ps)) (sym w.2)

    -- the line is RUN
    pub left_run : is_run (part i e s) ≡ true → i ≡ rig_end s
    left_run t =
        let b : before_run (split 10 (part i (length s) s)) ≡ 0 = step ∙ if_yes _ t refl in
        omega (arith, l, b)

    -- it is not, and the search goes on behind its LF
    pub left_next : is_run (part i e s) ≡ false → Left s (e + 1)
    left_next t =
        let b : before_run (split 10 (part i (length s) s)) ≡ length (part i e s) + 1 + before_run (split 10 (part (e + 1) (length s) s)) =
        step ∙ if_no 0 t refl in
        let n = length_part i e s f.high in
        let a = f.low in
        omega (arith, l, b, n)

-- nothing is left
pub left_none : (s : List ℕ) (i : ℕ) → i ≤ length s → length s ≤ i → Left s i → length s ≡ rig_end s
unfolding before_run split
left_none s i h k l =
    let q : i ≡ length s = le_antisymm h k in
    let p : part i (length s) s ≡ [] = rw q (part_none (length s) s) in
    let b : before_run (split 10 (part i (length s) s)) ≡ 0 = ap (λ (t : List ℕ). before_run (split 10 t)) p in
    omega (arith, l, b, q)

-- one letter that is not RUN's
pub not_run : (line : List ℕ) (b : Bool) → b ≡ false
    → (b ≡ eqb (length line) 3) ⊎ ((b ≡ eqb (get_or line 0 0) 82) ⊎ (b ≡ eqb (get_or line 1 0) 85)) → false ≡ is_run line
unfolding is_run
not_run line b e (inl q) = rw (sym q ∙ e)
not_run line b e (inr (inl q)) = by (eqb (length line) 3) (λ t. rw (t, sym q ∙ e)) (λ t. rw t)
not_run line b e (inr (inr q)) =
    by (eqb (length line) 3) (λ t. by (eqb (get_or line 0 0) 82) (λ u. rw (t, u, sym q ∙ e)) (λ u. rw (t, u))) (λ t. rw t)

pub last_letter : (line : List ℕ) → length line ≡ 3 → get_or line 0 0 ≡ 82 → get_or line 1 0 ≡ 85 → eqb (get_or line 2 0) 78 ≡ is_run line
unfolding is_run
last_letter line a b c = rw (eq-eqb (length line) 3 a, eq-eqb (get_or line 0 0) 82 b, eq-eqb (get_or line 1 0) 85 c)

-- ---- the rig is a part of the input

before_le : (ps : List (List ℕ)) → before_run ps ≤ length (join 10 ps)
unfolding before_run join led
before_le [] = omega arith
before_le (p ∷ []) = let e = length-append p [] in omega arith
before_le (p ∷ q ∷ ps) =
    let e = length-append p (10 ∷ (q ++ led 10 ps)) in
    let h = before_le (q ∷ ps) in
    by (is_run p) (λ t. rw t (omega arith)) (λ t. rw t (omega arith))

pub end_le : (s : List ℕ) → rig_end s ≤ length s
unfolding rig_end
end_le s = let e : length (join 10 (split 10 s)) ≡ length s = ap length (join_split 10 s) in omega (arith, before_le (split 10 s))
