-- What a turn of a loop over lines, fields or sizes does to what is left to be read.
-- Assumes nothing.
use Rattle.std.specs.Prelude.{ℕ, zero, suc, ◌+◌, ◌-◌, ◌≤◌, ◌<◌, ◌≡◌, refl, Bool, true, false, cond, ◌&&◌, List, [], ◌∷◌, ◌++◌, map, ltb, eqb, length, get_or, drop, take, set}
use Rattle.std.proofs.Common.{sym, ap, ◌∙◌, append_assoc, arith, add-one, drop_of_length-le, take-suc-set, drop-set-lt, drop-cons, get_or-take, length-take-le, lt-ltb, le-ltb, le-leb, ne_eqb}
use Rattle.std.proofs.lemmas.Bool.{lt-leb}
use Rattle.laws.specs.Put.{put}
use Rattle.decimal.specs.Decimal.{cap, number}
use Rattle.text.specs.Split.{split, part, rest}
use Rattle.text.specs.Laws.Split.{split_cons}
use Rattle.text.specs.Laws.Parts.{Found, piece, rest_next, rest_none, part_none, length_part}
use Rattle.rig_lines.specs.Kinds.{kind_of, low_of, high_of, within, timed, place_in_order, keyed}
use Rattle.rig_lines.specs.Laws.Kinds.{within_low, within_high, within_fits}
use Rattle.rig_lines.specs.Line.{Line, line_of, first, others, decimals, fits, placed, judge}
use Rattle.rig_lines.specs.File.{Fault, fault, first_fault, lines_in}

-- a line with its end, and what follows it
pub fault_next : (l s : List ℕ) (n p : ℕ) →
    first_fault n p (l ∷ split 10 s) ≡
    cond (eqb (judge p (line_of l)) 0) (first_fault (n + 1) (placed (line_of l)) (split 10 s)) (fault (judge p (line_of l)) n)
unfolding first_fault
fault_next l s n p = let w = split_cons 10 s in rw w.2

pub lines_next : (l s : List ℕ) → lines_in (l ∷ split 10 s) ≡ line_of l ∷ lines_in (split 10 s)
unfolding lines_in
lines_next l s = let w = split_cons 10 s in rw w.2

-- what the line from `at` to e says, whose name ends at q
abbrev pub said : List ℕ → ℕ → ℕ → ℕ → Line
said s at q e = record { kind = kind_of (part at q s); nums = map number (rest 9 (part q e s)) }

module _ (s : List ℕ) (n at e q : ℕ) (k : n ≤ length s) (we : Found s at n 10 e) (h : e < n) (wq : Found s at e 9 q) where
  line_said : line_of (part at e s) ≡ said s at q e
  unfolding line_of first others
  line_said = rw (piece s at e 9 q (omega arith) wq)

  pieces : split 10 (part at n s) ≡ part at e s ∷ split 10 (part (e + 1) n s)
  pieces = rw (piece s at n 10 e k we, rest_next 10 e n s h k)

  pub fault_line : (line p : ℕ) →
      first_fault line p (split 10 (part at n s)) ≡
      cond (eqb (judge p (said s at q e)) 0) (first_fault (line + 1) (placed (said s at q e)) (split 10 (part (e + 1) n s))) (fault (judge p (said s at q e)) line)
  fault_line line p = ap (first_fault line p) pieces ∙ (fault_next (part at e s) (part (e + 1) n s) line p ∙ rw line_said)

  pub lines_line : lines_in (split 10 (part at n s)) ≡ said s at q e ∷ lines_in (split 10 (part (e + 1) n s))
  lines_line = ap lines_in pieces ∙ (lines_next (part at e s) (part (e + 1) n s) ∙ rw line_said)

-- the end of the file: no LF is left
module _ (s : List ℕ) (n at e : ℕ) (k : n ≤ length s) (we : Found s at n 10 e) (h : e ≡ n) where
  last : split 10 (part at n s) ≡ part at n s ∷ []
  last = rw (piece s at n 10 e k we, h, rest_none 10 n s)

  pub lines_end : lines_in (split 10 (part at n s)) ≡ []
  unfolding lines_in
  lines_end = rw last

  module _ (line p : ℕ) where
    fault_last : first_fault line p (split 10 (part at n s)) ≡ cond (eqb (length (part at n s)) 0 && ltb 1 line) (fault 0 0) (fault 1 line)
    unfolding first_fault
    fault_last = rw last

    pub end_clean : at ≡ n → 1 < line → first_fault line p (split 10 (part at n s)) ≡ fault 0 0
    end_clean q t = rw (fault_last, q, part_none n s, lt-ltb 1 line t)

    pub end_empty : line ≤ 1 → first_fault line p (split 10 (part at n s)) ≡ fault 1 line
    end_empty t = rw (fault_last, le-ltb 1 line t) (and_false (eqb (length (part at n s)) 0) (fault 0 0) (fault 1 line))
      where
        and_false : (t : Bool) (a b : Fault) → cond (t && false) a b ≡ b
        and_false true a b = refl
        and_false false a b = refl

    pub end_open : at < n → first_fault line p (split 10 (part at n s)) ≡ fault 1 line
    end_open t =
        let w : length (part at n s) ≡ n - at = length_part at n s k in
        rw (fault_last, ne_eqb (length (part at n s)) 0 (omega arith))

-- one field more
pub rest_turn : (s : List ℕ) (p e b : ℕ) → e ≤ length s → p < e → Found s (p + 1) e 9 b → rest 9 (part p e s) ≡ part (p + 1) b s ∷ rest 9 (part b e s)
rest_turn s p e b k h w = rest_next 9 p e s h k ∙ piece s (p + 1) e 9 b k w

pub decimals_turn : (n : ℕ) (ns : List ℕ) → n ≤ cap → decimals (n ∷ ns) ≡ decimals ns
unfolding decimals
decimals_turn n ns h = rw (le-leb _ _ h)

pub decimals_bad : (n : ℕ) (ns : List ℕ) → cap < n → decimals (n ∷ ns) ≡ false
unfolding decimals
decimals_bad n ns h = rw (lt-leb _ _ h)

pub put_turn : (v : List ℕ) (f x : ℕ) (ns : List ℕ) → f < length v → put (set v f x) (f + 1) ns ≡ put v f (x ∷ ns)
unfolding put
put_turn v f x ns h =
    let e : (f + 1) + length ns ≡ f + suc (length ns) = omega arith in
    let i : f < f + suc (length ns) = omega arith in
    rw (e, add-one, take-suc-set v f x h, drop-set-lt _ v f x i, append_assoc)

-- zeros behind numbers are not seen
pub padded_at : (m : ℕ) (ns zs : List ℕ) → ((i : ℕ) → get_or zs i 0 ≡ 0) → (i : ℕ) → get_or (ns ++ drop m zs) i 0 ≡ get_or ns i 0
padded_at m [] zs h i = drops m zs h i
  where
    drops : (m : ℕ) (zs : List ℕ) → ((i : ℕ) → get_or zs i 0 ≡ 0) → (i : ℕ) → get_or (drop m zs) i 0 ≡ 0
    drops zero zs h i = h i
    drops (suc m) [] h i = refl
    drops (suc m) (z ∷ zs) h i = drops m zs (λ j. h (suc j)) i
padded_at m (n ∷ ns) zs h zero = refl
padded_at m (n ∷ ns) zs h (suc i) = padded_at m ns zs h i

pub put_at : (ns zs : List ℕ) → ((i : ℕ) → get_or zs i 0 ≡ 0) → (i : ℕ) → get_or (put zs 0 ns) i 0 ≡ get_or ns i 0
unfolding put
put_at ns zs h i = padded_at (0 + length ns) ns zs h i

-- one size more
pub fits_turn : (k j : ℕ) (ns : List ℕ) → j < length ns → within k j (get_or ns j 0) ≡ true → fits k (j + 1) (drop (j + 1) ns) ≡ fits k j (drop j ns)
unfolding fits
fits_turn k j ns h t = rw (drop-cons ns j 0 h, t, add-one j)

pub fits_bad : (k j : ℕ) (ns : List ℕ) → j < length ns → within k j (get_or ns j 0) ≡ false → fits k j (drop j ns) ≡ false
unfolding fits
fits_bad k j ns h t = rw (drop-cons ns j 0 h, t)

pub fits_end : (k j : ℕ) (ns : List ℕ) → length ns ≤ j → fits k j (drop j ns) ≡ true
unfolding fits
fits_end k j ns h = rw (drop_of_length-le ns h)

-- the sizes of the first m numbers of v, one after the other: a number within its size, one that is not, and the end
module _ (k m : ℕ) (v : List ℕ) (long : m ≤ length v) (j : ℕ) (so_far : fits k j (drop j (take m v)) ≡ fits k 0 (take m v)) where
  few : length (take m v) ≡ m
  few = length-take-le m v long

  module _ (h : j < m) where
    here : get_or (take m v) j 0 ≡ get_or v j 0
    here = get_or-take m v j 0 h

    pub size_on : low_of k j ≤ get_or v j 0 → get_or v j 0 ≤ high_of k j → fits k (j + 1) (drop (j + 1) (take m v)) ≡ fits k 0 (take m v)
    size_on a b = fits_turn k j (take m v) (omega (arith, few)) (rw here (sym (within_fits k j (get_or v j 0) a b))) ∙ so_far

    size_bad : within k j (get_or v j 0) ≡ false → (t : Bool) → false ≡ (fits k 0 (take m v) && t)
    size_bad e t = sym (rw (← so_far, fits_bad k j (take m v) (omega (arith, few)) (rw here e)))

    pub size_low : get_or v j 0 < low_of k j → (t : Bool) → false ≡ (fits k 0 (take m v) && t)
    size_low a = size_bad (sym (within_low k j (get_or v j 0) a))

    pub size_high : low_of k j ≤ get_or v j 0 → high_of k j < get_or v j 0 → (t : Bool) → false ≡ (fits k 0 (take m v) && t)
    size_high a b = size_bad (sym (within_high k j (get_or v j 0) a b))

  pub size_end : m ≤ j → (t r : Bool) → r ≡ t → r ≡ (fits k 0 (take m v) && t)
  size_end h t r e = rw (← so_far, fits_end k j (take m v) (omega (arith, few))) e

-- what goes by the numbers goes by another list with the same numbers
pub timed_same : (k : ℕ) (v u : List ℕ) → ((i : ℕ) → get_or v i 0 ≡ get_or u i 0) → timed k v ≡ timed k u
unfolding timed
timed_same k v u h = rw (h 5, h 6)

pub rank_same : (k : ℕ) (v u : List ℕ) → ((i : ℕ) → get_or v i 0 ≡ get_or u i 0) → place_in_order k v ≡ place_in_order k u
unfolding place_in_order keyed
rank_same k v u h = rw (h 0, h 1, h 2)
