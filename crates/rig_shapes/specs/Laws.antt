-- Laws: turns of the loops over the fields of a line, and over the lines of a file.
-- Assumes nothing.
use Rattle.std.specs.Prelude.{ℕ, zero, suc, ◌+◌, ◌-◌, ◌≤◌, ◌<◌, ◌≡◌, refl, ◌≢◌, true, false, cond, List, [], ◌∷◌, map, eqb, leb, ltb, length, get_or}
use Rattle.std.proofs.Common.{sym, ap, ◌∙◌, arith, le_antisymm, eq-eqb, ne_eqb, lt-ltb, le-ltb, ltb-true, ltb-false}
use Rattle.laws.specs.Cases.{by}
use Rattle.decimal.specs.Decimal.{number}
use Rattle.text.specs.Split.{split, part, rest}
use Rattle.text.specs.Laws.Split.{split_cons}
use Rattle.text.specs.Laws.Parts.{Found, piece, part_all, rest_none, rest_next, free_none}
use Rattle.rig_lines.specs.Kinds.{kind_of}
use Rattle.rig_lines.specs.Kind.{kind_number}
use Rattle.rig_lines.specs.declared.Kind.{Kind}
use Rattle.rig_lines.specs.declared.Kind.TheVariants.{Rig, Task, Condition, Line, Flag, Row}
use Rattle.rig_lines.specs.Line.{line_of, first, others}
use Rattle.rig_lines.specs.Laws.Turns.{rest_turn}
use Rattle.rig_shapes.specs.Shape.{has, marked, fields_of, no_line_end, line_reason, piece_reason}

-- ---- the fields of a line

-- those that stand behind place p
abbrev pub fields_from : List ℕ → ℕ → List (List ℕ)
fields_from l p = rest 9 (part p (length l) l)

pub parted : (c : ℕ) (l : List ℕ) (q : ℕ) → Found l 0 (length l) c q → split c l ≡ part 0 q l ∷ rest c (part q (length l) l)
parted c l q w = ap (split c) (sym (part_all l)) ∙ piece l 0 (length l) c q (omega arith) w

pub fields_start : (l : List ℕ) (q : ℕ) → Found l 0 (length l) 9 q → fields_from l q ≡ fields_of l
unfolding others
fields_start l q w = sym (ap others (parted 9 l q w))

pub kind_start : (l : List ℕ) (q : ℕ) → Found l 0 (length l) 9 q → kind_of (part 0 q l) ≡ (line_of l).kind
unfolding line_of first
kind_start l q w = sym (ap (λ (ps : List (List ℕ)). kind_of (first ps)) (parted 9 l q w))

pub fields_next : (l : List ℕ) (p b : ℕ) → p < length l → Found l (p + 1) (length l) 9 b → fields_from l p ≡ part (p + 1) b l ∷ fields_from l b
fields_next l p b h w = rest_turn l p (length l) b (omega arith) h w

pub fields_end : (l : List ℕ) (p : ℕ) → p ≤ length l → length l ≤ p → fields_from l p ≡ []
fields_end l p h k = let q : p ≡ length l = le_antisymm h k in rw q (rest_none 9 (length l) l)

-- the numbers that they say
abbrev pub nums_from : List ℕ → ℕ → List ℕ
nums_from l p = map number (fields_from l p)

pub nums_start : (l : List ℕ) (q : ℕ) → Found l 0 (length l) 9 q → (j : ℕ) → get_or (nums_from l q) j 0 ≡ get_or (line_of l).nums j 0
unfolding line_of
nums_start l q w j = ap (λ (fs : List (List ℕ)). get_or (map number fs) j 0) (fields_start l q w)

pub nums_here : (l : List ℕ) (p b j : ℕ) → p < length l → Found l (p + 1) (length l) 9 b → j ≡ 0 → number (part (p + 1) b l) ≡ get_or (nums_from l p) j 0
nums_here l p b j h w z = rw (z, fields_next l p b h w)

pub nums_next : (l : List ℕ) (p b j : ℕ) → p < length l → Found l (p + 1) (length l) 9 b → 0 < j → get_or (nums_from l b) (j - 1) 0 ≡ get_or (nums_from l p) j 0
nums_next l p b zero h w z = absurd (let y : ⊥ = omega arith in y)
nums_next l p b (suc j) h w z = let e : suc j - 1 ≡ j = omega arith in rw (e, fields_next l p b h w)

pub nums_end : (l : List ℕ) (p j : ℕ) → p ≤ length l → length l ≤ p → 0 ≡ get_or (nums_from l p) j 0
nums_end l p j h k = rw (fields_end l p h k)

-- the three bytes of a byte-order mark
pub short_unmarked : (l : List ℕ) → length l < 3 → false ≡ marked l
unfolding marked
short_unmarked [] h = refl
short_unmarked (a ∷ []) h = by (eqb a 239) (λ e. rw e) (λ e. rw e)
short_unmarked (a ∷ b ∷ []) h = by (eqb a 239) (λ e. by (eqb b 187) (λ f. rw (e, f)) (λ f. rw (e, f))) (λ e. rw e)
short_unmarked (a ∷ b ∷ c ∷ l) h = absurd (let y : ⊥ = omega arith in y)

pub marked_0 : (l : List ℕ) → get_or l 0 0 ≢ 239 → false ≡ marked l
unfolding marked
marked_0 l n = rw (ne_eqb _ _ n)

pub marked_1 : (l : List ℕ) → get_or l 1 0 ≢ 187 → false ≡ marked l
unfolding marked
marked_1 l n = by (eqb (get_or l 0 0) 239) (λ e. rw (e, ne_eqb _ _ n)) (λ e. rw e)

pub marked_2 : (l : List ℕ) → get_or l 0 0 ≡ 239 → get_or l 1 0 ≡ 187 → eqb (get_or l 2 0) 191 ≡ marked l
unfolding marked
marked_2 l a b = rw (eq-eqb (get_or l 0 0) 239 a, eq-eqb (get_or l 1 0) 187 b)

-- a byte is found exactly when it stands in the line
rest_some : (c : ℕ) (l : List ℕ) (q : ℕ) → q < length l → 0 < length (rest c (part q (length l) l))
rest_some c l q h =
    let w = split_cons c (part (q + 1) (length l) l) in
    rw (rest_next c q (length l) l h (omega arith), w.2) (omega arith)

pub has_found : (c : ℕ) (l : List ℕ) (q : ℕ) → Found l 0 (length l) c q → ltb q (length l) ≡ has c l
unfolding has
has_found c l q w =
    by (ltb q (length l))
    (λ t. let h = ltb-true q (length l) t in
    let n = rest_some c l q h in
    let k : 1 < length (part 0 q l ∷ rest c (part q (length l) l)) = omega (arith, n) in
    rw (t, parted c l q w) (sym (lt-ltb 1 (length (part 0 q l ∷ rest c (part q (length l) l))) k)))
    (λ t. let h = ltb-false q (length l) t in
    let e : q ≡ length l = le_antisymm w.high h in
    let z : rest c (part q (length l) l) ≡ [] = rw e (rest_none c (length l) l) in
    rw (t, parted c l q w, z) refl)

-- ---- the lines of a file

module _ (s : List ℕ) (at e : ℕ) (w : Found s at (length s) 10 e) where
  pub one_piece : e ≡ length s → split 10 (part at (length s) s) ≡ part at (length s) s ∷ []
  one_piece q = rw (piece s at (length s) 10 e (omega arith) w, q, rest_none 10 (length s) s)

  pub more_pieces : e < length s → split 10 (part at (length s) s) ≡ part at e s ∷ split 10 (part (e + 1) (length s) s)
  more_pieces h = rw (piece s at (length s) 10 e (omega arith) w, rest_next 10 e (length s) s h (omega arith))

  -- the reason of a line's shape
  pub reason_end : (n : ℕ) → e ≡ length s → piece_reason n (split 10 (part at (length s) s)) ≡ no_line_end
  unfolding piece_reason
  reason_end n q = rw (one_piece q)

  pub reason_next : (n : ℕ) → e < length s
      → piece_reason n (split 10 (part at (length s) s)) ≡ cond (leb n 1) (line_reason (part at e s)) (piece_reason (n - 1) (split 10 (part (e + 1) (length s) s)))
  unfolding piece_reason
  reason_next n h = let v = split_cons 10 (part (e + 1) (length s) s) in rw (more_pieces h, v.2)

-- nothing stands at the end of a file
module _ (s : List ℕ) (at : ℕ) (h : at ≤ length s) (k : length s ≤ at) where
  pub nothing_left : Found s at (length s) 10 at
  nothing_left = record { low = omega arith; high = h; free = free_none 10 at s; stop = λ z. absurd (let y : ⊥ = omega arith in y) }

  pub reason_none : (n : ℕ) → piece_reason n (split 10 (part at (length s) s)) ≡ no_line_end
  reason_none n = reason_end s at at nothing_left n (le_antisymm h k)

-- ---- tests of what was read

pub is_so_built : {a b : ℕ} → a ≡ b → (c : ℕ) → a ≡ c → eqb b c ≡ true
is_so_built e c h = eq-eqb _ c (sym e ∙ h)

pub is_not : {a b : ℕ} → a ≡ b → (c : ℕ) → a ≢ c → eqb b c ≡ false
is_not e c n = ne_eqb _ c (λ z. n (e ∙ z))

pub is_below : {a b x y : ℕ} → a ≡ x → b ≡ y → a < b → ltb x y ≡ true
is_below {a} {b} {x} {y} e f h = lt-ltb x y (omega (arith, e, f, h))

pub is_above : {a b x y : ℕ} → a ≡ x → b ≡ y → b ≤ a → ltb x y ≡ false
is_above {a} {b} {x} {y} e f h = le-ltb x y (omega (arith, e, f, h))

-- a line of a kind that there is
pub some_kind : (k : Kind) → kind_number k ≢ 0
some_kind Rig = omega arith
some_kind Task = omega arith
some_kind Condition = omega arith
some_kind Line = omega arith
some_kind Flag = omega arith
some_kind Row = omega arith
