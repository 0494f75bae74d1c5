-- Parts of a list by their ends, and the pieces of a part: what a loop over lines or over fields goes by.
--     Found      what a search for c from a up to e has found at b
--     piece      the pieces of the part a .. e: the part a .. b, and those that follow b
--     rest_next, rest_none    what follows b: the pieces of b + 1 .. e, or none
-- Assumes nothing.
use Rattle.std.specs.Prelude.{ℕ, suc, ◌+◌, ◌-◌, ◌≤◌, ◌<◌, ◌≡◌, List, [], ◌∷◌, ◌++◌, ltb, length, drop, get_or}
use Rattle.std.proofs.Common.{arith, add-one, le_antisymm, ltb-true, ltb-false, length-drop, length-take, drop-cons, take-suc, get_or-drop, take-add, drop-drop}
use Rattle.laws.specs.Cases.{by}
use Rattle.std.proofs.Math.Seq.{take-length}
use Rattle.text.specs.Split.{split, part, rest}
use Rattle.text.specs.Laws.Split.{Free, split_piece, split_last}

pub part_none : (a : ℕ) (s : List ℕ) → part a a s ≡ []
unfolding part
part_none a s = let e : a - a ≡ 0 = omega arith in rw e

pub part_all : (s : List ℕ) → part 0 (length s) s ≡ s
unfolding part
part_all s = let e : length s - 0 ≡ length s = omega arith in rw (e, take-length)

pub length_part : (a b : ℕ) (s : List ℕ) → b ≤ length s → length (part a b s) ≡ b - a
unfolding part
length_part a b s h = simp (length-take, length-drop) (omega arith)

pub part_cons : (a b : ℕ) (s : List ℕ) → a < b → b ≤ length s → part a b s ≡ get_or s a 0 ∷ part (a + 1) b s
unfolding part
part_cons a b s h k =
    let e : b - a ≡ suc (b - suc a) = omega arith in
    let g : a < length s = omega arith in
    rw (add-one, e, drop-cons s a 0 g)

pub part_snoc : (a i : ℕ) (s : List ℕ) → a ≤ i → i < length s → part a (i + 1) s ≡ part a i s ++ (get_or s i 0 ∷ [])
unfolding part
part_snoc a i s h k =
    let e : (i + 1) - a ≡ suc (i - a) = omega arith in
    let f : a + (i - a) ≡ i = omega arith in
    let g : i - a < length (drop a s) = rw length-drop (omega arith) in
    rw (e, take-suc (drop a s) (i - a) 0 g, get_or-drop, f)

pub part_part : (a b c : ℕ) (s : List ℕ) → a ≤ b → b ≤ c → part a c s ≡ part a b s ++ part b c s
unfolding part
part_part a b c s h k =
    let e : c - a ≡ (b - a) + (c - b) = omega arith in
    let f : a + (b - a) ≡ b = omega arith in
    rw (e, take-add, drop-drop, f)

pub free_snoc : (c : ℕ) (p : List ℕ) (x : ℕ) → Free c p → (x ≡ c → ⊥) → Free c (p ++ (x ∷ []))
free_snoc c [] x h n = (n, tt)
free_snoc c (y ∷ ys) x h n = (h.0, free_snoc c ys x h.1 n)

pub free_turn : (c a i : ℕ) (s : List ℕ) → a ≤ i → i < length s → Free c (part a i s) → (get_or s i 0 ≡ c → ⊥) → Free c (part a (i + 1) s)
free_turn c a i s h k f n = rw (part_snoc a i s h k) (free_snoc c (part a i s) (get_or s i 0) f n)

pub free_none : (c a : ℕ) (s : List ℕ) → Free c (part a a s)
free_none c a s = rw part_none tt

pub record Found (s : List ℕ) (a e c b : ℕ) : Type 0 where
  pub low : a ≤ b
  pub high : b ≤ e
  pub free : Free c (part a b s)
  pub stop : b < e → get_or s b 0 ≡ c

pub rest_none : (c b : ℕ) (s : List ℕ) → rest c (part b b s) ≡ []
unfolding rest
rest_none c b s = rw part_none

pub rest_next : (c b e : ℕ) (s : List ℕ) → b < e → e ≤ length s → rest c (part b e s) ≡ split c (part (b + 1) e s)
unfolding rest
rest_next c b e s h k = rw (part_cons b e s h k)

pub piece : (s : List ℕ) (a e c b : ℕ) → e ≤ length s → Found s a e c b → split c (part a e s) ≡ part a b s ∷ rest c (part b e s)
piece s a e c b k w =
    by (ltb b e)
    (λ t. let h : b < e = ltb-true b e t in
    rw (part_part a b e s w.low w.high, rest_next c b e s h k, part_cons b e s h k, w.stop h)
    (split_piece c (part a b s) (part (b + 1) e s) w.free))
    (λ t. let h : e ≤ b = ltb-false b e t in
    let q : e ≡ b = le_antisymm h w.high in
    rw (q, rest_none c b s) (split_last c (part a b s) w.free))
