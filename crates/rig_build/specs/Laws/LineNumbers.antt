-- The number of a line is small: a host and the bench print it in 32 bits.
use Rattle.std.specs.Prelude.{ℕ, suc, ◌+◌, ◌≤◌, ◌≡◌, ◌&&◌, List, [], ◌∷◌, eqb, ltb, length}
use Rattle.std.proofs.Common.{sym, subst, arith}
use Rattle.laws.specs.Cases.{by}
use Rattle.text.specs.Split.{on_head, split}
use Rattle.rig_lines.specs.Line.{line_of, placed, judge}
use Rattle.rig_lines.specs.File.{Fault, first_fault, fault_of}
use Rattle.rig_build.specs.declared.Answer.{Answer}
use Rattle.rig_build.specs.Read.{read_computed}
use Rattle.rig_build.specs.Laws.Exactly.{Way, long, line, whole, right, way, too_long, faulty, whole_broken_lem, all_right}

-- ---- a file of 40,960 bytes has no more than 40,961 pieces, so every line's number fits

on_head_lem : (x : ℕ) (ps : List (List ℕ)) → length (on_head x ps) ≤ suc (length ps)
unfolding on_head
on_head_lem x [] = omega arith
on_head_lem x (p ∷ ps) = omega arith

pieces : (c : ℕ) (s : List ℕ) → length (split c s) ≤ suc (length s)
unfolding split
pieces c [] = omega arith
pieces c (x ∷ xs) =
    let k = pieces c xs in
    let h = on_head_lem x (split c xs) in
    by (eqb x c) (λ t. rw t (omega arith)) (λ t. rw t (omega arith))

fault_line : (ps : List (List ℕ)) (n p : ℕ) → (first_fault n p ps).line ≤ n + length ps
unfolding first_fault
fault_line [] n p = omega arith
fault_line (l ∷ []) n p = by (eqb (length l) 0 && ltb 1 n) (λ t. rw t (omega arith)) (λ t. rw t (omega arith))
fault_line (l ∷ m ∷ ms) n p =
    let k = fault_line (m ∷ ms) (n + 1) (placed (line_of l)) in
    by (eqb (judge p (line_of l)) 0) (λ t. rw t (omega arith)) (λ t. rw t (omega arith))

line_of_lem : (s : List ℕ) → (fault_of s).line ≤ length s + 2
unfolding fault_of
line_of_lem s =
    let k = fault_line (split 10 s) 1 0 in
    let h = pieces 10 s in
    omega arith

pub line_small : (s : List ℕ) → (read_computed s).line ≤ 40962
line_small s = go (way s)
  where
    at : (a : Answer) → read_computed s ≡ a → a.line ≤ 40962 → (read_computed s).line ≤ 40962
    at a e h = subst (λ (x : Answer). x.line ≤ 40962) (sym e) h

    go : Way s → (read_computed s).line ≤ 40962
    go (long h) = at _ (too_long s h) (omega arith)
    go (line j n h f k) =
        let z : n ≤ length s + 2 = subst (λ (x : Fault). x.line ≤ length s + 2) f (line_of_lem s) in
        at _ (faulty s h j n f) (omega arith)
    go (whole k h c r) = at _ (whole_broken_lem s h c k r) (omega arith)
    go (right h c r) = at _ (all_right s h c r) (omega arith)
