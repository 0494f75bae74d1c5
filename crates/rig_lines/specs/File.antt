-- A rig file as lines: the first faulty one, and what the lines say.
use Rattle.std.specs.Prelude.{ℕ, ◌+◌, cond, ◌&&◌, List, [], ◌∷◌, ltb, eqb, length}
use Rattle.text.specs.Split.{split, lf}
use Rattle.rig_lines.specs.Line.{Line, line_of, placed, judge}

-- a refusal number, 0 for none, and the line that it is given for
pub record Fault : Type 0 where
  pub no : ℕ
  pub line : ℕ

abbrev pub fault : ℕ → ℕ → Fault
fault c n = record { no = c; line = n }

-- "the first faulty line decides, then the smallest number": of the pieces from line n on, after a line of place p. "Lines end in LF": what
-- stands after the last LF is no line and must be empty; an empty file is faulty at line 1
unfoldable pub first_fault : ℕ → ℕ → List (List ℕ) → Fault
first_fault n p [] = fault 1 n
first_fault n p (l ∷ []) = cond (eqb (length l) 0 && ltb 1 n) (fault 0 0) (fault 1 n)
first_fault n p (l ∷ m ∷ ms) =
    cond (eqb (judge p (line_of l)) 0) (first_fault (n + 1) (placed (line_of l)) (m ∷ ms)) (fault (judge p (line_of l)) n)

unfoldable pub fault_of : List ℕ → Fault
fault_of s = first_fault 1 0 (split lf s)

-- what the lines say: all pieces but the last
unfoldable pub lines_in : List (List ℕ) → List Line
lines_in [] = []
lines_in (l ∷ []) = []
lines_in (l ∷ m ∷ ms) = line_of l ∷ lines_in (m ∷ ms)

unfoldable pub lines_of : List ℕ → List Line
lines_of s = lines_in (split lf s)
