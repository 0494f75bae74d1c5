-- THE RUNNER'S INPUT: "a rig, the line RUN, then script lines"; "Without RUN the whole input is the rig."
use Rattle.std.specs.Prelude.{ℕ, ◌+◌, Bool, cond, ◌&&◌, List, [], ◌∷◌, eqb, length, get_or}
use Rattle.text.specs.Split.{split}
use Rattle.bench_script.specs.Letters.{lf, run_r, run_u, run_n}

-- a line is RUN
unfoldable pub is_run : List ℕ → Bool
is_run line = eqb (length line) 3 && (eqb (get_or line 0 0) run_r && (eqb (get_or line 1 0) run_u && eqb (get_or line 2 0) run_n))

-- how many bytes stand before the first line RUN. The last piece has no LF behind it, so it is no line.
unfoldable pub before_run : List (List ℕ) → ℕ
before_run [] = 0
before_run (piece ∷ []) = length piece
before_run (piece ∷ next ∷ pieces) = cond (is_run piece) 0 (length piece + 1 + before_run (next ∷ pieces))

unfoldable pub rig_end : List ℕ → ℕ
rig_end input = before_run (split lf input)
