-- THE ANSWER TO A RIG FILE, COMPUTED: by its lines, each judged by shape, sizes and order; by the rules over all of them; and by the rig of its
-- lines and the rules of a rig. What the answer means, in the paper's words, is `Reads` (rig_meaning/Reads): the proofs go by what is computed
-- here, and nobody has to believe it.
use Rattle.std.specs.Prelude.{ℕ, zero, suc, ◌+◌, cond, List, [], ltb, eqb, length}
use Rattle.laws.specs.First.{first_false}
use Rattle.rig.specs.declared.Cycle.{Cycle}
use Rattle.rig.specs.declared.Rig.{Rig}
use Rattle.rig.specs.Forms.{no_rig, no_cycles, cycles_of}
use Rattle.rig_whole.specs.Tests.{first_broken}
use Rattle.rig_lines.specs.Line.{Line}
use Rattle.rig_lines.specs.File.{fault_of, lines_of}
use Rattle.rig_lines.specs.Whole.{line_tests}
use Rattle.rig_fill.specs.OfLines.{rig_from, table_from}
use Rattle.rig_build.specs.declared.Answer.{Answer}

abbrev pub file_refused : ℕ → ℕ → ℕ → Answer
file_refused number place broken = record { no = number; line = place; rule = broken; rig = no_rig; cycles = no_cycles }

abbrev pub file_accepted : Rig → List Cycle → Answer
file_accepted g cycles = record { no = 0; line = 0; rule = 0; rig = g; cycles = cycles }

-- the rules of the rig itself are numbered behind the five of the lines
unfoldable pub behind : ℕ → ℕ
behind zero = 0
behind (suc n) = 5 + suc n

-- the first whole-file rule that is broken, 0 for none: of the lines, whose number the first argument is, then of the rig
unfoldable pub broken_rule : ℕ → Rig → List Cycle → ℕ
broken_rule of_lines g cycles = cond (eqb of_lines 0) (behind (first_broken g cycles)) of_lines

-- "4: a whole-file rule is broken (line 0)", "a refused rig is all zeros"
unfoldable pub judged : ℕ → Rig → List Cycle → Answer
judged of_lines g cycles = cond (eqb (broken_rule of_lines g cycles) 0) (file_accepted g cycles) (file_refused 4 0 (broken_rule of_lines g cycles))

unfoldable pub whole_file : List Line → Answer
whole_file rs = judged (first_false 1 (line_tests rs)) (rig_from rs) (cycles_of (table_from rs))

-- "For a file, the first faulty line decides, then the smallest number; 4 only if no line is faulty"
unfoldable pub by_lines : List ℕ → Answer
by_lines s = cond (eqb (fault_of s).no 0) (whole_file (lines_of s)) (file_refused (fault_of s).no (fault_of s).line 0)

-- "2: .. file too long (line 0, tested first)"
unfoldable pub read_computed : List ℕ → Answer
read_computed s = cond (ltb 40960 (length s)) (file_refused 2 0 0) (by_lines s)
