-- WHICH LINE OR TASK BREAKS A RULE over the whole file: the lowest.
use Rattle.std.specs.Prelude.{ℕ, ◌+◌, Bool, cond, List, [], ◌∷◌, eqb, length, Option, None, Some}
use Rattle.text.specs.Split.{split, part}
use Rattle.rig_lines.specs.Line.{line_of}
use Rattle.rig_lines.specs.File.{lines_of}
use Rattle.rig_meaning.proofs.Reading.{read_of}
use Rattle.rig_suspects.specs.Suspects.{lines_from, stray, shared, unused, task_missing}
use Rattle.rig_culprits.specs.declared.Culprit as declared
use Rattle.rig_culprits.specs.declared.Culprit.TheVariants.{Line, Task}
use Rattle.rig_culprits.specs.declared.Rule.{Rule}
use Rattle.rig_culprits.specs.declared.Rule.TheVariants.{Above, ManyA, ManyB, NoT, Crowded, Controller, Shared, MinorActivation, NoC, NoA, MinorCondition, SameAddress}

-- ---- the rules, by the reader's numbers (rig_build/Read: those of the lines, then those of rig/Tests)

abbrev pub no_t_line : ℕ
no_t_line = 4

abbrev pub stray_controller : ℕ
stray_controller = 21

abbrev pub shared_flag : ℕ
shared_flag = 22

abbrev pub no_a_line : ℕ
no_a_line = 25

-- the numbers of those that a sentence tells apart; 0 for none
abbrev pub rule_number : Option Rule → ℕ
rule_number None = 0
rule_number (Some Above) = 1
rule_number (Some ManyA) = 2
rule_number (Some ManyB) = 3
rule_number (Some NoT) = no_t_line
rule_number (Some Crowded) = 5
rule_number (Some Controller) = stray_controller
rule_number (Some Shared) = shared_flag
rule_number (Some MinorActivation) = 23
rule_number (Some NoC) = 24
rule_number (Some NoA) = no_a_line
rule_number (Some MinorCondition) = 26
rule_number (Some SameAddress) = 27

unfoldable pub rule_of : ℕ → Option Rule
rule_of n =
    cond (eqb n 1) (Some Above)
    (cond (eqb n 2) (Some ManyA)
    (cond (eqb n 3) (Some ManyB)
    (cond (eqb n no_t_line) (Some NoT)
    (cond (eqb n 5) (Some Crowded)
    (cond (eqb n stray_controller) (Some Controller)
    (cond (eqb n shared_flag) (Some Shared)
    (cond (eqb n 23) (Some MinorActivation)
    (cond (eqb n 24) (Some NoC)
    (cond (eqb n no_a_line) (Some NoA)
    (cond (eqb n 26) (Some MinorCondition)
    (cond (eqb n 27) (Some SameAddress) None)))))))))))

-- the line from `at` to e is a culprit of the rule. Three rules need what stands behind a line, or the other T lines, and are tested line
-- by line. Every other is broken by the lines up to some line, and stays so: its culprit is the line with which they begin to break it.
unfoldable pub guilty : ℕ → List ℕ → ℕ → ℕ → Bool
guilty rule s at e =
    cond (eqb rule stray_controller) (stray (lines_of s) (line_of (part at e s)))
    (cond (eqb rule shared_flag) (shared (line_of (part at e s)) (lines_from s (e + 1)))
    (cond (eqb rule no_a_line) (unused (lines_of s) (line_of (part at e s)))
    (eqb (read_of (part 0 (e + 1) s)).rule rule)))

-- the first line that a test of its two ends finds, the pieces being those from line n on, at a place; 0 for none
unfoldable pub first_at : (ℕ → ℕ → Bool) → ℕ → ℕ → List (List ℕ) → ℕ
first_at test n at [] = 0
first_at test n at (l ∷ []) = 0
first_at test n at (l ∷ m ∷ ms) = cond (test at (at + length l)) n (first_at test (n + 1) (at + length l + 1) (m ∷ ms))

unfoldable pub culprit_line : ℕ → List ℕ → ℕ
culprit_line rule s = first_at (guilty rule s) 1 0 (split 10 s)

-- ---- the culprit

abbrev pub a_line_of_the_file : ℕ
a_line_of_the_file = 1

abbrev pub a_task : ℕ
a_task = 2

-- 0 for nothing, and what the number counts else
pub record Culprit : Type 0 where
  pub what : ℕ
  pub number : ℕ

abbrev pub culprit_told : Option declared.Culprit → Culprit
culprit_told None = record { what = 0; number = 0 }
culprit_told (Some (Line n)) = record { what = a_line_of_the_file; number = n }
culprit_told (Some (Task t)) = record { what = a_task; number = t }

unfoldable pub found_as : ℕ → ℕ → Culprit
found_as kind count = cond (eqb count 0) (record { what = 0; number = 0 }) (record { what = kind; number = count })

unfoldable pub culprit_of : ℕ → List ℕ → Culprit
culprit_of rule s = cond (eqb rule no_t_line) (found_as a_task (task_missing (lines_of s))) (found_as a_line_of_the_file (culprit_line rule s))
