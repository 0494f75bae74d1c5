-- WHAT IS SAID OF A RIG FILE, byte by byte: how much it holds, or the refusal with its number, its line where it has one, a sentence, and for a
-- rule over the whole file the line or the task that breaks it.
use Rattle.std.specs.Prelude.{ℕ, zero, suc, ◌≤◌, ◌<◌, ◌≡◌, ◌⊎◌, Bool, cond, List, [], ◌++◌, eqb, length, get_or, take}
use Rattle.rig.specs.declared.Rig.{Rig}
use Rattle.rig_build.specs.declared.Answer.{Answer}
use Rattle.rig_meaning.proofs.Reading.{read_of}
use Rattle.text.specs.Split.{part}
use Rattle.bench_script.specs.Input.{rig_end}
use Rattle.put_text.specs.Wrote.{Wrote}
use Rattle.rig_shapes.specs.Shape.{reason_of}
use Rattle.rig_culprits.specs.Culprits.{Culprit, culprit_of, a_line_of_the_file, a_task}
use Rattle.rig_phrases.specs.Phrases.{refused_by_text, at_line_text, colon_text, culprit_line_text, culprit_task_text, end_text}
use Rattle.rig_line_sentences.specs.Sentences.{shape_sentence, line_sentence}
use Rattle.rig_rule_sentences.specs.Sentences.{rule_sentence}
use Rattle.rig_phrases.specs.Writing.{number_text}
use Rattle.rig_phrases.specs.Counts.{tasks_text, flags_text, conditions_text, rows_text}

-- ---- a file that is right

unfoldable pub right_text : ℕ → ℕ → ℕ → ℕ → List ℕ
right_text tasks flags conditions rows = ((tasks_text tasks ++ flags_text flags) ++ conditions_text conditions) ++ rows_text rows

-- how many of the first n places pass a test
unfoldable pub count_to : ℕ → (ℕ → Bool) → ℕ
count_to zero test = 0
count_to (suc n) test = cond (test n) (suc (count_to n test)) (count_to n test)

abbrev pub has_condition : Rig → ℕ → Bool
has_condition g p = eqb (get_or g.present p 0) 1

unfoldable pub condition_count : Rig → ℕ
condition_count g = count_to 1040 (has_condition g)

-- ---- a file that is refused

unfoldable pub line_text : ℕ → List ℕ
line_text line = cond (eqb line 0) colon_text ((at_line_text ++ number_text line) ++ colon_text)

unfoldable pub head_text : ℕ → ℕ → List ℕ
head_text number line = (refused_by_text ++ number_text number) ++ line_text line

unfoldable pub culprit_text : Culprit → List ℕ
culprit_text who =
    cond (eqb who.what a_line_of_the_file) (culprit_line_text ++ number_text who.number)
    (cond (eqb who.what a_task) (culprit_task_text ++ number_text who.number) [])

unfoldable pub why_text : List ℕ → ℕ → ℕ → ℕ → List ℕ
why_text file number line rule =
    cond (eqb number 4) (rule_sentence rule ++ culprit_text (culprit_of rule file))
    (cond (eqb number 1) (shape_sentence (reason_of file line)) (line_sentence number line))

unfoldable pub refused_text : List ℕ → ℕ → ℕ → ℕ → List ℕ
refused_text file number line rule = (head_text number line ++ why_text file number line rule) ++ end_text

-- ---- any file

abbrev pub answered : List ℕ → Answer → List ℕ
answered file a =
    cond (eqb a.no 0) (right_text a.rig.tasks a.rig.flags (condition_count a.rig) a.rig.rows) (refused_text file a.no a.line a.rule)

unfoldable pub saying_of : List ℕ → List ℕ
saying_of file = answered file (read_of file)

-- the saying stands at the front, if there is room for it; else nothing is written
pub record Said (file out after : List ℕ) (p : ℕ) : Type 0 where
  pub is : ((1024 ≤ length out) × Wrote out 0 (saying_of file) after p) ⊎ ((length out < 1024) × (after ≡ out) × (p ≡ 0))

-- "The bench runner reads from standard input a rig, the line RUN, then script lines"; "Without RUN the whole input is the rig."
abbrev pub rig_part : List ℕ → List ℕ
rig_part input = part 0 (rig_end input) input

-- so many bytes at the start of a buffer; the second part follows from the first, and is there for programs that write them
abbrev pub CountsOf : ℕ → List ℕ → Type 0
CountsOf n l = (n ≤ length l) × (n ≡ length (take n l))
