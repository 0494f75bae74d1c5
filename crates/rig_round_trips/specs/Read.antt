-- READING WHAT WAS WRITTEN GIVES THE RIG.
--     read_written    the file of a right rig is accepted, with that rig and its cycles
-- Assumes nothing.
use Rattle.std.specs.Prelude.{ℕ, ◌≡◌, eqb}
use Rattle.std.proofs.Math.Path.{refl, ap}
use Rattle.std.proofs.Common.{sym, ap₂, ◌∙◌, subst}
use mathlib.Core.List.{List, [], ◌∷◌}
use borrow.Author.Tests.{eq-eqb}
use Rattle.laws.specs.All.{all}
use Rattle.laws.specs.Laws.All.{all_all, all_of_cons, all_of_nil}
use Rattle.laws.specs.First.{first_false}
use Rattle.laws.specs.Laws.First.{all_first}
use Rattle.rig.specs.declared.Cycle.{Cycle}
use Rattle.rig.specs.declared.Rig.{Rig}
use Rattle.rig.specs.Rules.{Right}
use Rattle.rig.specs.Forms.{cycles_of, table_of}
use Rattle.rig_whole.specs.Tests.{first_broken}
use Rattle.rig_whole.specs.Laws.Whole.{broken_none}
use Rattle.rig_lines.specs.Text.{text}
use Rattle.rig_lines.specs.Laws.Judged.{Faultless}
use Rattle.rig_lines.specs.File.{Fault, fault_of, lines_of}
use Rattle.rig_lines.proofs.Laws.RoundTrip.{read_lines}
use Rattle.rig_round_trips.specs.Built.{Built, numbers, nothing, build}
use Rattle.rig_round_trips.specs.MarkTests.{marked_one, mark_tests}
use Rattle.rig_round_trips.specs.Marked.{after_rig, marks_say}
use Rattle.rig_lines.specs.Whole.{line_tests}
use Rattle.rig_fill.specs.OfLines.{rig_from, table_from}
use Rattle.rig_build.specs.Read.{behind, broken_rule, file_accepted, read_computed}
use Rattle.rig_round_trips.specs.Bridge.{built_rig, built_table}
use Rattle.rig_build.specs.Laws.Exactly.{rule_of, all_right}
use Rattle.rig_write.specs.File.{rig_line, lines_from, file_of}
use Rattle.rig_write.specs.Laws.Fits.{file_fits}
use Rattle.rig_round_trips.specs.Ordered.{rig_faultless}
use Rattle.rig_round_trips.specs.Filled.{others, done, marked, rig_built, all_marked}

cycles_back : (cycles : List Cycle) → cycles_of (table_of cycles) ≡ cycles
unfolding cycles_of table_of
cycles_back [] = refl
cycles_back (x ∷ xs) = ap (λ (l : List Cycle). x ∷ l) (cycles_back xs)

module _ (g : Rig) (cycles : List Cycle) (r : Right g cycles) where
  lines_are : lines_from g (table_of cycles) ≡ rig_line g ∷ others g cycles r
  unfolding lines_from
  lines_are = refl

  built_is : build nothing (rig_line g ∷ others g cycles r) ≡ done g cycles r
  unfolding build
  built_is = ap (λ (b : Built). build b (others g cycles r)) (after_rig 1 (numbers (rig_line g).nums) refl) ∙ rig_built g cycles r

  clean : Faultless 0 (rig_line g ∷ others g cycles r)
  clean = subst (Faultless 0) lines_are (rig_faultless g cycles r)

  marks_none : first_false 1 (mark_tests (done g cycles r).marks g.tasks) ≡ 0
  unfolding mark_tests
  marks_none =
      all_first 1 _
      (all_of_cons (eqb 0 0) _ (eq-eqb 0 0 refl)
      (all_of_cons (eqb 0 0) _ (eq-eqb 0 0 refl)
      (all_of_cons (eqb 0 0) _ (eq-eqb 0 0 refl)
      (all_of_cons (all g.tasks (marked_one (marked g cycles r 65))) _ (all_all g.tasks (marked_one (marked g cycles r 65)) (λ i h. eq-eqb _ 1 (all_marked g cycles r i h)))
      (all_of_cons (eqb 0 0) [] (eq-eqb 0 0 refl) all_of_nil)))))

  -- no rule of the lines is broken
  lines_none : first_false 1 (line_tests (rig_line g ∷ others g cycles r)) ≡ 0
  lines_none =
      let n = r.task_count in
      let m = marks_say (rig_line g) (others g cycles r) refl clean.2 n.1 in
      ap (first_false 1) (sym m) ∙ (ap (λ (b : Built). first_false 1 (mark_tests b.marks b.rig.tasks)) built_is ∙ marks_none)

  -- and none of the rig
  rig_none : first_broken g cycles ≡ 0
  rig_none = (broken_none g cycles).1 r

  text_is : file_of g (table_of cycles) ≡ text (rig_line g ∷ others g cycles r)
  unfolding file_of
  text_is = ap text lines_are

  lines_of_lem : lines_of (file_of g (table_of cycles)) ≡ rig_line g ∷ others g cycles r
  lines_of_lem = ap lines_of text_is ∙ (read_lines (rig_line g) (others g cycles r) clean).1

  no_fault : (fault_of (file_of g (table_of cycles))).no ≡ 0
  no_fault = ap (λ (s : List ℕ). (fault_of s).no) text_is ∙ ap (λ (f : Fault). f.no) (read_lines (rig_line g) (others g cycles r) clean).0

  rig_of_lem : rig_from (lines_of (file_of g (table_of cycles))) ≡ g
  rig_of_lem = ap rig_from lines_of_lem ∙ (sym (built_rig (rig_line g) (others g cycles r) clean lines_none) ∙ ap (λ (b : Built). b.rig) built_is)

  table_of_lem : table_from (lines_of (file_of g (table_of cycles))) ≡ table_of cycles
  table_of_lem = ap table_from lines_of_lem ∙ (sym (built_table (rig_line g) (others g cycles r) clean lines_none) ∙ ap (λ (b : Built). b.table) built_is)

  rule_of_lem : rule_of (file_of g (table_of cycles)) ≡ 0
  unfolding broken_rule behind
  rule_of_lem =
      rw (lines_of_lem, lines_none)
      (ap behind (ap₂ first_broken (sym (ap rig_from lines_of_lem) ∙ rig_of_lem) (ap cycles_of (sym (ap table_from lines_of_lem) ∙ table_of_lem) ∙ cycles_back cycles) ∙ rig_none))

  -- "reading what was written of a right rig gives that rig"
  pub read_written : read_computed (file_of g (table_of cycles)) ≡ file_accepted g cycles
  read_written =
      all_right (file_of g (table_of cycles)) (file_fits g cycles r) no_fault rule_of_lem
      ∙ ap₂ file_accepted rig_of_lem (ap cycles_of table_of_lem ∙ cycles_back cycles)
