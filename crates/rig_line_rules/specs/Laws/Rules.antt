-- The first rule that lines break, from what was asked of them.
-- Assumes nothing.
use Rattle.std.specs.Prelude.{ℕ, suc, ◌≤◌, ◌<◌, ◌≡◌, ◌≢◌, Bool, true, false, List, [], ◌∷◌, leb, ltb, eqb, get_or}
use Rattle.std.proofs.Common.{sym, ap, ◌∙◌, arith, add-one, le-leb}
use Rattle.std.proofs.lemmas.Bool.{lt-leb}
use Rattle.laws.specs.All.{all}
use Rattle.laws.specs.Laws.All.{all_same}
use Rattle.laws.specs.First.{first_false}
use Rattle.laws.specs.Laws.First.{first_none, first_skip, first_here}
use Rattle.rig_lines.specs.Kinds.{kind_a, kind_b}
use Rattle.rig_lines.specs.Whole.{is_kind, is_task_line, is_flag_line, how_many, every, line_under, has_task, few_flags, line_tests}
use Rattle.rig_held.specs.declared.Line.{Line as HeldLine}
use Rattle.rig_held.specs.Held.{held, Begins}
use Rattle.rig_held.specs.Laws.Rules.{held_tasks, held_flags}
use Rattle.rig_marks.specs.Marks.{marked_one, few_one}
use Rattle.rig_line_rules.specs.declared.LineRule.{LineRule}
use Rattle.rig_line_rules.specs.declared.LineRule.TheVariants.{NumberAbove, TooManyLines, TooManyRows, TaskWithoutLine, TooManyFlags}
use Rattle.rig_line_rules.specs.Rules.{line_rule_number}

module _ (l : List HeldLine) (d : HeldLine) (begins : Begins l) where
  tests : line_tests (held l) ≡
      every (line_under (get_or (get_or l 0 d).numbers 1 0) (get_or (get_or l 0 d).numbers 2 0)) (held l) ∷ leb (how_many (is_kind kind_a) (held l)) 1024 ∷ leb (how_many (is_kind kind_b) (held l)) 64 ∷
      all (get_or (get_or l 0 d).numbers 1 0) (has_task (held l)) ∷ all 64 (few_flags (held l)) ∷ []
  unfolding line_tests
  tests = rw (held_tasks l d begins, held_flags l d begins)

  pub rule_1 : every (line_under (get_or (get_or l 0 d).numbers 1 0) (get_or (get_or l 0 d).numbers 2 0)) (held l) ≡ false → 1 ≡ first_false 1 (line_tests (held l))
  rule_1 e = sym (ap (first_false 1) tests ∙ first_here 1 _ _ e)

  module _ (one : every (line_under (get_or (get_or l 0 d).numbers 1 0) (get_or (get_or l 0 d).numbers 2 0)) (held l) ≡ true) where
    pub rule_2 : (a : ℕ) → a ≡ how_many (is_kind kind_a) (held l) → 1024 < a → 2 ≡ first_false 1 (line_tests (held l))
    rule_2 a q h = sym (ap (first_false 1) tests ∙ (first_skip 1 _ _ one ∙ first_here 2 _ _ (lt-leb (how_many (is_kind kind_a) (held l)) 1024 (omega arith))))

    module _ (a : ℕ) (lines : a ≡ how_many (is_kind kind_a) (held l)) (two : a ≤ 1024) where
      from_3 : first_false 1 (line_tests (held l)) ≡ first_false 3 (leb (how_many (is_kind kind_b) (held l)) 64 ∷ all (get_or (get_or l 0 d).numbers 1 0) (has_task (held l)) ∷ all 64 (few_flags (held l)) ∷ [])
      from_3 = ap (first_false 1) tests ∙ (first_skip 1 _ _ one ∙ first_skip 2 _ _ (le-leb (how_many (is_kind kind_a) (held l)) 1024 (omega arith)))

      pub rule_3 : (b : ℕ) → b ≡ how_many (is_kind kind_b) (held l) → 64 < b → 3 ≡ first_false 1 (line_tests (held l))
      rule_3 b q h = sym (from_3 ∙ first_here 3 _ _ (lt-leb (how_many (is_kind kind_b) (held l)) 64 (omega arith)))

      module _ (b : ℕ) (rows : b ≡ how_many (is_kind kind_b) (held l)) (three : b ≤ 64) (has : List ℕ) (small : get_or (get_or l 0 d).numbers 1 0 < 256)
          (marks : (t : ℕ) → t < 256 → eqb (get_or has t 0) 1 ≡ ltb 0 (how_many (is_task_line t) (held l))) where
        from_4 : first_false 1 (line_tests (held l)) ≡ first_false 4 (all (get_or (get_or l 0 d).numbers 1 0) (marked_one has) ∷ all 64 (few_flags (held l)) ∷ [])
        from_4 =
            from_3 ∙ (first_skip 3 _ _ (le-leb (how_many (is_kind kind_b) (held l)) 64 (omega arith))
            ∙ ap (λ (x : Bool). first_false 4 (x ∷ all 64 (few_flags (held l)) ∷ []))
            (sym (all_same (get_or (get_or l 0 d).numbers 1 0) (marked_one has) (has_task (held l)) (λ i h. rw add-one (marks (suc i) (omega arith))))))

        pub rule_4 : all (get_or (get_or l 0 d).numbers 1 0) (marked_one has) ≡ false → 4 ≡ first_false 1 (line_tests (held l))
        rule_4 e = sym (from_4 ∙ first_here 4 _ _ e)

        module _ (four : all (get_or (get_or l 0 d).numbers 1 0) (marked_one has) ≡ true) (many : List ℕ) (counts : (c : ℕ) → c < 256 → get_or many c 0 ≡ how_many (is_flag_line c) (held l)) where
          from_5 : first_false 1 (line_tests (held l)) ≡ first_false 5 (all 64 (few_one many) ∷ [])
          from_5 =
              from_4 ∙ (first_skip 4 _ _ four
              ∙ ap (λ (x : Bool). first_false 5 (x ∷ []))
              (sym (all_same 64 (few_one many) (few_flags (held l)) (λ c h. ap (λ (x : ℕ). leb x 15) (counts c (omega arith))))))

          pub rule_5 : all 64 (few_one many) ≡ false → 5 ≡ first_false 1 (line_tests (held l))
          rule_5 e = sym (from_5 ∙ first_here 5 _ _ e)

          pub rule_none : all 64 (few_one many) ≡ true → 0 ≡ first_false 1 (line_tests (held l))
          rule_none e = sym (from_5 ∙ (first_skip 5 _ _ e ∙ first_none 6))

-- what is broken is some rule
pub some_line_rule : (r : LineRule) → line_rule_number r ≢ 0
some_line_rule NumberAbove e = absurd (omega arith)
some_line_rule TooManyLines e = absurd (omega arith)
some_line_rule TooManyRows e = absurd (omega arith)
some_line_rule TaskWithoutLine e = absurd (omega arith)
some_line_rule TooManyFlags e = absurd (omega arith)
