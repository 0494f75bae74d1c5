use mathlib.Core.Path.{ap, ◌∙◌}
use native.Mathlib.Omega.{arith}
use lib.ListN.{length}
use Rattle.std.specs.Prelude.{Option}
use Rattle.put_text.specs.Laws.Wrote.{wrote_as}
use Rattle.rig_culprits.specs.Culprits.{rule_number}
use Rattle.rig_culprits.specs.declared.Rule.{Rule}
use Rattle.rig_shapes.specs.Shape.{reason_number}
use Rattle.rig_rule_sentences.specs.Sentences.{rule_sentence}
use Rattle.rig_rule_sentences.specs.Laws.Sentences.{sentence_of}
use Rattle.rig_saying.specs.Laws.{rule_short, shape_short, line_short, why_rule, why_shape, why_line}
use Rattle.rig_saying.proofs.why.Goals as goal

pub put_text-a-requires : goal.put_text-a-requires
put_text-a-requires c =
    let d = rule_short c.args.rule in
    let e = ap length (c.of_rule-sentence.ensures ∙ (ap (λ (r : Option Rule). rule_sentence (rule_number r)) c.of_number.ensures ∙ sentence_of c.args.rule)) in
    omega (arith, d, e, c.requires)

pub culprit-requires : goal.culprit-requires
culprit-requires c =
    let d = rule_short c.args.rule in
    let e = ap length (c.of_rule-sentence.ensures ∙ (ap (λ (r : Option Rule). rule_sentence (rule_number r)) c.of_number.ensures ∙ sentence_of c.args.rule)) in
    let u = c.put_text-a.ensures in
    omega (arith, d, e, u.place, u.size, c.requires)

pub returns-then-number-eq4 : goal.returns-then-number-eq4
returns-then-number-eq4 c =
    let a = c.args in
    let e = c.of_rule-sentence.ensures ∙ (ap (λ (r : Option Rule). rule_sentence (rule_number r)) c.of_number.ensures ∙ sentence_of c.args.rule) in
    why_rule a.out.now a.at a.file.now a.number a.line a.rule c.requires c.if-number-eq4.true _ c.culprit_of.ensures _ _ _ _ (wrote_as _ _ _ _ _ _ e c.put_text-a.ensures) c.culprit.ensures

pub put_text-requires : goal.put_text-requires
put_text-requires c =
    let d = ap length c.of_shape-sentence.ensures in
    let e = shape_short (reason_number c.why.result) in
    omega (arith, d, e, c.requires)

pub returns-then-number-eq1 : goal.returns-then-number-eq1
returns-then-number-eq1 c =
    let a = c.args in
    why_shape a.out.now a.at a.file.now a.number a.line a.rule c.if-number-eq4.false c.if-number-eq1.true _ c.why.ensures _ _ (wrote_as _ _ _ _ _ _ c.of_shape-sentence.ensures c.put_text.ensures)

pub put_text-requires-2 : goal.put_text-requires-2
put_text-requires-2 c =
    let d = ap length c.of_line.ensures in
    let e = line_short c.args.number c.args.line in
    omega (arith, d, e, c.requires)

pub returns : goal.returns
returns c =
    let a = c.args in
    why_line a.out.now a.at a.file.now a.number a.line a.rule c.if-number-eq4.false c.if-number-eq1.false _ _ (wrote_as _ _ _ _ _ _ c.of_line.ensures c.put_text-2.ensures)
