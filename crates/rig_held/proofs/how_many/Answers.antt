use native.Mathlib.Omega.{arith}
use Rattle.std.specs.Prelude.{ℕ, ◌+◌}
use Rattle.std.proofs.Common.{sym, ap, ◌∙◌}
use Rattle.rig_lines.specs.Kind.{kind_number}
use Rattle.rig_lines.specs.Laws.Kind.{same_yes, same_no}
use Rattle.rig_lines.specs.Whole.{is_kind, how_many}
use Rattle.rig_held.specs.Laws.Lines.{held_all}
use Rattle.rig_held.specs.Laws.Rules.{many_none, many_yes, many_no, kind_yes, kind_no}
use Rattle.rig_held.proofs.how_many.Goals as goal
use Rattle.rig_held.proofs.how_many.Goals.{then-eq, else-eq}

pub loop-line-init : goal.loop-line-init
loop-line-init c = (omega arith, sym (many_none _))

pub loop-line-preserved : goal.loop-line-preserved
loop-line-preserved c =
    let w = c.loop-line.invariant in
    let h = c.loop-line-test.true in
    elim c.if-eq.branch [
      | then-eq v ↦ (omega (arith, v.c-is, w.0), v.c-is ∙ (ap (λ (n : ℕ). n + 1) w.1 ∙ sym (many_yes _ _ _ _ h (kind_yes _ _ (same_yes _ c.args.kind _ c.eq.ensures v.if-eq.true)))))
      | else-eq v ↦ (omega (arith, v.c-is, w.0), v.c-is ∙ (w.1 ∙ sym (many_no _ _ _ _ h (kind_no _ _ (same_no _ c.args.kind _ c.eq.ensures v.if-eq.false)))))
    ]

pub returns : goal.returns
returns c =
    let w = c.loop-line.invariant in
    (w.1 ∙ ap (how_many (is_kind (kind_number c.args.kind))) (held_all _ _ c.loop-line-test.false), omega (arith, w.0, c.loop-line.auto.line-index-end))
