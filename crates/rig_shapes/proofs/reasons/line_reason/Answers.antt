use mathlib.Core.Path.{sym, refl, ◌∙◌}
use Rattle.laws.specs.Cases.{if_yes, if_no}
use Rattle.rig_shapes.specs.Shape.{line_reason}
use Rattle.rig_shapes.proofs.reasons.line_reason.Goals as goal

pub returns-then-is_marked : goal.returns-then-is_marked
unfolding line_reason
returns-then-is_marked c = sym (if_yes _ (sym c.is_marked.ensures ∙ c.if-is_marked.true) refl)

pub returns-then-has : goal.returns-then-has
unfolding line_reason
returns-then-has c = sym (if_no _ (sym c.is_marked.ensures ∙ c.if-is_marked.false) (if_yes _ (sym c.has.ensures ∙ c.if-has.true) refl))

pub returns-then-is_empty : goal.returns-then-is_empty
unfolding line_reason
returns-then-is_empty c = sym (if_no _ (sym c.is_marked.ensures ∙ c.if-is_marked.false) (if_no _ (sym c.has.ensures ∙ c.if-has.false) (if_yes _ (sym c.is_empty.ensures ∙ c.if-is_empty.true) refl)))

pub returns-then-has-2 : goal.returns-then-has-2
unfolding line_reason
returns-then-has-2 c = sym (if_no _ (sym c.is_marked.ensures ∙ c.if-is_marked.false) (if_no _ (sym c.has.ensures ∙ c.if-has.false) (if_no _ (sym c.is_empty.ensures ∙ c.if-is_empty.false) (if_yes _ (sym c.has-2.ensures ∙ c.if-has-2.true) refl))))

pub returns : goal.returns
unfolding line_reason
returns c = sym (if_no _ (sym c.is_marked.ensures ∙ c.if-is_marked.false) (if_no _ (sym c.has.ensures ∙ c.if-has.false) (if_no _ (sym c.is_empty.ensures ∙ c.if-is_empty.false) (if_no _ (sym c.has-2.ensures ∙ c.if-has-2.false) (sym c.field_reason.ensures)))))
