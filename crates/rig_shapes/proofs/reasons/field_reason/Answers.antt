use mathlib.Core.Path.{sym, refl, ap, ◌∙◌}
use Rattle.rig_lines.specs.Kind.{kind_report}
use Rattle.rig_lines.specs.Kinds.{count_of}
use Rattle.laws.specs.Cases.{if_yes, if_no}
use Rattle.rig_shapes.specs.Shape.{field_reason}
use Rattle.rig_shapes.specs.Laws.{some_kind, is_so_built, is_not, is_below, is_above}
use Rattle.rig_shapes.proofs.reasons.field_reason.Goals as goal

pub returns-in_default : goal.returns-in_default
unfolding field_reason
returns-in_default c = sym (if_yes _ (is_so_built c.in_default.ensures 0 refl) refl)

pub returns-then-have-want : goal.returns-then-have-want
unfolding field_reason
returns-then-have-want c =
    let k = sym (ap kind_report c.in-Some.is) ∙ c.kind.ensures in
    let w = c.count-want.ensures.0 ∙ ap count_of k in
    let n = c.many-have.ensures in
    sym (if_no _ (is_not k 0 (some_kind c.in-Some.kind)) (if_yes _ (is_below n w c.if-have-want.true) refl))

pub returns-then-want-have : goal.returns-then-want-have
unfolding field_reason
returns-then-want-have c =
    let k = sym (ap kind_report c.in-Some.is) ∙ c.kind.ensures in
    let w = c.count-want.ensures.0 ∙ ap count_of k in
    let n = c.many-have.ensures in
    sym (if_no _ (is_not k 0 (some_kind c.in-Some.kind)) (if_no _ (is_above n w c.if-have-want.false) (if_yes _ (is_below w n c.if-want-have.true) refl)))

pub returns-then-has_spare_zero : goal.returns-then-has_spare_zero
unfolding field_reason
returns-then-has_spare_zero c =
    let k = sym (ap kind_report c.in-Some.is) ∙ c.kind.ensures in
    let w = c.count-want.ensures.0 ∙ ap count_of k in
    let n = c.many-have.ensures in
    sym (if_no _ (is_not k 0 (some_kind c.in-Some.kind)) (if_no _ (is_above n w c.if-have-want.false) (if_no _ (is_above w n c.if-want-have.false) (if_yes _ (sym c.has_spare_zero.ensures ∙ c.if-has_spare_zero.true) refl))))

pub returns : goal.returns
unfolding field_reason
returns c =
    let k = sym (ap kind_report c.in-Some.is) ∙ c.kind.ensures in
    let w = c.count-want.ensures.0 ∙ ap count_of k in
    let n = c.many-have.ensures in
    sym (if_no _ (is_not k 0 (some_kind c.in-Some.kind)) (if_no _ (is_above n w c.if-have-want.false) (if_no _ (is_above w n c.if-want-have.false) (if_no _ (sym c.has_spare_zero.ensures ∙ c.if-has_spare_zero.false) refl))))
