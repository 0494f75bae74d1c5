use mathlib.Core.Path.{refl, sym, ap, ◌∙◌}
use native.Mathlib.Omega.{arith}
use Rattle.text.specs.Split.{part}
use Rattle.rig_build.specs.Read.{whole_file}
use Rattle.rig_build.specs.Laws.Answers.{by_fault, by_whole}
use Rattle.rig_held.specs.Held.{held}
use Rattle.rig_lines.specs.Laws.Kind.{kind_known}
use Rattle.rig_read.proofs.Inv.{lines_start, as_counted, leave_open, leave_empty, leave_clean, leave_held, leave_begins, not_known, fields_start, too_many, no_number, fields_turn, too_few, fields_end, unsized, bytes, misplaced, next_line}
use Rattle.rig_read.proofs.read_lines.Goals as goal
use Rattle.rig_read.proofs.read_lines.Goals.{then-at-n-via-then-at-n, then-at-n-via-else-at-n+then-count-eq0, then-m-f-via-then-m-f, then-m-f-via-else-m-f+then-x-gt-CAP}

pub lines-init : goal.lines-init
lines-init c = rw c.none-held.ensures (lines_start _ _ refl c.requires)

pub whole_of-r-requires-clause-begins : goal.whole_of-r-requires-clause-begins
whole_of-r-requires-clause-begins c =
    let w = as_counted _ _ _ _ _ _ c.lines-count.ensures c.lines.invariant in
    rw c.lines-then-e-n.ensures (leave_begins _ _ _ _ _ _ _ w (c.line_of-e.ensures.0 w.low) c.if-e-n.true c.if-at-n.false c.if-count-eq0.false)

pub fields-init : goal.fields-init
unfolding part
fields-init c =
    let w = as_counted _ _ _ _ _ _ c.lines-count.ensures c.lines.invariant in
    let e = c.line_of-e.ensures.0 w.low in
    let k = kind_known c.in-Some.kind in
    fields_start _ _ _ _ _ _ _ _ _ (record { lines = w; end = e; inside = omega (arith, e.high, c.if-e-n.false); name = c.find-q.ensures; kind = c.in-Some.ensures }) _
    (record { known = k.0; few = k.1; count = c.count-m.ensures.0; nine = c.count-m.ensures.1 })

pub fields-preserved : goal.fields-preserved
unfolding part
fields-preserved c = fields_turn _ _ _ _ _ _ _ _ _ _ _ _ _ c.fields.invariant _ _ c.fields-test.true c.find-b.ensures c.number_in-x.ensures c.if-m-f.false c.if-x-gt-CAP.false

pub bytes_of-requires : goal.bytes_of-requires
bytes_of-requires c = bytes _ _ _ _ _ _ _ _ _ _ _ (fields_end _ _ _ _ _ _ _ _ _ _ _ _ _ c.fields.invariant c.fields-test.false c.if-f-m.false) c.if-not-sized.ensures

pub lines-preserved : goal.lines-preserved
lines-preserved c =
    next_line _ _ _ _ _ _ _ _ _ _ _ (fields_end _ _ _ _ _ _ _ _ _ _ _ _ _ c.fields.invariant c.fields-test.false c.if-f-m.false) c.if-not-sized.ensures
    _ c.place_of-here.ensures c.if-not-in_order.ensures _ refl _ c.bytes_of.ensures _ c.hold.ensures

pub returns-then-at-n : goal.returns-then-at-n
returns-then-at-n c =
    let w = as_counted _ _ _ _ _ _ c.lines-count.ensures c.lines.invariant in
    c.refused-r.ensures ∙ by_fault _ 0 _ (elim c.then-at-n.branch [
      | then-at-n-via-then-at-n v ↦ leave_open _ _ _ _ _ _ _ w (c.line_of-e.ensures.0 w.low) c.if-e-n.true v.if-at-n.true
      | then-at-n-via-else-at-n+then-count-eq0 v ↦ leave_empty _ _ _ _ _ _ _ w (c.line_of-e.ensures.0 w.low) c.if-e-n.true v.if-count-eq0.true
    ])

pub returns-else-count-eq0 : goal.returns-else-count-eq0
returns-else-count-eq0 c =
    let w = as_counted _ _ _ _ _ _ c.lines-count.ensures c.lines.invariant in
    let e = c.line_of-e.ensures.0 w.low in
    c.whole_of-r.ensures ∙ (ap whole_file (ap held c.lines-then-e-n.ensures ∙ leave_held _ _ _ _ _ _ _ w e c.if-e-n.true c.if-at-n.false c.if-count-eq0.false)
    ∙ by_whole _ (leave_clean _ _ _ _ _ _ _ w e c.if-e-n.true c.if-at-n.false c.if-count-eq0.false))

pub returns-in_default : goal.returns-in_default
unfolding part
returns-in_default c =
    let w = as_counted _ _ _ _ _ _ c.lines-count.ensures c.lines.invariant in
    let e = c.line_of-e.ensures.0 w.low in
    c.refused-r-in_default.ensures ∙ by_fault _ 0 _
    (not_known _ _ _ _ _ _ _ _ _ (record { lines = w; end = e; inside = omega (arith, e.high, c.if-e-n.false); name = c.find-q.ensures; kind = c.in_default.ensures }) refl)

pub returns-then-m-f : goal.returns-then-m-f
unfolding part
returns-then-m-f c =
    c.refused-r-then-m-f.ensures ∙ by_fault _ 0 _ (elim c.then-m-f.branch [
      | then-m-f-via-then-m-f v ↦ too_many _ _ _ _ _ _ _ _ _ _ _ _ _ c.fields.invariant _ _ c.fields-test.true c.find-b.ensures c.number_in-x.ensures v.if-m-f.true
      | then-m-f-via-else-m-f+then-x-gt-CAP v ↦ no_number _ _ _ _ _ _ _ _ _ _ _ _ _ c.fields.invariant _ _ c.fields-test.true c.find-b.ensures c.number_in-x.ensures v.if-x-gt-CAP.true
    ])

pub returns-then-f-m : goal.returns-then-f-m
returns-then-f-m c = c.refused-r-then-f-m.ensures ∙ by_fault _ 0 _ (too_few _ _ _ _ _ _ _ _ _ _ _ _ _ c.fields.invariant c.fields-test.false c.if-f-m.true)

pub returns-then-not-sized : goal.returns-then-not-sized
returns-then-not-sized c =
    c.refused-r-then-not-sized.ensures
    ∙ by_fault _ 1 _ (unsized _ _ _ _ _ _ _ _ _ _ _ (fields_end _ _ _ _ _ _ _ _ _ _ _ _ _ c.fields.invariant c.fields-test.false c.if-f-m.false) c.if-not-sized.ensures)

pub returns-then-not-in_order : goal.returns-then-not-in_order
returns-then-not-in_order c =
    c.refused-r-then-not-in_order.ensures
    ∙ by_fault _ 2 _ (misplaced _ _ _ _ _ _ _ _ _ _ _ (fields_end _ _ _ _ _ _ _ _ _ _ _ _ _ c.fields.invariant c.fields-test.false c.if-f-m.false) c.if-not-sized.ensures _ c.place_of-here.ensures c.if-not-in_order.ensures)
