use borrow.Author.Rules.{rules}
use mathlib.Core.Path.{refl, ◌∙◌}
use lib.ListN.{length-set}
use Rattle.put_text.specs.Wrote.{Wrote}
use Rattle.put_text.specs.Laws.Wrote.{wrote_as}
use Rattle.rig_lines.specs.Kind.{kind_number}
use Rattle.rig_lines.specs.Kinds.{count_of, name_of}
use Rattle.rig_print.specs.Laws.Line.{name_room, fields_room, end_room, line_wrote}
use Rattle.rig_print.proofs.put_line.Goals as goal

pub put_text-p-requires : goal.put_text-p-requires
put_text-p-requires c =
    let a = c.args in
    rw c.name.ensures (name_room a.buf.now a.at (kind_number a.kind) a.v (count_of (kind_number a.kind)) refl c.requires)

pub put_fields-q-requires : goal.put_fields-q-requires
put_fields-q-requires c =
    let a = c.args in
    let n = c.count in
    let u = c.put_text-p in
    let w : Wrote a.buf.now a.at (name_of (kind_number a.kind)) u.new.out u.result = wrote_as _ _ _ _ _ _ c.name.ensures u.ensures in
    (n.ensures.1, fields_room a.buf.now a.at (kind_number a.kind) a.v n.result n.ensures.0 c.requires u.new.out u.result w)

pub bounds-buf-q : goal.bounds-buf-q
bounds-buf-q c =
    let a = c.args in
    let n = c.count in
    let u = c.put_text-p in
    let w : Wrote a.buf.now a.at (name_of (kind_number a.kind)) u.new.out u.result = wrote_as _ _ _ _ _ _ c.name.ensures u.ensures in
    let t = c.put_fields-q in
    end_room a.buf.now a.at (kind_number a.kind) a.v n.result n.ensures.0 c.requires u.new.out u.result w t.new.buf t.result t.ensures

pub overflow_add-result : goal.overflow_add-result
overflow_add-result c =
    let r = bounds-buf-q c in
    search rules

pub shape_of-buf : goal.shape_of-buf
shape_of-buf c = simp length-set (c.put_fields-q.ensures.size ∙ c.put_text-p.ensures.size)

pub returns : goal.returns
returns c =
    let a = c.args in
    let n = c.count in
    let u = c.put_text-p in
    let w : Wrote a.buf.now a.at (name_of (kind_number a.kind)) u.new.out u.result = wrote_as _ _ _ _ _ _ c.name.ensures u.ensures in
    let t = c.put_fields-q in
    line_wrote a.buf.now a.at (kind_number a.kind) a.v n.result n.ensures.0 c.requires u.new.out u.result w t.new.buf t.result t.ensures
