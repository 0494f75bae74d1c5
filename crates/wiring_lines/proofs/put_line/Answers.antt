use Rattle.laws.specs.Tables as tables
use Rattle.wiring_lines.specs.Laws.Lines.{rest_room, end_room, line_wrote}
use Rattle.wiring_lines.proofs.put_line.Goals as goal

pub put_rest-b-requires : goal.put_rest-b-requires
put_rest-b-requires c =
    let a = c.args in
    let h = c.requires in
    (h.1, rest_room a.table a.name.now a.number a.times (tables.at a.cycles.now) a.more.now h.0 h.1 _ _ _ _ h.2 c.put_head-a.ensures)

pub put_end-requires : goal.put_end-requires
put_end-requires c =
    let a = c.args in
    let h = c.requires in
    end_room a.table a.name.now a.number a.times (tables.at a.cycles.now) a.more.now h.0 h.1 _ _ _ _ h.2 c.put_head-a.ensures _ _ c.put_rest-b.ensures

pub returns : goal.returns
returns c =
    let a = c.args in
    let h = c.requires in
    line_wrote a.table a.name.now a.number a.times (tables.at a.cycles.now) a.more.now h.0 h.1 _ _ _ _ h.2 c.put_head-a.ensures _ _ c.put_rest-b.ensures _ _ c.put_end.ensures
