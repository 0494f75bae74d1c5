use Rattle.compool.specs.View.{rows_of}
use Rattle.wiring_text.specs.Laws.{rows_room, terminals_room, sheet_wrote}
use Rattle.wiring_text.proofs.put_sheet.Goals as goal

pub put_rows-b-requires : goal.put_rows-b-requires
put_rows-b-requires c =
    let a = c.args in
    let h = c.requires in
    (h.0, rows_room a.table a.rig.now.rows (rows_of a.rig.now.row) h.0.few _ _ _ h.1 c.put_top-a.ensures)

pub put_terminals-requires : goal.put_terminals-requires
put_terminals-requires c =
    let a = c.args in
    let h = c.requires in
    (h.0, terminals_room a.table a.rig.now.rows (rows_of a.rig.now.row) h.0.few _ _ _ h.1 c.put_top-a.ensures _ _ c.put_rows-b.ensures)

pub returns : goal.returns
returns c =
    let a = c.args in
    let h = c.requires in
    sheet_wrote a.table a.rig.now.rows a.rig.now.master (rows_of a.rig.now.row) h.0.few _ _ _ _ _ _ _ h.1 c.put_top-a.ensures c.put_rows-b.ensures c.put_terminals.ensures
