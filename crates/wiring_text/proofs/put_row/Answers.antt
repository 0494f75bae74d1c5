use Rattle.compool.specs.View.{row_of}
use Rattle.wiring_text.specs.Laws.{row_wrote}
use Rattle.wiring_text.proofs.put_row.Goals as goal

pub returns : goal.returns
returns c =
    let a = c.args in
    row_wrote a.table a.number (row_of a.row.now) c.row_cycles-cycles.result c.frame-times.result _ _ _ _ c.row_cycles-cycles.ensures c.frame-times.ensures c.put_line.ensures
