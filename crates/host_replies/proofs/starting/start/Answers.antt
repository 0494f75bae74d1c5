use Rattle.host_replies.specs.Laws.Beginning.{line_fits, file_refused_lem, file_started}
use borrow.Author.Rules.{rules}
use Rattle.host_replies.proofs.starting.start.Goals as goal

-- src/starting.rt:28:37
pub overflow_cast-a-then-a-ne0 : goal.overflow_cast-a-then-a-ne0
overflow_cast-a-then-a-ne0 c =
    let r = c in
    let k = line_fits r.args.file.now r.read-a.result r.read-a.ensures in
    search rules

-- src/starting.rt:28:9
pub returns-then-a-ne0 : goal.returns-then-a-ne0
returns-then-a-ne0 c =
    let r = c in
    file_refused_lem r.args.file.now r.read-a.result r.read-a.ensures c.if-a-ne0.true c.refused.result c.refused.ensures

-- src/starting.rt:23:1
pub returns : goal.returns
returns c =
    let r = c in
    let t = c.table_of in
    file_started r.args.file.now r.read-a.result r.read-a.ensures c.if-a-ne0.false t.result t.ensures c.start.result c.start.ensures c.told.result c.told.ensures
