-- The answer's number and line fit, and the sheet or the refusal is what the file's text asks for.
use Rattle.std.proofs.Common.{rules}
use Rattle.wiring_sheet.specs.Laws.{fits, line_small, sheet_refused, sheet_right}
use Rattle.wiring_sheet.proofs.sheet.Goals as goal

pub overflow_cast-a-then-a-ne0 : goal.overflow_cast-a-then-a-ne0
overflow_cast-a-then-a-ne0 c = let h = line_small _ c.read-a.result c.read-a.ensures in search (rules, h)

pub returns-then-a-ne0 : goal.returns-then-a-ne0
returns-then-a-ne0 c = sheet_refused _ c.read-a.result c.read-a.ensures _ _ _ _ c.if-a-ne0.true c.put_refused.ensures

pub returns : goal.returns
returns c = sheet_right _ c.read-a.result c.read-a.ensures _ _ _ _ c.if-a-ne0.false c.put_sheet.ensures

pub put_sheet-requires : goal.put_sheet-requires
put_sheet-requires c = (fits _ c.read-a.result c.read-a.ensures c.if-a-ne0.false, search rules)
