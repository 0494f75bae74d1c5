use native.Mathlib.Omega.{arith}
use Rattle.rig_phrases.specs.Writing.{number_length}
use Rattle.rig_saying.specs.Laws.{line_none, line_some}
use Rattle.rig_saying.proofs.line_part.Goals as goal

pub returns-then-line-eq0 : goal.returns-then-line-eq0
returns-then-line-eq0 c = line_none c.args.out.now c.args.at c.args.line c.if-line-eq0.true _ _ c.put_text.ensures

pub put_text-requires-2 : goal.put_text-requires-2
put_text-requires-2 c =
    let d = number_length c.args.line in
    let u = c.put_text-a.ensures in
    let v = c.put_number-b.ensures in
    omega (arith, d, u.place, u.size, v.place, v.size, c.requires)

pub returns : goal.returns
returns c = line_some c.args.out.now c.args.at c.args.line c.requires c.if-line-eq0.false _ _ _ _ _ _ c.put_text-a.ensures c.put_number-b.ensures c.put_text-2.ensures
