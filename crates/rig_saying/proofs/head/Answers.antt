use native.Mathlib.Omega.{arith}
use Rattle.rig_phrases.specs.Writing.{number_length}
use Rattle.rig_saying.specs.Laws.{head_wrote}
use Rattle.rig_saying.proofs.head.Goals as goal

pub line_part-requires : goal.line_part-requires
line_part-requires c =
    let d = number_length c.args.number in
    let u = c.put_text-a.ensures in
    let v = c.put_number-b.ensures in
    omega (arith, d, u.place, u.size, v.place, v.size, c.requires)

pub returns : goal.returns
returns c = head_wrote c.args.out.now c.args.number c.args.line c.requires _ _ _ _ _ _ c.put_text-a.ensures c.put_number-b.ensures c.line_part.ensures
