use native.Mathlib.Omega.{arith}
use Rattle.wiring_lines.specs.Laws.Lines.{head_wrote, field_short}
use Rattle.wiring_lines.proofs.put_head.Goals as goal

pub put_field-requires : goal.put_field-requires
put_field-requires c =
    let u = c.put_text-a.ensures in
    let v = c.put_field-b.ensures in
    omega (arith, u.place, u.size, v.place, v.size, field_short c.args.number, c.requires.0, c.requires.1)

pub returns : goal.returns
returns c = head_wrote _ _ _ _ _ _ _ _ _ _ _ c.requires.0 c.requires.1 c.put_text-a.ensures c.put_field-b.ensures c.put_field.ensures
