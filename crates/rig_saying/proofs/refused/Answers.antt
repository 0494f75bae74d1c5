use native.Mathlib.Omega.{arith}
use Rattle.rig_saying.specs.Laws.{head_short, why_short, refused_wrote}
use Rattle.rig_saying.proofs.refused.Goals as goal

pub why-b-requires : goal.why-b-requires
why-b-requires c =
    let a = c.args in
    let d = head_short a.number a.line in
    let u = c.head-a.ensures in
    omega (arith, d, u.place, u.size, c.requires)

pub put_text-requires : goal.put_text-requires
put_text-requires c =
    let a = c.args in
    let d = head_short a.number a.line in
    let e = why_short a.file.now a.number a.line a.rule in
    let u = c.head-a.ensures in
    let v = c.why-b.ensures in
    omega (arith, d, e, u.place, u.size, v.place, v.size, c.requires)

pub returns : goal.returns
returns c =
    let a = c.args in
    refused_wrote a.out.now a.file.now a.number a.line a.rule c.requires _ _ _ _ _ _ c.head-a.ensures c.why-b.ensures c.put_text.ensures
