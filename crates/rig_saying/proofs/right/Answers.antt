use native.Mathlib.Omega.{arith}
use Rattle.rig_saying.specs.Laws.{tasks_short, flags_short, conditions_short, right_wrote}
use Rattle.rig_saying.proofs.right.Goals as goal

pub put_count-b-requires : goal.put_count-b-requires
put_count-b-requires c =
    let d = tasks_short c.args.tasks in
    let u = c.put_count-a.ensures in
    (omega (arith, d, u.place, u.size, c.requires), omega arith, omega arith, omega arith)

pub put_count-c-requires : goal.put_count-c-requires
put_count-c-requires c =
    let d = tasks_short c.args.tasks in
    let e = flags_short c.args.flags in
    let u = c.put_count-a.ensures in
    let v = c.put_count-b.ensures in
    (omega (arith, d, e, u.place, u.size, v.place, v.size, c.requires), omega arith, omega arith, omega arith)

pub put_count-requires : goal.put_count-requires
put_count-requires c =
    let d = tasks_short c.args.tasks in
    let e = flags_short c.args.flags in
    let f = conditions_short c.args.conditions in
    let u = c.put_count-a.ensures in
    let v = c.put_count-b.ensures in
    let w = c.put_count-c.ensures in
    (omega (arith, d, e, f, u.place, u.size, v.place, v.size, w.place, w.size, c.requires), omega arith, omega arith, omega arith)

pub returns : goal.returns
returns c =
    let a = c.args in
    right_wrote a.out.now a.tasks a.flags a.conditions a.rows c.requires _ _ _ _ _ _ _ _ c.put_count-a.ensures c.put_count-b.ensures c.put_count-c.ensures c.put_count.ensures
