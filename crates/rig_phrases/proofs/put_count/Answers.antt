use native.Mathlib.Omega.{arith}
use borrow.Author.Tests.{eq-eqb, ne_eqb}
use Rattle.rig_phrases.specs.Writing.{number_length, counted_one, counted_more}
use Rattle.rig_phrases.proofs.put_count.Goals as goal

pub put_text-requires : goal.put_text-requires
put_text-requires c =
    let d = number_length c.args.n in
    let u = c.put_text-a.ensures in
    let v = c.put_number-b.ensures in
    let p = c.requires in
    omega (arith, d, u.place, u.size, v.place, v.size, p)

pub returns-then-n-eq1 : goal.returns-then-n-eq1
returns-then-n-eq1 c =
    let a = c.args in
    let p = c.requires in
    counted_one a.out.now a.at a.words.lead.now a.n a.words.one.now a.words.more.now _ _ _ _ p.0 p.1 p.2 c.put_text-a.ensures c.put_number-b.ensures (eq-eqb _ _ c.if-n-eq1.true) _ _ c.put_text.ensures

pub put_text-requires-2 : goal.put_text-requires-2
put_text-requires-2 c =
    let d = number_length c.args.n in
    let u = c.put_text-a.ensures in
    let v = c.put_number-b.ensures in
    let p = c.requires in
    omega (arith, d, u.place, u.size, v.place, v.size, p)

pub returns : goal.returns
returns c =
    let a = c.args in
    let p = c.requires in
    counted_more a.out.now a.at a.words.lead.now a.n a.words.one.now a.words.more.now _ _ _ _ p.0 p.1 p.3 c.put_text-a.ensures c.put_number-b.ensures (ne_eqb _ _ c.if-n-eq1.false) _ _ c.put_text-2.ensures
