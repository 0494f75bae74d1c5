use mathlib.Core.Path.{refl}
use native.Mathlib.Omega.{arith}
use Rattle.rig.specs.declared.Rig.{Rig}
use Rattle.exec_offers.specs.Post.{work_in}
use Rattle.exec_offers.specs.Set.{tables_of}
use Rattle.exec_serving.specs.Set.{with_places}
use Rattle.exec_serving.specs.Laws.Serving.{short, last_ok, rest_room, turned_falls, turned_step, turned_done, heard, heard_room, heard_served}
use Rattle.exec_serving.proofs.serve.Goals as goal

pub pop-requires : goal.pop-requires
pop-requires c =
    let l = c.loop-f in
    omega (arith, short _ _ _ _ _ l.queue _ _ _ l.invariant.0)

pub offers-activated-requires-clause-room : goal.offers-activated-requires-clause-room
offers-activated-requires-clause-room c =
    let a = c.args in
    let l = c.loop-f in
    let e = c.in-Some in
    let w = c.wake-woken in
    let split = e.ensures.0 in
    let ok = last_ok _ _ _ _ _ l.queue _ _ _ l.invariant.0 e.f e.v c.pop.new.self split in
    heard_room a.rig.now a.cycle.now l.st e.f e.v ok _ _ _ w.new.state w.new.links w.result c.drive.ensures c.count_soon.ensures w.ensures c.pop.new.self
    (rest_room _ _ _ _ _ l.queue _ _ _ l.invariant.0 e.f e.v c.pop.new.self split)

pub loop-f-smaller : goal.loop-f-smaller
loop-f-smaller c =
    let a = c.args in
    let l = c.loop-f in
    let e = c.in-Some in
    let w = c.wake-woken in
    let o = c.offers-activated in
    let split = e.ensures.0 in
    let ok = last_ok _ _ _ _ _ l.queue _ _ _ l.invariant.0 e.f e.v c.pop.new.self split in
    let h = heard a.rig.now a.cycle.now l.st e.f e.v ok _ _ _ w.new.state w.new.links w.result c.drive.ensures c.count_soon.ensures w.ensures in
    let r = work_in h o.new.cond o.new.state o.new.queue in
    turned_falls _ _ _ _ _ l.queue _ _ _ l.invariant.0 e.f e.v c.pop.new.self split c.requires.fits.flags r _ _
    (heard_served a.rig.now a.cycle.now l.st e.f e.v ok _ _ _ w.new.state w.new.links w.result c.drive.ensures c.count_soon.ensures w.ensures
    c.pop.new.self r o.result (o.ensures.offering a.rig.now h) l.invariant.0.chains o.ensures.many)

pub loop-f-preserved : goal.loop-f-preserved
loop-f-preserved c =
    let each = (λ (g : Rig).
    let a = c.args in
    let rig : Rig = tables_of a.rig.now (with_places a.rig.now.line_pos g) in
    let l = c.loop-f in
    let e = c.in-Some in
    let w = c.wake-woken in
    let o = c.offers-activated in
    let split = e.ensures.0 in
    let ok = last_ok _ _ _ _ _ l.queue _ _ _ (l.invariant.1 g) e.f e.v c.pop.new.self split in
    let h = heard rig a.cycle.now l.st e.f e.v ok _ _ _ w.new.state w.new.links w.result c.drive.ensures c.count_soon.ensures w.ensures in
    let r = work_in h o.new.cond o.new.state o.new.queue in
    turned_step _ _ _ _ _ l.queue _ _ _ (l.invariant.1 g) e.f e.v c.pop.new.self split c.requires.fits.flags r _ _
    (heard_served rig a.cycle.now l.st e.f e.v ok _ _ _ w.new.state w.new.links w.result c.drive.ensures c.count_soon.ensures w.ensures
    c.pop.new.self r o.result (o.ensures.offering (with_places a.rig.now.line_pos g) h) (l.invariant.1 g).chains o.ensures.many)
    w.ensures.few o.ensures.few _ refl) in
    (each c.args.rig.now, each)

pub returns : goal.returns
returns c = λ g.
    let l = c.loop-f in
    turned_done _ _ _ _ l.st l.queue l.served l.woken l.activated (l.invariant.1 g) c.in_default.ensures.0
