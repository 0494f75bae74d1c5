use borrow.Author.Rules.{rules}
use mathlib.Core.Path.{sym, ◌∙◌}
use native.Mathlib.Omega.{arith}
use Rattle.rig.specs.Forms.{no_rig}
use Rattle.rig.specs.declared.Rig.{Rig}
use Rattle.exec_state.specs.Set.{put_state, put_cond}
use Rattle.exec_offers.specs.Set.{tables_of}
use Rattle.exec_offers.specs.Laws.Offers.{turned_start, turned_room, turned_no, turned_yes, turned_done, some_state}
use Rattle.exec_state.specs.declared.State.{State}
use Rattle.exec_offers.proofs.offers.Goals as goal
use Rattle.exec_offers.proofs.offers.Goals.{else-ready, then-ready}

pub loop-i-init : goal.loop-i-init
loop-i-init c =
    let rig : Rig → Rig = tables_of c.args.rig.now in
    let before : State → State = (λ s. put_cond (put_state s c.args.state.now) c.args.cond.now) in
    let b = c in
    (λ g s. turned_start (rig g) b.args.f (before s) b.args.queue.now, search rules)

pub push-requires : goal.push-requires
push-requires c =
    let rig : Rig → Rig = tables_of c.args.rig.now in
    let before : State → State = (λ s. put_cond (put_state s c.args.state.now) c.args.cond.now) in
    let within : State → State = (λ s. put_cond (put_state s c.loop-i.state) c.loop-i.cond) in
    let d = c in
    let b = c in
    omega (arith, turned_room (rig no_rig) b.args.f (before some_state) b.args.queue.now (within some_state) d.loop-i.queue d.loop-i.activated d.loop-i.i (d.loop-i.invariant.0 no_rig some_state) b.requires.room)

pub overflow_add-activated : goal.overflow_add-activated
overflow_add-activated c =
    let d = c in
    omega (arith, (d.loop-i.invariant.0 no_rig some_state).few, d.loop-i.invariant.1)

pub loop-i-preserved : goal.loop-i-preserved
loop-i-preserved c =
    let rig : Rig → Rig = tables_of c.args.rig.now in
    let before : State → State = (λ s. put_cond (put_state s c.args.state.now) c.args.cond.now) in
    let within : State → State = (λ s. put_cond (put_state s c.loop-i.state) c.loop-i.cond) in
    let d = c in
    let b = c in (
      elim c.if-ready.branch [
        | then-ready w ↦ rw (w.cond-is, w.state-is, w.queue-is, w.activated-is)
            (λ g s.
            turned_yes (rig g) b.args.f (before s) b.args.queue.now (within s) d.loop-i.queue d.loop-i.activated d.loop-i.i (d.loop-i.invariant.0 g s) (sym c.ready.ensures ∙ w.if-ready.true)
            w.relax.new.cond w.relax.ensures w.push.new.self w.push.ensures)
        | else-ready w ↦ rw (w.cond-is, w.state-is, w.queue-is, w.activated-is)
            (λ g s.
            turned_no (rig g) b.args.f (before s) b.args.queue.now (within s) d.loop-i.queue d.loop-i.activated d.loop-i.i (d.loop-i.invariant.0 g s) (sym c.ready.ensures ∙ w.if-ready.false))
      ],
      omega (arith, c.loop-i-test.true),
    )

pub returns : goal.returns
returns c =
    let rig : Rig → Rig = tables_of c.args.rig.now in
    let before : State → State = (λ s. put_cond (put_state s c.args.state.now) c.args.cond.now) in
    let within : State → State = (λ s. put_cond (put_state s c.loop-i.state) c.loop-i.cond) in
    let d = c in
    let b = c in
    let h = d.loop-i.invariant.0 no_rig some_state in
    record {
      offering = λ g s. turned_done (rig g) b.args.f (before s) b.args.queue.now (within s) d.loop-i.queue d.loop-i.activated d.loop-i.i (d.loop-i.invariant.0 g s) (omega arith);
      many = h.many;
      few = omega (arith, h.few);
    }
