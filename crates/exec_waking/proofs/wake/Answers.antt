use native.Mathlib.Omega.{arith}
use Rattle.chains.specs.Laws.Front.{leaving_own, leaving_falls}
use Rattle.chains.specs.Read.{chains_of}
use Rattle.exec_waking.specs.Laws.Waking.{waking_start, waking_step, waking_few, waking_done}
use Rattle.exec_waking.proofs.wake.Goals as goal

pub loop-v-init : goal.loop-v-init
loop-v-init c = waking_start c.args.s c.requires.lt_s.0 c.requires.lt_s.1 c.args.links.now c.args.state.now c.requires.holds_chains

pub unlink-requires-clause-t_nonzero : goal.unlink-requires-clause-t_nonzero
unlink-requires-clause-t_nonzero c =
    let l = c.loop-v in
    let own = leaving_own c.args.s c.requires.lt_s.0 c.requires.lt_s.1 (chains_of c.args.links.now) l.links l.v l.invariant.leaving c.loop-v-test.true in
    (own.0, own.1, omega (arith, own.2))

pub overflow_add-woken : goal.overflow_add-woken
overflow_add-woken c =
    let l = c.loop-v in
    omega (arith, waking_few c.args.s c.requires.lt_s.0 c.requires.lt_s.1 c.args.links.now c.args.state.now l.state l.links l.v l.woken l.invariant)

pub loop-v-smaller : goal.loop-v-smaller
loop-v-smaller c =
    let l = c.loop-v in
    leaving_falls c.args.s c.requires.lt_s.0 c.requires.lt_s.1 (chains_of c.args.links.now) l.links l.v l.invariant.leaving c.loop-v-test.true c.unlink.new.l c.unlink.ensures

pub loop-v-preserved : goal.loop-v-preserved
loop-v-preserved c =
    let l = c.loop-v in
    waking_step c.args.s c.requires.lt_s.0 c.requires.lt_s.1 c.args.links.now c.args.state.now l.state l.links l.v l.woken l.invariant c.loop-v-test.true
    c.unlink.new.l c.unlink.ensures

pub returns : goal.returns
returns c =
    let l = c.loop-v in
    waking_done c.args.s c.requires.lt_s.0 c.requires.lt_s.1 c.args.links.now c.args.state.now l.state l.links l.v l.woken l.invariant c.loop-v-test.false
