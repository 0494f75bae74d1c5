use native.Mathlib.Omega.{arith}
use lib.Dec.{lit<}
use Rattle.chains.specs.Laws.Front.{leaving_own, leaving_falls}
use Rattle.chains.specs.Read.{chains_of}
use Rattle.exec_state.specs.Set.{put_links}
use Rattle.exec_waking.specs.Laws.Due.{waking_start, waking_step, waking_done, wakes_kept, wakes_later}
use Rattle.exec_waking.proofs.wake_due.Goals as goal

pub loop-v-init : goal.loop-v-init
loop-v-init c = waking_start c.args.st.now c.requires.holds_chains c.requires.timed

pub offset_bounds-st-v : goal.offset_bounds-st-v
offset_bounds-st-v c =
    let l = c.loop-v in
    omega (arith, leaving_own 65 (lit< tt) (lit< tt) (chains_of c.args.st.now.links) l.st.links l.v l.invariant.leaving c.loop-v-test.true)

pub bounds-st-v : goal.bounds-st-v
bounds-st-v c =
    let l = c.loop-v in
    omega (arith, leaving_own 65 (lit< tt) (lit< tt) (chains_of c.args.st.now.links) l.st.links l.v l.invariant.leaving c.loop-v-test.true)

pub unlink-requires-clause-t_nonzero : goal.unlink-requires-clause-t_nonzero
unlink-requires-clause-t_nonzero c =
    let l = c.loop-v in
    let own = leaving_own 65 (lit< tt) (lit< tt) (chains_of c.args.st.now.links) l.st.links l.v l.invariant.leaving c.loop-v-test.true in
    (own.0, own.1, omega (arith, own.2))

pub loop-v-smaller : goal.loop-v-smaller
loop-v-smaller c =
    let l = c.loop-v in
    leaving_falls 65 (lit< tt) (lit< tt) (chains_of c.args.st.now.links) l.st.links l.v l.invariant.leaving c.loop-v-test.true c.unlink.new.l c.unlink.ensures

pub loop-v-preserved : goal.loop-v-preserved
loop-v-preserved c =
    let l = c.loop-v in
    waking_step c.args.st.now (put_links l.st c.args.st.now.links) l.st.links l.v l.invariant c.loop-v-test.true (wakes_kept _ _ _ _ l.invariant c.if-count-st.false)
    c.unlink.new.l c.unlink.ensures

pub returns-after-loop-v : goal.returns-after-loop-v
returns-after-loop-v c =
    let l = c.loop-v in
    waking_done c.args.st.now (put_links l.st c.args.st.now.links) l.st.links l.v l.invariant (λ n. absurd (n c.loop-v-test.false))

pub returns-then-count-st : goal.returns-then-count-st
returns-then-count-st c =
    let l = c.loop-v in
    waking_done c.args.st.now (put_links l.st c.args.st.now.links) l.st.links l.v l.invariant (λ n. wakes_later _ _ _ _ l.invariant c.if-count-st.true)
