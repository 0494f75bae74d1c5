use borrow.Author.Rules.{rules}
use Prim.Native.Nat.{◌≤◌, ◌<◌}
use native.Mathlib.Omega.{arith}
use Rattle.chains.specs.Held.{at}
use Rattle.chain_tests.specs.Laws.Order.{rising_start, rising_end, rising_task, rising_falls, rising_bad, rising_step}
use Rattle.chain_tests.proofs.in_order.Goals as goal

pub loop-v-init : goal.loop-v-init
loop-v-init c =
    let s = c in
    (rising_start (at s.args.links.now.next) s.args.s s.requires.0 (at s.args.wake.now) s.args.lo s.requires.2)

pub offset_bounds-wake-v : goal.offset_bounds-wake-v
offset_bounds-wake-v c =
    let in_task : (0 < c.loop-v.v) × (c.loop-v.v ≤ 64) = (let d = c in let s = c in rising_task (at s.args.links.now.next) s.args.s s.requires.0 (at s.args.wake.now) s.args.lo d.loop-v.u d.loop-v.v d.loop-v.w d.loop-v.invariant c.loop-v-test.true) in
    omega (arith, in_task)

pub bounds-wake-v : goal.bounds-wake-v
bounds-wake-v c =
    let in_task : (0 < c.loop-v.v) × (c.loop-v.v ≤ 64) = (let d = c in let s = c in rising_task (at s.args.links.now.next) s.args.s s.requires.0 (at s.args.wake.now) s.args.lo d.loop-v.u d.loop-v.v d.loop-v.w d.loop-v.invariant c.loop-v-test.true) in
    omega (arith, in_task)

pub returns-then-x-w-clause-order : goal.returns-then-x-w-clause-order
returns-then-x-w-clause-order c =
    let d = c in
    let s = c in
    rising_bad (at s.args.links.now.next) s.args.s s.requires.0 (at s.args.wake.now) s.args.lo d.loop-v.u d.loop-v.v d.loop-v.w d.loop-v.invariant c.loop-v-test.true c.if-x-w.true

pub offset_bounds-links-u : goal.offset_bounds-links-u
offset_bounds-links-u c =
    let in_task : (0 < c.loop-v.v) × (c.loop-v.v ≤ 64) = (let d = c in let s = c in rising_task (at s.args.links.now.next) s.args.s s.requires.0 (at s.args.wake.now) s.args.lo d.loop-v.u d.loop-v.v d.loop-v.w d.loop-v.invariant c.loop-v-test.true) in
    omega (arith, in_task)

pub bounds-links-u : goal.bounds-links-u
bounds-links-u c =
    let in_task : (0 < c.loop-v.v) × (c.loop-v.v ≤ 64) = (let d = c in let s = c in rising_task (at s.args.links.now.next) s.args.s s.requires.0 (at s.args.wake.now) s.args.lo d.loop-v.u d.loop-v.v d.loop-v.w d.loop-v.invariant c.loop-v-test.true) in
    omega (arith, in_task)

pub loop-v-smaller : goal.loop-v-smaller
loop-v-smaller c =
    let n = c in
    let d = n in
    let s = c in
    rising_falls (at s.args.links.now.next) s.args.s s.requires.0 (at s.args.wake.now) s.args.lo d.loop-v.u d.loop-v.v d.loop-v.w d.loop-v.invariant n.loop-v-test.true

pub loop-v-preserved : goal.loop-v-preserved
loop-v-preserved c =
    let n = c in
    let d = n in
    let s = c in
    (rising_step (at s.args.links.now.next) s.args.s s.requires.0 (at s.args.wake.now) s.args.lo d.loop-v.u d.loop-v.v d.loop-v.w d.loop-v.invariant n.loop-v-test.true c.if-x-w.false)

pub returns-clause-order : goal.returns-clause-order
returns-clause-order c =
    let d = c in
    let s = c in
    rising_end (at s.args.links.now.next) s.args.s s.requires.0 (at s.args.wake.now) s.args.lo d.loop-v.u d.loop-v.v d.loop-v.w d.loop-v.invariant c.loop-v-test.false

pub returns-then-x-w-clause-sized : goal.returns-then-x-w-clause-sized
returns-then-x-w-clause-sized c = record { next = search rules; prev = search rules; on = search rules }

pub returns-clause-sized : goal.returns-clause-sized
returns-clause-sized c = record { next = search rules; prev = search rules; on = search rules }
