use native.Mathlib.Omega.{arith}
use Rattle.chains.specs.Laws.Held.{scan_task, scan_step, scan_falls, scan_done, scan_node, puts_at}
use Rattle.chains.proofs.place.Invariants.{earlier}
use Rattle.chains.proofs.place.Goals as goal
use Rattle.chains.proofs.place.Goals.{else-loop-v-test, then-loop-v-test+then-w-wake}

pub offset_bounds-wake-v : goal.offset_bounds-wake-v
offset_bounds-wake-v c =
    let a = c.args in
    let h = c.requires.holds_chains in
    let l = c.loop-v in
    omega (arith, scan_task a.l.now h.0 h.1 (earlier a.wake.now a.t) a.s c.requires.puts.low c.requires.puts.high l.u l.v (l.invariant h.0 h.1) c.loop-v-test.true)

pub bounds-wake-v : goal.bounds-wake-v
bounds-wake-v c =
    let a = c.args in
    let h = c.requires.holds_chains in
    let l = c.loop-v in
    omega (arith, scan_task a.l.now h.0 h.1 (earlier a.wake.now a.t) a.s c.requires.puts.low c.requires.puts.high l.u l.v (l.invariant h.0 h.1) c.loop-v-test.true)

pub offset_bounds-l-v : goal.offset_bounds-l-v
offset_bounds-l-v c =
    let a = c.args in
    let h = c.requires.holds_chains in
    let l = c.loop-v in
    omega (arith, scan_task a.l.now h.0 h.1 (earlier a.wake.now a.t) a.s c.requires.puts.low c.requires.puts.high l.u l.v (l.invariant h.0 h.1) c.loop-v-test.true)

pub bounds-l-v : goal.bounds-l-v
bounds-l-v c =
    let a = c.args in
    let h = c.requires.holds_chains in
    let l = c.loop-v in
    omega (arith, scan_task a.l.now h.0 h.1 (earlier a.wake.now a.t) a.s c.requires.puts.low c.requires.puts.high l.u l.v (l.invariant h.0 h.1) c.loop-v-test.true)

pub loop-v-smaller : goal.loop-v-smaller
loop-v-smaller c =
    let a = c.args in
    let h = c.requires.holds_chains in
    let l = c.loop-v in
    scan_falls a.l.now h.0 h.1 (earlier a.wake.now a.t) a.s c.requires.puts.low c.requires.puts.high l.u l.v (l.invariant h.0 h.1) c.loop-v-test.true c.if-w-wake.false

pub loop-v-preserved : goal.loop-v-preserved
loop-v-preserved c X h =
    let a = c.args in
    let l = c.loop-v in
    scan_step a.l.now X h (earlier a.wake.now a.t) a.s c.requires.puts.low c.requires.puts.high l.u l.v (l.invariant X h) c.loop-v-test.true c.if-w-wake.false

pub link_after-requires-clause-puts : goal.link_after-requires-clause-puts
link_after-requires-clause-puts c =
    let a = c.args in
    let h = c.requires.holds_chains in
    let l = c.loop-v in
    let n = scan_node a.l.now h.0 h.1 (earlier a.wake.now a.t) a.s c.requires.puts.low c.requires.puts.high l.u l.v (l.invariant h.0 h.1) in
    puts_at a.l.now a.s l.u a.t c.requires.puts n.0 n.1

pub returns : goal.returns
returns c X h =
    let a = c.args in
    let l = c.loop-v in
    let k = l.invariant X h in
    let e =
    scan_done a.l.now X h a.wake.now a.s a.t c.requires.puts.low c.requires.puts.high l.u l.v k
    (elim c.loop-v-test.branch [ else-loop-v-test w ↦ (λ n. absurd (n w.loop-v-test.false)) | then-loop-v-test+then-w-wake w ↦ (λ n. w.if-w-wake.true) ]) in
    rw e (c.link_after.ensures X h k.front k.back k.whole k.end)
