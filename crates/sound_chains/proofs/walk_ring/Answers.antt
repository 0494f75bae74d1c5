use borrow.Author.Rules.{rules}
use borrow.Author.Tests.{not-false}
use mathlib.Core.Bool.{true}
use native.Mathlib.Omega.{arith}
use Prim.Native.Nat.{◌≤◌, ◌<◌}
use mathlib.Core.Path.{◌≡◌, sym, ◌∙◌}
use Rattle.chains.specs.Held.{at}
use Rattle.chains.specs.Laws.Check.{stepb, step_out}
use Rattle.sound_chains.specs.Laws.{ring_start, ring_turn, ring_over, ring_spent, ring_wrong}
use Rattle.sound_chains.proofs.walk_ring.Goals as goal

pub loop-v-init : goal.loop-v-init
loop-v-init c =
    let s = c in
    (ring_start s.args.links.now s.args.s s.args.seen.now s.requires.0 (search rules))

pub returns-then-left-eq0 : goal.returns-then-left-eq0
returns-then-left-eq0 c =
    let d = c in
    let s = c in
    ring_spent s.args.links.now s.args.s s.args.seen.now s.requires.0 d.loop-v.seen d.loop-v.left d.loop-v.u d.loop-v.v d.loop-v.invariant c.loop-v-test.true c.if-left-eq0.true

pub returns-then-not-step_ok : goal.returns-then-not-step_ok
returns-then-not-step_ok c =
    let d = c in
    let s = c in
    ring_wrong s.args.links.now s.args.s s.args.seen.now s.requires.0 d.loop-v.seen d.loop-v.left d.loop-v.u d.loop-v.v d.loop-v.invariant c.loop-v-test.true c.step_ok.result c.step_ok.ensures c.if-not-step_ok.true-raw

pub bounds-seen-v : goal.bounds-seen-v
bounds-seen-v c =
    let right : stepb (at c.args.links.now.prev) (at c.args.links.now.on) 64 c.args.s c.loop-v.u c.loop-v.v ≡ true = (sym c.step_ok.ensures ∙ not-false c.step_ok.result c.if-not-step_ok.false-raw) in
    let task : (0 < c.loop-v.v) × (c.loop-v.v ≤ 64) = (let d = c in let s = c in let k = step_out (at s.args.links.now.next) (at s.args.links.now.prev) (at s.args.links.now.on) 64 s.args.s s.requires.0 d.loop-v.u d.loop-v.v (right) in (k.0, k.1)) in
    omega (arith, task)

pub offset_bounds-links-v : goal.offset_bounds-links-v
offset_bounds-links-v c =
    let right : stepb (at c.args.links.now.prev) (at c.args.links.now.on) 64 c.args.s c.loop-v.u c.loop-v.v ≡ true = (sym c.step_ok.ensures ∙ not-false c.step_ok.result c.if-not-step_ok.false-raw) in
    let task : (0 < c.loop-v.v) × (c.loop-v.v ≤ 64) = (let d = c in let s = c in let k = step_out (at s.args.links.now.next) (at s.args.links.now.prev) (at s.args.links.now.on) 64 s.args.s s.requires.0 d.loop-v.u d.loop-v.v (right) in (k.0, k.1)) in
    omega (arith, task)

pub bounds-links-v : goal.bounds-links-v
bounds-links-v c =
    let right : stepb (at c.args.links.now.prev) (at c.args.links.now.on) 64 c.args.s c.loop-v.u c.loop-v.v ≡ true = (sym c.step_ok.ensures ∙ not-false c.step_ok.result c.if-not-step_ok.false-raw) in
    let task : (0 < c.loop-v.v) × (c.loop-v.v ≤ 64) = (let d = c in let s = c in let k = step_out (at s.args.links.now.next) (at s.args.links.now.prev) (at s.args.links.now.on) 64 s.args.s s.requires.0 d.loop-v.u d.loop-v.v (right) in (k.0, k.1)) in
    omega (arith, task)

pub loop-v-preserved : goal.loop-v-preserved
loop-v-preserved c =
    let right : stepb (at c.args.links.now.prev) (at c.args.links.now.on) 64 c.args.s c.loop-v.u c.loop-v.v ≡ true = (sym c.step_ok.ensures ∙ not-false c.step_ok.result c.if-not-step_ok.false-raw) in
    let e = c in
    let d = c in
    let s = c in
    (ring_turn s.args.links.now s.args.s s.args.seen.now s.requires.0 d.loop-v.seen d.loop-v.left d.loop-v.u d.loop-v.v d.loop-v.invariant
    c.loop-v-test.true c.if-left-eq0.false (right))

pub returns : goal.returns
returns c =
    let d = c in
    let s = c in
    (ring_over s.args.links.now s.args.s s.args.seen.now s.requires.0 d.loop-v.seen d.loop-v.left d.loop-v.u d.loop-v.v d.loop-v.invariant c.loop-v-test.false)
