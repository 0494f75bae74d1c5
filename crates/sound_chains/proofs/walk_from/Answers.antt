use borrow.Author.Rules.{rules}
use borrow.Author.Tests.{not-true, not-false}
use mathlib.Core.Path.{◌≡◌}
use native.Mathlib.Omega.{arith}
use Rattle.sound_chains.specs.Laws.{from_start, from_next, from_refused}
use Rattle.sound_chains.proofs.walk_from.Goals as goal

pub loop-i-init : goal.loop-i-init
loop-i-init c =
    let a = c.args in
    (from_start a.links.now a.s c.requires.0 a.seen.now (search rules), search rules)

pub walk_ring-requires : goal.walk_ring-requires
walk_ring-requires c = (omega arith, omega arith)

pub returns-then-not-walk_ring : goal.returns-then-not-walk_ring
returns-then-not-walk_ring c =
    let d = c.loop-i in
    let s = c in
    let a = s.args in
    from_refused a.links.now a.s s.requires.0 a.seen.now d.i a.m d.seen (record { ok = c.walk_ring.result; seen = c.walk_ring.new.seen }) (omega arith) c.walk_ring.ensures (not-true c.walk_ring.result c.if-not-walk_ring.true-raw)

pub loop-i-preserved : goal.loop-i-preserved
loop-i-preserved c =
    let d = c.loop-i in
    let s = c in
    let a = s.args in (
      from_next a.links.now a.s s.requires.0 a.seen.now d.i d.seen (record { ok = c.walk_ring.result; seen = c.walk_ring.new.seen }) d.invariant.0 c.walk_ring.ensures (not-false c.walk_ring.result c.if-not-walk_ring.false-raw),
      search rules,
    )

pub returns : goal.returns
returns c =
    let e : c.loop-i.i ≡ c.args.m = omega arith in
    rw e at c.loop-i.invariant.0
