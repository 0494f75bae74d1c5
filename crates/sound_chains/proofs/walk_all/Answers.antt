use borrow.Author.Tests.{not-true, not-false}
use native.Mathlib.Omega.{arith}
use lib.ListN.{length-replicate}
use Prim.Native.Nat.{ℕ, ◌-◌}
use mathlib.Core.Bool.{false≢true}
use mathlib.Core.Path.{sym}
use Rattle.sound_chains.specs.Laws.{all_start, all_over}
use Rattle.sound_chains.proofs.walk_all.Goals as goal

pub loop-s-init : goal.loop-s-init
loop-s-init c = (omega arith, omega arith, all_start c.args.links.now, length-replicate {A = ℕ} 65 0)

pub walk_block-requires : goal.walk_block-requires
walk_block-requires c = (c.loop-s.invariant.0, c.loop-s-test.true)

pub returns-then-not-walk_block : goal.returns-then-not-walk_block
returns-then-not-walk_block c =
    let w = c.walk_block in
    record { yes = λ q. absurd (false≢true q); no = λ q. w.ensures.no (not-true w.result c.if-not-walk_block.true-raw) }

pub loop-s-preserved : goal.loop-s-preserved
loop-s-preserved c =
    let d = c.loop-s in
    let w = c.walk_block in
    (omega (arith, d.invariant.0), c.loop-s-test.true, w.ensures.yes (not-false w.result c.if-not-walk_block.false-raw) d.invariant.2, w.ensures.size)

pub overflow_sub-s : goal.overflow_sub-s
overflow_sub-s c = c.loop-s.invariant.1

pub walk_from-requires : goal.walk_from-requires
walk_from-requires c = (c.loop-s.invariant.0, omega (arith, c.loop-s.invariant.1))

pub returns-then-not-walk_from : goal.returns-then-not-walk_from
returns-then-not-walk_from c =
    let w = c.walk_from in
    record { yes = λ q. absurd (false≢true q); no = λ q. w.ensures.no (not-true w.result c.if-not-walk_from.true-raw) }

pub returns : goal.returns
returns c =
    let d = c.loop-s in
    let w = c.walk_from in
    let k = all_over c.args.links.now (record { ok = w.result; seen = w.new.seen }) d.s (322 - d.s) d.seen (omega (arith, d.invariant.1)) d.invariant.2 w.ensures in
    record { yes = λ q. k.yes (not-false w.result c.if-not-walk_from.false-raw); no = λ q. absurd (false≢true (sym q)) }
