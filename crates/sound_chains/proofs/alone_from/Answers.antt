use borrow.Author.Rules.{rules}
use mathlib.Core.Path.{◌≡◌, refl}
use Prim.Native.Nat.{◌+◌}
use native.Mathlib.Omega.{arith}
use lib.Bits.{bit_or, bit_xor}
use Rattle.laws.specs.Laws.All.{passed_none}
use Rattle.laws.specs.Faults.{or_next}
use Rattle.chains.specs.Held.{at}
use Rattle.sound_chains.specs.Post.{aloneb}
use Rattle.sound_chains.specs.Laws.{alone_fault}
use Rattle.sound_chains.proofs.alone_from.Goals as goal

pub loop-i-init : goal.loop-i-init
loop-i-init c = (passed_none (λ k. aloneb (at c.args.links.now.next) (at c.args.links.now.prev) (c.args.s + k)), search rules)

pub loop-i-preserved : goal.loop-i-preserved
loop-i-preserved c =
    let a = c.args in
    let l = c.loop-i in
    let N = at a.links.now.next in
    let P = at a.links.now.prev in
    let own = a.s + l.i in
    (or_next l.faults l.i (λ k. aloneb N P (a.s + k)) (bit_or (bit_xor (N own) own) (bit_xor (P own) own)) l.invariant.0 (alone_fault N P own) refl, search rules)

pub returns : goal.returns
returns c =
    let e : c.loop-i.i ≡ 16 = omega arith in
    rw e at c.loop-i.invariant.0
