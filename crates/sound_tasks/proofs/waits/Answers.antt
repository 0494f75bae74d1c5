use mathlib.Core.Bool.{not}
use lib.Dec.{eqb}
use Rattle.laws.specs.Bits.{bit}
use borrow.Author.Rules.{rules}
use mathlib.Core.Path.{◌≡◌, refl}
use native.Mathlib.Omega.{arith}
use lib.Bits.{bit_xor}
use lib.ListN.{get_or}
use Rattle.laws.specs.Laws.All.{passed_none}
use Rattle.laws.specs.Faults.{or_next}
use Rattle.sound_tables.specs.Tests.{wait_one}
use Rattle.sound_tables.specs.Laws.{wait_fault}
use Rattle.sound_tasks.proofs.waits.Goals as goal

pub loop-t-init : goal.loop-t-init
loop-t-init c = (passed_none _, search rules)

pub loop-t-preserved : goal.loop-t-preserved
loop-t-preserved c =
    let a = c.args in
    let l = c.loop-t in
    let state = get_or a.states.now l.t 0 in
    let chain = get_or a.on.now l.t 0 in
    let w : c.from-waits.result ≡ bit (eqb state 2) = search rules in
    let h : c.from-held.result ≡ bit (not (eqb chain 0)) = search rules in
    (or_next l.faults l.t (wait_one a.states.now a.on.now) (bit_xor c.from-waits.result c.from-held.result) l.invariant.0 (wait_fault state chain w h) refl, search rules)

pub returns : goal.returns
returns c =
    let e : c.loop-t.t ≡ 65 = omega arith in
    rw e at c.loop-t.invariant.0
