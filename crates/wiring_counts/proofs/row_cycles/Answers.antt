use mathlib.Core.Path.{ap, ◌∙◌}
use native.Mathlib.Omega.{arith}
use Rattle.laws.specs.Bits.{bit}
use Rattle.wiring_counts.specs.Laws.{cycles_none, cycles_next, cycles_all}
use Rattle.wiring_counts.proofs.row_cycles.Goals as goal

pub loop-c-init : goal.loop-c-init
loop-c-init c = (cycles_none _, omega arith)

pub due-requires : goal.due-requires
due-requires c = c.requires

pub loop-c-preserved : goal.loop-c-preserved
loop-c-preserved c =
    let l = c.loop-c in
    let d = c.due.ensures in
    (cycles_next _ l.c c.from.result l.cycles c.loop-c-test.true l.invariant.0 (c.from.ensures ∙ ap bit d), omega (arith, c.loop-c-test.true))

pub returns : goal.returns
returns c =
    let l = c.loop-c in
    cycles_all _ l.c l.cycles l.invariant.0 (omega (arith, l.invariant.1, c.loop-c-test.false))
