use borrow.Author.Rules.{rules}
use mathlib.Core.Path.{◌≡◌, sym, ◌∙◌, ap}
use native.Mathlib.Omega.{arith}
use mathlib.Core.List.{[]}
use lib.ListN.{length}
use Rattle.laws.specs.Mapped.{mapped_none, mapped_turn, mapped_all}
use Rattle.rig.specs.Forms.{cycle_of, cycles_of}
use Rattle.rig.proofs.cycles_of.Goals as goal

pub loop-c-init : goal.loop-c-init
loop-c-init c =
    let z : length c.args.table ≡ 64 = search rules in
    (mapped_none cycle_of [] c.args.table c.no_cycles-cycles.result (ap length c.no_cycles-cycles.ensures ∙ sym z), (z, search rules))

pub loop-c-preserved : goal.loop-c-preserved
loop-c-preserved c = (mapped_turn cycle_of [] c.args.table c.loop-c.c c.loop-c.cycles (omega arith) c.loop-c.invariant.0, search rules)

pub returns : goal.returns
unfolding cycles_of
returns c = mapped_all cycle_of [] c.args.table c.loop-c.c c.loop-c.cycles (omega arith) c.loop-c.invariant.0
