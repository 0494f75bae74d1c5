use borrow.Author.Rules.{rules}
use mathlib.Core.Path.{◌≡◌, sym}
use native.Mathlib.Omega.{arith}
use lib.ListN.{length, replicate}
use Rattle.laws.specs.Mapped.{mapped_none, mapped_turn, mapped_all}
use Rattle.rig.specs.Rules.{no_cycle}
use Rattle.rig.specs.Forms.{cycle_flags, table_of}
use Rattle.rig.proofs.table_of.Goals as goal

pub loop-c-init : goal.loop-c-init
loop-c-init c =
    let z : length c.args.cycles ≡ 64 = search rules in
    (mapped_none cycle_flags no_cycle c.args.cycles (replicate 64 (replicate 15 0)) (sym z), (z, search rules))

pub loop-c-preserved : goal.loop-c-preserved
loop-c-preserved c = (mapped_turn cycle_flags no_cycle c.args.cycles c.loop-c.c c.loop-c.table (omega arith) c.loop-c.invariant.0, search rules)

pub returns : goal.returns
unfolding table_of
returns c = mapped_all cycle_flags no_cycle c.args.cycles c.loop-c.c c.loop-c.table (omega arith) c.loop-c.invariant.0
