use mathlib.Core.Bool.{cond}
use lib.Dec.{eqb}
use lib.ListN.{get_or}
use borrow.Author.Rules.{rules}
use borrow.Author.Tests.{lt-leb, le-leb}
use mathlib.Core.Path.{◌≡◌}
use native.Mathlib.Omega.{arith}
use Rattle.laws.specs.Laws.All.{passed_none, passed_next, passed_not}
use Rattle.sound_tables.proofs.conds.Goals as goal
use Rattle.sound_tables.proofs.conds.Goals.{else-top-conds, then-top-conds}

pub loop-i-init : goal.loop-i-init
loop-i-init c = (passed_none _, search rules)

pub loop-i-preserved : goal.loop-i-preserved
loop-i-preserved c =
    let a : c.from-top.result ≡ cond (eqb (get_or c.args.present.now c.loop-i.i 0) 1) 1 0 = search rules in (
      elim c.if-top-conds.branch [ then-top-conds w ↦ passed_not _ _ (rw a at (lt-leb _ _ w.if-top-conds.true)) w.bad-is | else-top-conds w ↦ passed_next _ _ c.loop-i.invariant.0 (rw a at (le-leb _ _ w.if-top-conds.false)) w.bad-is ],
      search rules,
    )

pub returns : goal.returns
returns c =
    let e : c.loop-i.i ≡ 1040 = omega arith in
    rw e at c.loop-i.invariant.0
