use borrow.Author.Rules.{rules}
use mathlib.Core.Path.{◌≡◌}
use Prim.Native.Nat.{◌-◌, ◌+◌}
use native.Mathlib.Omega.{arith}
use Rattle.laws.specs.Laws.All.{passed_none}
use Rattle.rig_tables.specs.Tests.{lines_rise_b}
use Rattle.rig_a_lines.specs.Laws.Passes.{faults_next}
use Rattle.rig_a_lines.proofs.lines_rise.Goals as goal

pub loop-k-init : goal.loop-k-init
loop-k-init c = (passed_none _, search rules)

pub loop-k-preserved : goal.loop-k-preserved
loop-k-preserved c =
    let s = c.args.rig.now in
    let l = c.loop-k in
    (faults_next s.line_task s.line_pos s.line_flag l.faults c.fault-faults.result (l.k - 1) l.k (l.k + 1 - 1) (omega (arith, l.invariant.1.0)) (omega arith) l.invariant.0 c.fault-faults.ensures, search rules)

pub returns : goal.returns
unfolding lines_rise_b
returns c =
    let e : c.loop-k.k - 1 ≡ c.args.rig.now.lines - 1 = omega arith in
    rw e at c.loop-k.invariant.0
