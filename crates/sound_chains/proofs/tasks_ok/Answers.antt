use borrow.Author.Rules.{rules}
use mathlib.Core.Path.{◌≡◌, refl, sym}
use native.Mathlib.Omega.{arith}
use Rattle.laws.specs.Laws.All.{passed_none}
use Rattle.laws.specs.Faults.{or_next}
use Rattle.chains.specs.Held.{at}
use Rattle.chains.specs.Laws.Check.{taskb}
use Rattle.sound_chains.specs.Laws.{tasks_tested}
use Rattle.sound_chains.proofs.tasks_ok.Goals as goal

pub loop-t-init : goal.loop-t-init
loop-t-init c =
    let a = c.args in
    (passed_none (taskb (at a.links.now.next) (at a.links.now.prev) (at a.links.now.on) (at a.seen.now)), search rules)

pub loop-t-preserved : goal.loop-t-preserved
unfolding taskb
loop-t-preserved c =
    let a = c.args in
    let l = c.loop-t in
    (or_next l.faults l.t (taskb (at a.links.now.next) (at a.links.now.prev) (at a.links.now.on) (at a.seen.now)) c.task_fault-faults.result l.invariant.0 (sym c.task_fault-faults.ensures) refl, search rules)

pub returns : goal.returns
returns c =
    let a = c.args in
    let e : c.loop-t.t ≡ 65 = omega arith in
    tasks_tested a.links.now a.seen.now _ (rw e at c.loop-t.invariant.0)
