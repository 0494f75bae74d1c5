use mathlib.Core.Path.{sym, ◌∙◌, refl}
use mathlib.Core.Logic.{inl, inr}
use mathlib.Core.Bool.{false≢true}
use borrow.Author.Tests.{not-true, not-false}
use Rattle.rig.specs.Rules.{Right}
use Rattle.rig_whole.specs.Laws.Which.{ok_right}
use Rattle.exec_outcome.specs.Outcome.{accepted_with}
use Rattle.exec_tasks.specs.Laws.Starting.{start_settles, began_is}
use Rattle.exec_tasks.proofs.start.Goals as goal

pub returns-then-not-is_ok : goal.returns-then-not-is_ok
returns-then-not-is_ok c =
    let k = ok_right c.args.rig.now c.args.cycles.now c.first_broken.result c.first_broken.ensures in
    record { is = inr ((λ h. false≢true (sym (not-true c.is_ok.result c.if-not-is_ok.true-raw) ∙ c.is_ok.ensures.value ∙ k.1 h)), refl) }

pub settle-requires : goal.settle-requires
settle-requires c =
    let a = c.args in
    let k = ok_right a.rig.now a.cycles.now c.first_broken.result c.first_broken.ensures in
    let right : Right a.rig.now a.cycles.now = k.0 (sym c.is_ok.ensures.value ∙ not-false c.is_ok.result c.if-not-is_ok.false-raw) in
    start_settles a.rig.now a.cycles.now right c.blank.result c.blank.ensures (record { st = c.scheduled-queue.new.st; queue = c.scheduled-queue.result })
    c.scheduled-queue.ensures

pub returns : goal.returns
returns c =
    let a = c.args in
    let k = ok_right a.rig.now a.cycles.now c.first_broken.result c.first_broken.ensures in
    let right : Right a.rig.now a.cycles.now = k.0 (sym c.is_ok.ensures.value ∙ not-false c.is_ok.result c.if-not-is_ok.false-raw) in
    record {
      is = inl (
        right,
        began_is a.rig.now a.cycles.now right c.blank.result c.blank.ensures (record { st = c.scheduled-queue.new.st; queue = c.scheduled-queue.result })
            c.scheduled-queue.ensures (accepted_with c.settle.new.st c.settle.result) c.settle.ensures,
      );
    }
