use mathlib.Core.Path.{refl}
use Rattle.rig_write.specs.Laws.Kept.{Due, kept_start, kept_end, kept_skip, kept_due}
use Rattle.rig_write.specs.File.{is_task, task_line}
use Rattle.rig_write.specs.Laws.Lines.{five_text, task_yes, task_low, task_high}
use Rattle.rig_write.proofs.put_tasks.Goals as goal

pub loop-t-init : goal.loop-t-init
loop-t-init c = kept_start _ _ 65 _ _ c.requires

pub loop-t-preserved-then-t-lt1 : goal.loop-t-preserved-then-t-lt1
loop-t-preserved-then-t-lt1 c = kept_skip _ _ _ _ _ _ _ _ c.loop-t.invariant c.loop-t-test.true (task_low c.args.g.now c.loop-t.t c.if-t-lt1.true)

pub loop-t-preserved-then-tasks-t : goal.loop-t-preserved-then-tasks-t
loop-t-preserved-then-tasks-t c = kept_skip _ _ _ _ _ _ _ _ c.loop-t.invariant c.loop-t-test.true (task_high c.args.g.now c.loop-t.t _ refl c.if-t-lt1.false c.if-tasks-t.true)

pub put_line-p-requires : goal.put_line-p-requires
put_line-p-requires c =
    let due : Due c.args.buf.now c.loop-t.buf c.args.at 65 (is_task c.args.g.now) (task_line c.args.g.now) c.loop-t.p c.loop-t.t = (let s = c in kept_due _ _ _ _ _ _ _ _ s.loop-t.invariant c.loop-t-test.true (task_yes s.args.g.now s.loop-t.t _ refl c.if-t-lt1.false c.if-tasks-t.false)) in
    ((due).room _ (five_text _ _ _ _ _ _ refl))

pub loop-t-preserved : goal.loop-t-preserved
loop-t-preserved c =
    let due : Due c.args.buf.now c.loop-t.buf c.args.at 65 (is_task c.args.g.now) (task_line c.args.g.now) c.loop-t.p c.loop-t.t = (let s = c in kept_due _ _ _ _ _ _ _ _ s.loop-t.invariant c.loop-t-test.true (task_yes s.args.g.now s.loop-t.t _ refl c.if-t-lt1.false c.if-tasks-t.false)) in
    (due).on _ (five_text _ _ _ _ _ _ refl) _ _ c.put_line-p.ensures

pub returns : goal.returns
returns c = kept_end _ _ _ _ _ _ _ _ c.loop-t.invariant c.loop-t-test.false
