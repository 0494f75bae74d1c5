use mathlib.Core.Path.{refl}
use Rattle.rig_write.specs.Laws.Kept.{Due, kept_start, kept_end, kept_skip, kept_due}
use Rattle.rig_write.specs.File.{is_line, flag_line}
use Rattle.rig_write.specs.Laws.Lines.{three_text, below_yes, below_no}
use Rattle.rig_write.proofs.put_lines.Goals as goal

pub loop-a-init : goal.loop-a-init
loop-a-init c = kept_start _ _ 1024 _ _ c.requires

pub loop-a-preserved-then-n-a : goal.loop-a-preserved-then-n-a
loop-a-preserved-then-n-a c = kept_skip _ _ _ _ _ _ _ _ c.loop-a.invariant c.loop-a-test.true (below_no _ _ _ refl c.if-n-a.true)

pub put_line-p-requires : goal.put_line-p-requires
put_line-p-requires c =
    let due : Due c.args.buf.now c.loop-a.buf c.args.at 1024 (is_line c.args.g.now) (flag_line c.args.g.now) c.loop-a.p c.loop-a.a = (let s = c in kept_due _ _ _ _ _ _ _ _ s.loop-a.invariant c.loop-a-test.true (below_yes _ _ _ refl c.if-n-a.false)) in
    ((due).room _ (three_text _ _ _))

pub loop-a-preserved : goal.loop-a-preserved
loop-a-preserved c =
    let due : Due c.args.buf.now c.loop-a.buf c.args.at 1024 (is_line c.args.g.now) (flag_line c.args.g.now) c.loop-a.p c.loop-a.a = (let s = c in kept_due _ _ _ _ _ _ _ _ s.loop-a.invariant c.loop-a-test.true (below_yes _ _ _ refl c.if-n-a.false)) in
    (due).on _ (three_text _ _ _) _ _ c.put_line-p.ensures

pub returns : goal.returns
returns c = kept_end _ _ _ _ _ _ _ _ c.loop-a.invariant c.loop-a-test.false
