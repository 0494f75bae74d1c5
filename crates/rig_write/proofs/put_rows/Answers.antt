use mathlib.Core.Path.{refl}
use Rattle.rig_write.specs.Laws.Kept.{Due, kept_start, kept_end, kept_skip, kept_due}
use Rattle.rig_write.specs.File.{is_row, row_line}
use Rattle.rig_write.specs.Laws.Lines.{seven_text, below_yes, below_no}
use Rattle.rig_write.proofs.put_rows.Goals as goal

pub loop-k-init : goal.loop-k-init
loop-k-init c = kept_start _ _ 64 _ _ c.requires

pub loop-k-preserved-then-n-k : goal.loop-k-preserved-then-n-k
loop-k-preserved-then-n-k c = kept_skip _ _ _ _ _ _ _ _ c.loop-k.invariant c.loop-k-test.true (below_no _ _ _ refl c.if-n-k.true)

pub put_line-p-requires : goal.put_line-p-requires
put_line-p-requires c =
    let due : Due c.args.buf.now c.loop-k.buf c.args.at 64 (is_row c.args.g.now) (row_line c.args.g.now) c.loop-k.p c.loop-k.k = (let s = c in kept_due _ _ _ _ _ _ _ _ s.loop-k.invariant c.loop-k-test.true (below_yes _ _ _ refl c.if-n-k.false)) in
    ((due).room _ (seven_text _ _ _ _ _ _ _))

pub loop-k-preserved : goal.loop-k-preserved
loop-k-preserved c =
    let due : Due c.args.buf.now c.loop-k.buf c.args.at 64 (is_row c.args.g.now) (row_line c.args.g.now) c.loop-k.p c.loop-k.k = (let s = c in kept_due _ _ _ _ _ _ _ _ s.loop-k.invariant c.loop-k-test.true (below_yes _ _ _ refl c.if-n-k.false)) in
    (due).on _ (seven_text _ _ _ _ _ _ _) _ _ c.put_line-p.ensures

pub returns : goal.returns
returns c = kept_end _ _ _ _ _ _ _ _ c.loop-k.invariant c.loop-k-test.false
