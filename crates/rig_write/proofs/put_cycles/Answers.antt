use mathlib.Core.Path.{refl}
use Rattle.rig_write.specs.Laws.Kept.{Due, kept_start, kept_end, kept_skip, kept_due}
use Rattle.rig_write.specs.File.{is_flag, cycle_line}
use Rattle.rig_write.specs.Laws.Lines.{two_text, flag_no, flag_yes}
use Rattle.rig_write.proofs.put_cycles.Goals as goal

pub loop-i-init : goal.loop-i-init
loop-i-init c = kept_start _ _ 960 _ _ c.requires

pub loop-i-preserved-then-flag-eq0 : goal.loop-i-preserved-then-flag-eq0
loop-i-preserved-then-flag-eq0 c = kept_skip _ _ _ _ _ _ _ _ c.loop-i.invariant c.loop-i-test.true (flag_no _ c.if-flag-eq0.true)

pub put_line-p-requires : goal.put_line-p-requires
put_line-p-requires c =
    let due : Due c.args.buf.now c.loop-i.buf c.args.at 960 (is_flag c.args.table.now) (cycle_line c.args.table.now) c.loop-i.p c.loop-i.i = (let s = c in kept_due _ _ _ _ _ _ _ _ s.loop-i.invariant c.loop-i-test.true (flag_yes _ c.if-flag-eq0.false)) in
    ((due).room _ (two_text _ _ _ refl))

pub loop-i-preserved : goal.loop-i-preserved
loop-i-preserved c =
    let due : Due c.args.buf.now c.loop-i.buf c.args.at 960 (is_flag c.args.table.now) (cycle_line c.args.table.now) c.loop-i.p c.loop-i.i = (let s = c in kept_due _ _ _ _ _ _ _ _ s.loop-i.invariant c.loop-i-test.true (flag_yes _ c.if-flag-eq0.false)) in
    (due).on _ (two_text _ _ _ refl) _ _ c.put_line-p.ensures

pub returns : goal.returns
returns c = kept_end _ _ _ _ _ _ _ _ c.loop-i.invariant c.loop-i-test.false
