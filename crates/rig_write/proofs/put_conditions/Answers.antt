use mathlib.Core.Path.{refl}
use borrow.Author.Tests.{eq-eqb, ne_eqb}
use Rattle.rig_write.specs.Laws.Kept.{Due, kept_start, kept_end, kept_skip, kept_due}
use Rattle.rig_write.specs.File.{is_condition, condition_line}
use Rattle.rig_write.specs.Laws.Lines.{four_text}
use Rattle.rig_write.proofs.put_conditions.Goals as goal

pub loop-c-init : goal.loop-c-init
loop-c-init c = kept_start _ _ 1040 _ _ c.requires

pub loop-c-preserved-then-g-c-ne1 : goal.loop-c-preserved-then-g-c-ne1
loop-c-preserved-then-g-c-ne1 c = kept_skip _ _ _ _ _ _ _ _ c.loop-c.invariant c.loop-c-test.true (ne_eqb _ _ c.if-g-c-ne1.true)

pub put_line-p-requires : goal.put_line-p-requires
put_line-p-requires c =
    let due : Due c.args.buf.now c.loop-c.buf c.args.at 1040 (is_condition c.args.g.now) (condition_line c.args.g.now) c.loop-c.p c.loop-c.c = (let s = c in kept_due _ _ _ _ _ _ _ _ s.loop-c.invariant c.loop-c-test.true (eq-eqb _ _ c.if-g-c-ne1.false)) in
    ((due).room _ (four_text _ _ _ _ _ _ refl refl))

pub loop-c-preserved : goal.loop-c-preserved
loop-c-preserved c =
    let due : Due c.args.buf.now c.loop-c.buf c.args.at 1040 (is_condition c.args.g.now) (condition_line c.args.g.now) c.loop-c.p c.loop-c.c = (let s = c in kept_due _ _ _ _ _ _ _ _ s.loop-c.invariant c.loop-c-test.true (eq-eqb _ _ c.if-g-c-ne1.false)) in
    (due).on _ (four_text _ _ _ _ _ _ refl refl) _ _ c.put_line-p.ensures

pub returns : goal.returns
returns c = kept_end _ _ _ _ _ _ _ _ c.loop-c.invariant c.loop-c-test.false
