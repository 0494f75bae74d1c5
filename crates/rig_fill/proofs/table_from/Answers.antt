use borrow.Author.Rules.{rules}
use mathlib.Core.Path.{refl}
use Rattle.std.specs.Prelude.{◌<◌, [], get_or}
use native.Mathlib.Omega.{arith}
use Rattle.laws.specs.Laws.Tables.{zeros_at}
use lib.ListN.{get_or-replicate}
use Rattle.rig_lines.specs.declared.Kind.TheVariants.{Rig, Flag}
use Rattle.rig_lines.specs.Laws.Kind.{differs_yes, differs_no}
use Rattle.rig_fill.specs.OfLines.{zeros}
use Rattle.rig_fill.specs.Laws.Tables.{cycled_start, cycled_skip, cycled_on, cycled_past, cycled_room, cycled_end}
use Rattle.rig_fill.proofs.table_from.Goals as goal

pub loop-line-init : goal.loop-line-init
loop-line-init c = cycled_start _ _ _ refl refl (λ c h. get_or-replicate 64 c (zeros 15) _ h) (zeros_at 256)

pub loop-line-preserved-then-ne : goal.loop-line-preserved-then-ne
loop-line-preserved-then-ne c = cycled_skip _ _ _ _ c.loop-line.invariant _ c.loop-line-test.true (differs_yes _ Flag _ c.ne.ensures c.if-ne.true)

pub overflow_add-inside : goal.overflow_add-inside
overflow_add-inside c =
    let z : get_or (get_or c.args.lines.now c.loop-line.line-index record { kind = Rig; numbers = [] }).numbers 0 0 < 256 = search rules in
    let r = cycled_room _ _ _ _ c.loop-line.invariant _ z in
    let t = c.loop-line-test.true in
    search rules

pub loop-line-preserved-then-c-ge-CYCLES : goal.loop-line-preserved-then-c-ge-CYCLES
loop-line-preserved-then-c-ge-CYCLES c = cycled_past _ _ _ _ c.loop-line.invariant _ c.loop-line-test.true (differs_no _ Flag _ c.ne.ensures c.if-ne.false) _ refl (search rules) _ refl (λ z. omega (arith, z, c.if-c-ge-CYCLES.true)) _ refl

pub loop-line-preserved-then-j-ge15 : goal.loop-line-preserved-then-j-ge15
loop-line-preserved-then-j-ge15 c = cycled_past _ _ _ _ c.loop-line.invariant _ c.loop-line-test.true (differs_no _ Flag _ c.ne.ensures c.if-ne.false) _ refl (search rules) _ refl (λ z. c.if-j-ge15.true) _ refl

pub loop-line-preserved : goal.loop-line-preserved
loop-line-preserved c = cycled_on _ _ _ _ c.loop-line.invariant _ c.loop-line-test.true (differs_no _ Flag _ c.ne.ensures c.if-ne.false) _ refl (search rules) c.if-c-ge-CYCLES.false _ _ refl refl _ refl _ refl

pub returns : goal.returns
returns c = cycled_end _ _ _ _ c.loop-line-test.false c.loop-line.invariant
