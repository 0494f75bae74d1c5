use borrow.Author.Rules.{rules}
use Prim.Native.Nat.{◌<◌, ◌+◌}
use mathlib.Core.Path.{◌≡◌, ap}
use Rattle.std.proofs.Common.{get_or-take}
use Rattle.rig.specs.declared.Row.{Row}
use Rattle.rig.specs.Rules.{no_row}
use Rattle.compool.specs.View.{row_of}
use Rattle.put_text.specs.Laws.Wrote.{wrote_as}
use lib.ListN.{length, take, length-take}
use native.Mathlib.Omega.{arith}
use Rattle.wiring_text.specs.Sheet.{row_text, rows_text}
use Rattle.wiring_lines.specs.Laws.Each.{telling_none, telling_room, telling_next, telling_all}
use Rattle.wiring_text.specs.Laws.{row_short}
use Rattle.wiring_text.proofs.put_rows.Goals as goal

pub loop-i-init : goal.loop-i-init
loop-i-init c = telling_none _ _ _ _ _ c.requires.1

pub put_row-p-requires : goal.put_row-p-requires
put_row-p-requires c =
    let g = c.args.rig.now in
    let k : length g.row ≡ 64 = search rules in
    let e : length (take g.rows g.row) ≡ g.rows = simp length-take (omega (arith, k, c.requires.0.few)) in
    let h : c.loop-i.i < g.rows = omega (arith, e, c.loop-i-test.true) in
    let q = get_or-take g.rows g.row c.loop-i.i no_row h in
    (rw q (c.requires.0.row _ h).period, telling_room _ _ _ _ _ (λ k. row_short _ _ _) _ _ _ c.loop-i.invariant h)

pub loop-i-preserved : goal.loop-i-preserved
loop-i-preserved c =
    let g = c.args.rig.now in
    let k : length g.row ≡ 64 = search rules in
    let e : length (take g.rows g.row) ≡ g.rows = simp length-take (omega (arith, k, c.requires.0.few)) in
    let h : c.loop-i.i < g.rows = omega (arith, e, c.loop-i-test.true) in
    let q = get_or-take g.rows g.row c.loop-i.i no_row h in
    telling_next _ _ _ _ _ (λ k. row_short _ _ _) _ _ _ c.loop-i.invariant h _ _ (wrote_as _ _ _ _ _ _ (ap (λ (r : Row). row_text c.args.table (c.loop-i.i + 1) (row_of r)) q) c.put_row-p.ensures)

pub shape_of-out : goal.shape_of-out
shape_of-out c = c.loop-i.invariant.wrote.size

pub returns : goal.returns
unfolding rows_text
returns c =
    let g = c.args.rig.now in
    let k : length g.row ≡ 64 = search rules in
    let e : length (take g.rows g.row) ≡ g.rows = simp length-take (omega (arith, k, c.requires.0.few)) in
    telling_all _ _ _ _ _ _ _ _ c.loop-i.invariant (omega (arith, e, c.loop-i-test.false))
