use mathlib.Core.Path.{◌≡◌, sym, ◌∙◌, ap}
use borrow.Author.Rules.{rules}
use Prim.Native.Nat.{◌<◌}
use lib.ListN.{take}
use Rattle.std.proofs.Common.{get_or-take}
use Rattle.rules.specs.Rig as R
use Rattle.rules.specs.Bus.{row_due}
use native.Mathlib.Omega.{arith}
use Rattle.compool.specs.View.{row_of, rows_of}
use Rattle.compool.specs.Laws.Words.{sent_start, sent_no, sent_yes, sent_done}
use Rattle.compool.proofs.bus_words.Goals as goal
use Rattle.compool.proofs.bus_words.Goals.{else-due, then-due}

pub loop-row-init : goal.loop-row-init
loop-row-init c =
    let a = c.args in
    sent_start a.rig.now.master (rows_of a.rig.now.row) a.count a.out.now c.requires.1

pub loop-row-preserved : goal.loop-row-preserved
loop-row-preserved c =
    let l = c.loop-row in
    let g = c.args.rig.now in
    let a = c.args in
    let i = l.row-index in
    let b : i < 64 = omega (arith, c.requires.0.few, c.loop-row-test.true) in
    let p : rows_of g.row i ≡ rows_of (take g.rows g.row) i = ap row_of (sym (get_or-take g.rows g.row i _ (search rules))) in
    let e : row_due (rows_of g.row i) a.count ≡ c.due.result = ap (λ (x : R.Row). row_due x a.count) p ∙ sym c.due.ensures in
    elim c.if-due.branch [
      | then-due w ↦ rw (w.out-is, w.n-is)
          (sent_yes g.master (rows_of g.row) a.count a.out.now c.requires.1 l.out l.n i l.invariant b (e ∙ w.if-due.true)
          w.put_row-n.result w.put_row-n.new.out (rw p w.put_row-n.ensures))
      | else-due w ↦ rw (w.out-is, w.n-is)
          (sent_no g.master (rows_of g.row) a.count a.out.now c.requires.1 l.out l.n i l.invariant b (e ∙ w.if-due.false))
    ]

pub returns : goal.returns
returns c =
    let l = c.loop-row in
    let g = c.args.rig.now in
    sent_done g.master (rows_of g.row) c.args.count c.args.out.now c.requires.1 l.out l.n l.row-index g.rows l.invariant (omega arith)
