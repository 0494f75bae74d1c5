use mathlib.Core.Path.{sym, ◌∙◌}
use mathlib.Core.Bool.{true≢false}
use Prim.Native.Nat.{ℕ, ◌≤◌}
use native.Mathlib.Omega.{arith}
use borrow.Author.Tests.{not-true, not-false}
use lib.ListN.{length, replicate, length-replicate}
use lib.Seq.{length-take-le}
use Rattle.rig.specs.Rules.{Right}
use Rattle.rig_write.specs.Laws.Answers.{not_right, own_room, too_short, in_own, done}
use Rattle.rig_write.proofs.write.Goals as goal

pub returns-then-not-right : goal.returns-then-not-right
returns-then-not-right c =
    let s = c in
    rw c.number.ensures (not_right s.args.g s.args.cycles s.args.buf.now (λ h. true≢false (sym (c.right.ensures.1 h) ∙ not-true _ c.if-not-right.true-raw)))

pub put_file-n-requires : goal.put_file-n-requires
put_file-n-requires c =
    let is_right : Right c.args.g c.args.cycles = (c.right.ensures.0 (not-false _ c.if-not-right.false-raw)) in
    let t = c in
    let s = t in
    own_room s.args.g s.args.cycles s.args.buf.now (is_right) t.table_of-table.result t.table_of-table.ensures (replicate {A = ℕ} 40960 0) (length-replicate {A = ℕ} 40960 0)

pub returns-then-buf-n : goal.returns-then-buf-n
returns-then-buf-n c =
    let is_right : Right c.args.g c.args.cycles = (c.right.ensures.0 (not-false _ c.if-not-right.false-raw)) in
    let w = c.put_file-n in
    let t = c in
    let s = t in
    rw c.number-then-buf-n.ensures (too_short s.args.g s.args.cycles s.args.buf.now (is_right) t.table_of-table.result t.table_of-table.ensures w.result w.ensures.place c.if-buf-n.true)

pub slice_bounds-own-end : goal.slice_bounds-own-end
slice_bounds-own-end c =
    let is_right : Right c.args.g c.args.cycles = (c.right.ensures.0 (not-false _ c.if-not-right.false-raw)) in
    let inside : c.put_file-n.result ≤ length c.put_file-n.new.buf = (let t = c in let s = t in let w = c.put_file-n in in_own s.args.g s.args.cycles s.args.buf.now (is_right) t.table_of-table.result t.table_of-table.ensures (replicate {A = ℕ} 40960 0) w.new.buf w.result (length-replicate {A = ℕ} 40960 0) w.ensures) in
    inside

pub slice_bounds-put_text-end : goal.slice_bounds-put_text-end
slice_bounds-put_text-end c =
    let is_right : Right c.args.g c.args.cycles = (c.right.ensures.0 (not-false _ c.if-not-right.false-raw)) in
    let inside : c.put_file-n.result ≤ length c.put_file-n.new.buf = (let t = c in let s = t in let w = c.put_file-n in in_own s.args.g s.args.cycles s.args.buf.now (is_right) t.table_of-table.result t.table_of-table.ensures (replicate {A = ℕ} 40960 0) w.new.buf w.result (length-replicate {A = ℕ} 40960 0) w.ensures) in
    let d = c in
    sym (length-take-le d.put_file-n.result d.put_file-n.new.buf (inside))

pub put_text-requires : goal.put_text-requires
put_text-requires c =
    let is_right : Right c.args.g c.args.cycles = (c.right.ensures.0 (not-false _ c.if-not-right.false-raw)) in
    let inside : c.put_file-n.result ≤ length c.put_file-n.new.buf = (let t = c in let s = t in let w = c.put_file-n in in_own s.args.g s.args.cycles s.args.buf.now (is_right) t.table_of-table.result t.table_of-table.ensures (replicate {A = ℕ} 40960 0) w.new.buf w.result (length-replicate {A = ℕ} 40960 0) w.ensures) in
    let d = c in
    let k = length-take-le d.put_file-n.result d.put_file-n.new.buf (inside) in
    omega (arith, k, c.if-buf-n.false)

pub returns : goal.returns
returns c =
    let is_right : Right c.args.g c.args.cycles = (c.right.ensures.0 (not-false _ c.if-not-right.false-raw)) in
    let w = c.put_file-n in
    let t = c in
    let s = t in
    done s.args.g s.args.cycles s.args.buf.now (is_right) t.table_of-table.result t.table_of-table.ensures (replicate {A = ℕ} 40960 0) w.new.buf w.result _ _ w.ensures c.if-buf-n.false c.put_text.ensures
