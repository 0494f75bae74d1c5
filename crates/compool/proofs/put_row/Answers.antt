use Rattle.compool.specs.View.{row_of}
use lib.ListN.{length-set}
use native.Mathlib.Omega.{arith}
use Rattle.compool.specs.Laws.Words.{row_from, row_to, row_both}
use Rattle.compool.proofs.put_row.Goals as goal

pub receive_word-receive-requires : goal.receive_word-receive-requires
receive_word-receive-requires c = c.requires.0

pub transmit_word-transmit-requires : goal.transmit_word-transmit-requires
transmit_word-transmit-requires c = c.requires.0

pub returns-then-row-master : goal.returns-then-row-master
returns-then-row-master c =
    let a = c.args in
    row_from a.master (row_of a.row.now) a.out.now a.n c.requires.1 c.if-row-master.true _ c.receive_word-receive.ensures

pub returns-then-row-master-2 : goal.returns-then-row-master-2
returns-then-row-master-2 c =
    let a = c.args in
    row_to a.master (row_of a.row.now) a.out.now a.n c.requires.1 c.if-row-master.false c.if-row-master-2.true _ c.transmit_word-transmit.ensures

pub bounds-out-n-3 : goal.bounds-out-n-3
bounds-out-n-3 c = rw length-set (omega (arith, c.requires.1))

pub returns : goal.returns
returns c =
    let a = c.args in
    row_both a.master (row_of a.row.now) a.out.now a.n c.requires.1 c.if-row-master.false c.if-row-master-2.false _ _ c.receive_word-receive.ensures c.transmit_word-transmit.ensures
