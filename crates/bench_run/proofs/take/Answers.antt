-- A feed takes some bytes of the piece and no more than there are, what it says lies inside the buffer, and the stream may be fed again.
use Rattle.std.proofs.Common.{arith, rules, length-take, ◌∙◌}
use Rattle.bench_stream.specs.Laws.Fits.{feeds_fit}
use Rattle.bench_run.proofs.Pieces.{stays, goes}
use Rattle.bench_run.proofs.take.Goals as goal

pub slice_bounds-write_out-end : goal.slice_bounds-write_out-end
slice_bounds-write_out-end g c = let w = feeds_fit _ _ _ _ _ _ _ c.feed-fed.ensures in omega (arith, w.1, w.3)

pub slice_bounds-write_out-end-in-loop-from : goal.slice_bounds-write_out-end-in-loop-from
slice_bounds-write_out-end-in-loop-from g c = let w = feeds_fit _ _ _ _ _ _ _ c.feed-fed.ensures in simp length-take (omega (arith, w.1, w.3))

pub overflow_add-from : goal.overflow_add-from
overflow_add-from g c =
    let i = c.loop-from.invariant in
    let a = stays _ _ c.args.piece.now _ _ _ _ c.loop-from.from c.loop-from-test.true i.3 i.0 c.feed-fed.ensures in
    search (rules, a)

pub loop-from-smaller : goal.loop-from-smaller
loop-from-smaller g c =
    let i = c.loop-from.invariant in
    let a = stays _ _ c.args.piece.now _ _ _ _ c.loop-from.from c.loop-from-test.true i.3 i.0 c.feed-fed.ensures in
    let b = (goes _ _ c.args.piece.now _ _ _ _ c.loop-from.from c.loop-from-test.true i.3 i.0 c.feed-fed.ensures).0 in
    omega (arith, a, b)

pub loop-from-preserved : goal.loop-from-preserved
loop-from-preserved g c =
    let i = c.loop-from.invariant in
    let w = feeds_fit _ _ _ _ _ _ _ c.feed-fed.ensures in
    let a = stays _ _ c.args.piece.now _ _ _ _ c.loop-from.from c.loop-from-test.true i.3 i.0 c.feed-fed.ensures in
    let b = (goes _ _ c.args.piece.now _ _ _ _ c.loop-from.from c.loop-from-test.true i.3 i.0 c.feed-fed.ensures).1 in
    (b, w.2 ∙ i.1, w.3 ∙ i.2, omega (arith, w.3, i.3), a)
