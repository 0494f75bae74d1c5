-- What the stream's end says lies inside the buffer.
use Rattle.std.proofs.Common.{arith, length-take}
use Rattle.bench_stream.specs.Laws.Fits.{ends_fit}
use Rattle.bench_run.proofs.finish.Goals as goal

pub slice_bounds-write_out-end : goal.slice_bounds-write_out-end
slice_bounds-write_out-end g c = let w = ends_fit _ _ _ _ _ c.end-n.ensures in omega (arith, w.0, w.1)

pub slice_bounds-write_out-end-2 : goal.slice_bounds-write_out-end-2
slice_bounds-write_out-end-2 g c = let w = ends_fit _ _ _ _ _ c.end-n.ensures in simp length-take (omega (arith, w.0, w.1))
