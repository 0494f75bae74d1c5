-- The bytes that a write took follow those that went out before.
use Rattle.std.proofs.Common.{rules, refl}
use Rattle.bench_io.proofs.Known.{appends_more}
use Rattle.bench_io.proofs.write_out.Goals.{in-Ok, in-Err+else-not-again}
use Rattle.bench_io.proofs.write_out.Goals as goal

pub loop-preserved : goal.loop-preserved
loop-preserved g c =
    let before = c.loop.invariant in
    elim c.match-write.branch [
      | in-Ok w ↦ (search rules, appends_more _ _ _ c.args.out.now c.loop.done before.1 w.in-Ok.n _ w.in-Ok.ensures.bound w.done-is w.in-Ok.ensures.bytes)
      | in-Err+else-not-again w ↦ search rules
    ]
