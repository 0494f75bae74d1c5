-- The stream is one that may be fed, and the lent buffers keep their lengths.
use Rattle.std.proofs.Common.{length, ◌-◌, ◌≡◌, ◌≤◌}
use Rattle.bench_script.specs.Output.{turn_room}
use Rattle.bench_morning.specs.Stream.{HoldsIn}
use Rattle.bench_run.proofs.take.Given as goal

abbrev pub invariant-loop-from : goal.invariant-loop-from
invariant-loop-from g l =
    HoldsIn l.stream (length l.keep) × (length l.keep ≡ length l.initial.keep) × (length l.out ≡ length l.initial.out) × (turn_room ≤ length l.out)
    × (l.from ≤ length l.piece)

abbrev pub decreases-loop-from : goal.decreases-loop-from
decreases-loop-from g l = length l.piece - l.from
