-- The stream is one that may be fed, and the lent buffers keep their lengths.
use Rattle.std.proofs.Common.{length, ◌≡◌, ◌≤◌}
use Rattle.bench_script.specs.Output.{turn_room}
use Rattle.bench_morning.specs.Stream.{HoldsIn}
use Rattle.bench_run.proofs.go_on.Given as goal

abbrev pub invariant-loop : goal.invariant-loop
invariant-loop g l =
    HoldsIn l.stream (length l.keep) × (length l.keep ≡ length l.initial.keep) × (length l.piece ≡ length l.initial.piece)
    × (length l.out ≡ length l.initial.out) × (turn_room ≤ length l.out)
