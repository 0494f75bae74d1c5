-- What went out are the first bytes, each once.
use Rattle.std.proofs.Common.{◌≤◌, length, take}
use Rattle.std.specs.Io.KnownBytes.{Appends}
use Rattle.bench_io.proofs.write_out.Given as goal

abbrev pub invariant-loop : goal.invariant-loop
invariant-loop g l = (l.done ≤ length l.out) × Appends (g.W.Write.contents l.initial.to) (g.W.Write.contents l.to) (take l.done l.out)
