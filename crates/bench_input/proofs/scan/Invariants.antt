use Rattle.bench_input.specs.Laws.Scanning.{Scanning}
use Rattle.bench_input.proofs.scan.Given as goal

abbrev pub invariant-loop-i : goal.invariant-loop-i
invariant-loop-i l = Scanning l.initial.keep l.start l.line l.piece l.keep l.at l.from l.i
