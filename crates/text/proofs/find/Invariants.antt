use Rattle.std.proofs.Common.{◌≤◌}
use Rattle.text.specs.Split.{part}
use Rattle.text.specs.Laws.Split.{Free}
use Rattle.text.proofs.find.Given as goal

abbrev pub invariant-loop-i : goal.invariant-loop-i
invariant-loop-i l = (l.a ≤ l.i) × (l.i ≤ l.e) × Free l.c (part l.a l.i l.s)
