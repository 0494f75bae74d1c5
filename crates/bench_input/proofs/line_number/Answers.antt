use mathlib.Core.Path.{refl, sym}
use native.Mathlib.Omega.{arith}
use borrow.Author.Tests.{lt-ltb, le-ltb}
use Rattle.laws.specs.Cases.{if_yes, if_no}
use Rattle.bench_input.specs.Line.{line_number}
use Rattle.bench_input.proofs.line_number.Goals as goal

pub returns-then-n-lt-LINES : goal.returns-then-n-lt-LINES
unfolding line_number
returns-then-n-lt-LINES c = sym (if_yes _ (lt-ltb c.args.n 65536 (omega (arith, c.if-n-lt-LINES.true))) refl)

pub returns-else-n-lt-LINES : goal.returns-else-n-lt-LINES
unfolding line_number
returns-else-n-lt-LINES c = sym (if_no _ (le-ltb c.args.n 65536 (omega (arith, c.if-n-lt-LINES.false))) refl)
