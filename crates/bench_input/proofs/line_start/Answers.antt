use mathlib.Core.Path.{refl, sym}
use borrow.Author.Tests.{eq-eqb, ne_eqb}
use Rattle.laws.specs.Cases.{if_yes, if_no}
use Rattle.bench_input.specs.Opening.{line_start}
use Rattle.bench_input.proofs.line_start.Goals as goal

pub returns-then-b-eq-LF : goal.returns-then-b-eq-LF
unfolding line_start
returns-then-b-eq-LF c = sym (if_yes _ (eq-eqb _ _ c.if-b-eq-LF.true) refl)

pub returns-else-b-eq-LF : goal.returns-else-b-eq-LF
unfolding line_start
returns-else-b-eq-LF c = sym (if_no _ (ne_eqb _ _ c.if-b-eq-LF.false) refl)
