use mathlib.Core.Path.{sym, refl, ◌∙◌}
use native.Mathlib.Omega.{arith}
use borrow.Author.Tests.{eq-eqb, ne_eqb, lt-ltb, le-ltb}
use Rattle.laws.specs.Cases.{if_yes, if_no}
use Rattle.bench_script.specs.Script.{with_two}
use Rattle.bench_read.proofs.with_two.Goals as goal

pub returns-then-v-eq89 : goal.returns-then-v-eq89
unfolding with_two
returns-then-v-eq89 c = c.of_panel.ensures ∙ sym (if_yes _ (eq-eqb _ _ c.if-v-eq89.true) refl)

pub returns-then-x-gt1 : goal.returns-then-x-gt1
unfolding with_two
returns-then-x-gt1 c = sym (if_no _ (ne_eqb _ _ c.if-v-eq89.false) (if_no _ (le-ltb c.args.x 2 (omega (arith, c.if-x-gt1.true))) refl))

pub returns : goal.returns
unfolding with_two
returns c =
    c.with_value.ensures
    ∙ sym (if_no _ (ne_eqb _ _ c.if-v-eq89.false) (if_yes _ (lt-ltb c.args.x 2 (omega (arith, c.if-x-gt1.false))) refl))
