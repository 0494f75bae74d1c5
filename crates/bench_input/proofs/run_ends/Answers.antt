use mathlib.Core.Path.{refl, sym, ap, ◌∙◌}
use borrow.Author.Tests.{eq-eqb, ne_eqb}
use Rattle.laws.specs.Cases.{and_go, and_stop}
use Rattle.bench_script.specs.Input.{is_run}
use Rattle.bench_input.specs.Opening.{run_ends_at}
use Rattle.bench_input.specs.Laws.Scanning.{drop_take}
use Rattle.bench_input.proofs.run_ends.Goals as goal

pub returns-else-b-eq-LF : goal.returns-else-b-eq-LF
unfolding run_ends_at
returns-else-b-eq-LF c = ne_eqb _ _ c.if-b-eq-LF.false ∙ sym (and_stop _ (ne_eqb _ _ c.if-b-eq-LF.false))

pub returns-then-b-eq-LF : goal.returns-then-b-eq-LF
unfolding run_ends_at
returns-then-b-eq-LF c =
    let s = c in
    let e = drop_take s.args.from s.args.at s.args.keep.now s.requires.0 s.requires.1 in
    c.is_run.ensures ∙ sym (ap is_run e) ∙ sym (and_go (eq-eqb _ _ c.if-b-eq-LF.true) refl)
