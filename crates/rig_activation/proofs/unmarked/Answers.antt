use Rattle.std.proofs.Common.{rules, tests, ◌∙◌, eqb}
use native.Mathlib.Omega.{arith}
use Rattle.std.proofs.lemmas.List.{get_or_default}
use Rattle.std.proofs.lemmas.Iterator.{YieldsList-from_slice}
use Rattle.std.proofs.lemmas.Iterator.Adapters.{serves_from_places}
use Rattle.std.proofs.lemmas.Iterator.Search.{all_from_yields_List}
use Rattle.rig_tables.specs.Tests.{at}
use Rattle.rig_activation.specs.Laws.Served.{unmarked_each}
use Rattle.rig_activation.proofs.unmarked.Goals as goal

pub all-requires-clause-callable : goal.all-requires-clause-callable
all-requires-clause-callable c =
    let l = c.args.activation.now in
    serves_from_places (YieldsList-from_slice l (search rules)) (λ x q r. search rules) (λ x k h e _ _ _ _ _ _. omega (arith, e, get_or_default l k x.now 0 h, c.requires k (search rules)))

pub returns : goal.returns
returns c =
    all_from_yields_List (λ f. eqb (at c.args.table.now f) 0) _ _ _ c.all.ensures.ran (YieldsList-from_slice c.args.activation.now cc) (λ x b q k. search (rules, tests))
    ∙ unmarked_each c.args.activation.now c.args.table.now (search rules)
