use Rattle.std.proofs.Common.{rules, tests, ◌≡◌, ◌∙◌, ap, ℕ, length, eqb, ◌||◌, ◌≤◌, ◌<◌, ◌+◌}
use native.Mathlib.Omega.{arith}
use Rattle.std.proofs.lemmas.List.{get_or_default}
use Rattle.std.proofs.lemmas.List.FromFn.{get_or-enumerate_from, length-enumerate_from}
use Rattle.std.proofs.lemmas.Iterator.{YieldsList-from_slice}
use Rattle.std.proofs.lemmas.Iterator.Adapters.{serves_from_places}
use Rattle.std.proofs.lemmas.Iterator.Consumers.{YieldsList-from_enumerate}
use Rattle.std.proofs.lemmas.Iterator.Search.{all_from_yields_List}
use Rattle.rig_tables.specs.Tests.{at}
use Rattle.rig_activation.specs.Laws.Served.{served_each}
use Rattle.rig_activation.proofs.served.Goals as goal

pub all-requires-clause-callable : goal.all-requires-clause-callable
all-requires-clause-callable c =
    let l = c.args.activation.now in
    let long : length l ≡ 65 = search rules in
    serves_from_places (YieldsList-from_enumerate (YieldsList-from_slice l (cc)) (cc)) (λ x q r. search rules)
    (λ x k h e.
    let g : k < length l = omega (arith, h, length-enumerate_from 0 l) in
    let q = e ∙ get_or-enumerate_from 0 l k (x.0, x.1.now) g in
    let n : x.1.now ≤ 128 = omega (arith, ap (λ (p : ℕ × ℕ). p.1) q, get_or_default l k x.1.now 0 g, c.requires k (search rules)) in
    let t : x.0 < 65 = omega (arith, ap (λ (p : ℕ × ℕ). p.0) q, g, long) in
    search (rules, n, t))

pub returns : goal.returns
returns c =
    let l = c.args.activation.now in
    all_from_yields_List (λ (p : ℕ × ℕ). eqb p.1 0 || eqb (at c.args.table.now p.1) (p.0 + 1)) _ _ _ c.all.ensures.ran (YieldsList-from_enumerate (YieldsList-from_slice l (cc)) (cc)) (λ x b q k. search (rules, tests))
    ∙ served_each l c.args.table.now (search rules)
