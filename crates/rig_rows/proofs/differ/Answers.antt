use Rattle.std.proofs.Common.{rules, ◌≡◌, ◌∙◌, length, arith}
use borrow.Author.Tests.{tests}
use Rattle.std.specs.Prelude.{not, eqb, take}
use Rattle.std.specs.List.{list_all}
use Rattle.std.proofs.lemmas.Iterator.{YieldsList-from_slice}
use Rattle.std.proofs.lemmas.Iterator.Search.{all_from_yields_List}
use Rattle.std.proofs.lemmas.Iterator.{YieldsList-from_take}
use Rattle.rig.specs.declared.Row.{Row}
use Rattle.rig_rows.specs.Laws.{differ_rows}
use Rattle.rig_rows.proofs.differ.Goals as goal

pub returns : goal.returns
returns c =
    let rig = c.args.rig.now in
    let long : length rig.row ≡ 64 = search rules in
    let each : c.all.result ≡ list_all (λ (b : Row). not (eqb b.sender b.receiver)) (take rig.rows rig.row) =
    all_from_yields_List (λ (b : Row). not (eqb b.sender b.receiver)) _ _ _ c.all.ensures.ran (YieldsList-from_take rig.rows (YieldsList-from_slice rig.row cc) cc) (λ x b q k. search (rules, tests)) in
    each ∙ differ_rows rig.rows rig.row (omega arith)
