use Rattle.std.proofs.Common.{rules, ◌≡◌, ◌∙◌, length, arith}
use borrow.Author.Tests.{tests}
use Rattle.std.specs.Prelude.{take}
use Rattle.std.specs.List.{list_all}
use Rattle.std.proofs.lemmas.Iterator.{YieldsList-from_slice}
use Rattle.std.proofs.lemmas.Iterator.Search.{all_from_yields_List}
use Rattle.std.proofs.lemmas.Iterator.{YieldsList-from_take}
use Rattle.rig.specs.declared.Row.{Row}
use Rattle.laws.specs.All.{all_of}
use Rattle.rig_rows.specs.Tests.{row_tests}
use Rattle.rig_rows.specs.Laws.{right_rows}
use Rattle.rig_rows.proofs.rows_ok.Goals as goal

pub returns : goal.returns
returns c =
    let rig = c.args.rig.now in
    let long : length rig.row ≡ 64 = search rules in
    let each : c.all.result ≡ list_all (λ (b : Row). all_of (row_tests b)) (take rig.rows rig.row) =
    all_from_yields_List (λ (b : Row). all_of (row_tests b)) _ _ _ c.all.ensures.ran (YieldsList-from_take rig.rows (YieldsList-from_slice rig.row cc) cc) (λ x b q k. search (rules, tests)) in
    each ∙ right_rows rig.rows rig.row (omega arith) long
