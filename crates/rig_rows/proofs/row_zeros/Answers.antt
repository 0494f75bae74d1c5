use Rattle.std.proofs.Common.{rules, ◌≡◌, ◌∙◌, length, arith}
use borrow.Author.Tests.{tests}
use Rattle.std.specs.Prelude.{drop}
use Rattle.std.specs.List.{list_all}
use Rattle.std.proofs.lemmas.Iterator.{YieldsList-from_slice}
use Rattle.std.proofs.lemmas.Iterator.Search.{all_from_yields_List}
use Rattle.std.proofs.lemmas.Iterator.Adapters.{YieldsList-from_skip}
use Rattle.rig_rows.specs.Tests.{row_zero, row_zero_tests}
use Rattle.laws.specs.All.{all_of}
use Rattle.rig_rows.specs.Laws.{zero_rows}
use Rattle.rig_rows.proofs.row_zeros.Goals as goal

pub returns : goal.returns
unfolding row_zero row_zero_tests all_of
returns c =
    let rig = c.args.rig.now in
    let long : length rig.row ≡ 64 = search rules in
    let each : c.all.result ≡ list_all (row_zero) (drop rig.rows rig.row) =
    all_from_yields_List (row_zero) _ _ _ c.all.ensures.ran (YieldsList-from_skip rig.rows (YieldsList-from_slice rig.row cc) cc) (λ x b q k. search (rules, tests)) in
    each ∙ zero_rows rig.rows rig.row (omega arith) long
