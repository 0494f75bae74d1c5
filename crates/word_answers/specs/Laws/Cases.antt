-- Tables that are right make a right table.
use Rattle.std.proofs.Common.{sym, ap₂, ◌∙◌}
use Rattle.std.specs.Prelude.{List, ◌++◌}
use Rattle.std.proofs.lemmas.List.{map-append}
use Rattle.word_answers.specs.Cases.{Case, AsTold}

pub right_more : (first second : List Case) → AsTold first → AsTold second → AsTold (first ++ second)
right_more first second f s =
    map-append (λ (c : Case). c.asked) first second ∙ (ap₂ ◌++◌ f s ∙ sym (map-append (λ (c : Case). c.told) first second))
