use mathlib.Core.Path.{ap, ◌∙◌}
use native.Mathlib.Omega.{arith}
use lib.ListN.{length-take}
use Rattle.rules.specs.Frame.{commands_to}
use Rattle.wiring_counts.specs.Laws.{in_front}
use borrow.Author.Rules.{rules}
use Rattle.wiring_counts.proofs.commands_in.Goals as goal

pub bus_words-n-requires : goal.bus_words-n-requires
bus_words-n-requires c = (c.requires, search rules)

pub slice_bounds-words-end : goal.slice_bounds-words-end
slice_bounds-words-end c =
    let u = c.bus_words-n in
    (in_front _ _ _ u.result u.ensures.0 u.ensures.1).0

pub slice_bounds-commands_to-end : goal.slice_bounds-commands_to-end
slice_bounds-commands_to-end c =
    let u = c.bus_words-n in
    let k = (in_front _ _ _ u.result u.ensures.0 u.ensures.1).0 in
    simp length-take (omega (arith, k))

pub commands_to-requires : goal.commands_to-requires
commands_to-requires c = simp length-take (omega arith)

pub returns : goal.returns
returns c =
    let u = c.bus_words-n in
    c.commands_to.ensures ∙ ap (commands_to _) (in_front _ _ _ u.result u.ensures.0 u.ensures.1).1
