use Rattle.std.proofs.Common.{rules, ◌≡◌, ◌∙◌}
use Rattle.std.specs.Prelude.{ℕ, eqb}
use Rattle.std.specs.List.{list_any}
use Rattle.rig.specs.Rules.{periods}
use Rattle.rig_rows.specs.Laws.{period_listed}
use Rattle.rig_rows.proofs.listed.Goals as goal

pub returns : goal.returns
returns c =
    let found : c.contains.result ≡ list_any (λ (x : ℕ). eqb x c.args.p) periods = search rules in
    found ∙ period_listed c.args.p
