use mathlib.Core.Path.{ap, ◌∙◌}
use Rattle.rig_held.specs.Held.{held}
use Rattle.rig_build.specs.Read.{whole_file}
use Rattle.rig_build.specs.Laws.Known.{whole_in}
use Rattle.rig_build.proofs.whole.Goals as goal

pub returns : goal.returns
returns c =
    let of_known = ap whole_file (ap held c.lines.ensures ∙ c.known_in.ensures.known) in
    c.whole_of.ensures ∙ (of_known ∙ whole_in c.args.lines.now c.args.n c.requires.0 c.requires.2)
