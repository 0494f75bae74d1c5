use Rattle.std.proofs.Common.{ℕ, ◌-◌, ap, ◌∙◌}
use Rattle.rig_tables.specs.Tests.{climb}
use Rattle.rig_lines.specs.File.{lines_of}
use Rattle.rig_suspects.specs.Suspects.{controller_in}
use Rattle.rig_suspects.specs.Laws.{climb_none, climb_up, climb_there}
use Rattle.rig_suspects.proofs.+climbed.Goals as goal

pub returns-then-k-eq0 : goal.returns-then-k-eq0
returns-then-k-eq0 t c = climb_none (controller_in (lines_of c.args.s.now)) c.args.c c.args.x c.args.k c.if-k-eq0.true

pub returns-then-c-x : goal.returns-then-c-x
returns-then-c-x t c =
    let f = controller_in (lines_of c.args.s.now) in
    c.climbed.ensures
    ∙ (ap (λ (y : ℕ). climb f c.args.c (c.args.k - 1) y) c.controller.ensures
    ∙ climb_up f c.args.c c.args.x c.args.k c.if-k-eq0.false c.if-c-x.true)

pub returns : goal.returns
returns t c = climb_there (controller_in (lines_of c.args.s.now)) c.args.c c.args.x c.args.k c.if-c-x.false
