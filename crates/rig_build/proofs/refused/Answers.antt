use Rattle.rig_build.proofs.refused.Goals as goal

pub returns : goal.returns
returns c = rw (c.number.ensures, c.none.ensures, c.no_cycles.ensures)
