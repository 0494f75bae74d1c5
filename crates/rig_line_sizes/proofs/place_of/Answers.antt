use Rattle.rig_lines.specs.Kinds.{keyed, place_in_order}
use Rattle.rig_line_sizes.proofs.place_of.Goals as goal

pub returns : goal.returns
unfolding place_in_order keyed
returns c = rw (c.number.ensures, c.key-a.ensures.0, c.key-b.ensures.0, c.key-c.ensures.0, c.sizes_of-keys.ensures.keys.0)
