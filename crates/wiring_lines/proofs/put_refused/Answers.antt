use Rattle.wiring_lines.specs.Laws.Lines.{refused_wrote, refused_room}
use Rattle.wiring_lines.proofs.put_refused.Goals as goal

pub put_end-requires : goal.put_end-requires
put_end-requires c = refused_room _ _ _ _ _ c.requires c.put_head-a.ensures

pub returns : goal.returns
returns c = refused_wrote _ _ _ _ _ _ _ c.requires c.put_head-a.ensures c.put_end.ensures
