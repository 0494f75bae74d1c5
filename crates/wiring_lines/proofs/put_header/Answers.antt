use Rattle.wiring_lines.specs.Laws.Lines.{top_room, top_wrote}
use Rattle.wiring_lines.proofs.put_header.Goals as goal

pub put_end-requires : goal.put_end-requires
put_end-requires c = top_room _ _ _ _ _ c.requires c.put_text-a.ensures c.put_numbers-b.ensures

pub returns : goal.returns
returns c = top_wrote _ _ _ _ _ _ _ c.requires c.put_text-a.ensures c.put_numbers-b.ensures c.put_end.ensures
