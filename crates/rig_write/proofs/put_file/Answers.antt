use Prim.Native.Nat.{◌+◌, ◌≤◌}
use lib.ListN.{length}
use Rattle.put_text.specs.Wrote.{Wrote}
use Rattle.put_text.specs.Laws.Wrote.{wrote_as}
use Rattle.rig_write.specs.Kept.{ended}
use Rattle.rig_write.specs.File.{rig_line, file_of}
use Rattle.rig_write.specs.Laws.Chain.{tasks_text, conditions_text, lines_text, cycles_text, rows_text, from_tasks, from_conditions, from_lines, from_cycles, file_parts, file_room, part_room, rest_room, with_rest}
use Rattle.rig_write.proofs.put_file.Goals as goal

pub put_rig-a-requires : goal.put_rig-a-requires
put_rig-a-requires c =
    let s = c in
    part_room s.args.buf.now 0 (ended (rig_line s.args.g.now)) (from_tasks s.args.g.now s.args.table.now) (file_room _ s.args.g.now s.args.table.now s.requires)

pub put_tasks-b-requires : goal.put_tasks-b-requires
put_tasks-b-requires c =
    let tasks_room : c.put_rig-a.result + length (from_tasks c.args.g.now c.args.table.now) ≤ length c.put_rig-a.new.buf = (let s = c in rest_room _ _ _ _ (file_room _ s.args.g.now s.args.table.now s.requires) _ _ c.put_rig-a.ensures) in
    let d = c in
    let s = d in
    part_room d.put_rig-a.new.buf d.put_rig-a.result (tasks_text s.args.g.now) (from_conditions s.args.g.now s.args.table.now) (tasks_room)

pub put_conditions-c-requires : goal.put_conditions-c-requires
put_conditions-c-requires c =
    let tasks_room : c.put_rig-a.result + length (from_tasks c.args.g.now c.args.table.now) ≤ length c.put_rig-a.new.buf = (let s = c in rest_room _ _ _ _ (file_room _ s.args.g.now s.args.table.now s.requires) _ _ c.put_rig-a.ensures) in
    let conditions_room : c.put_tasks-b.result + length (from_conditions c.args.g.now c.args.table.now) ≤ length c.put_tasks-b.new.buf = (rest_room _ _ _ _ (tasks_room) _ _ c.put_tasks-b.ensures) in
    let d = c in
    let s = d in
    part_room d.put_tasks-b.new.buf d.put_tasks-b.result (conditions_text s.args.g.now) (from_lines s.args.g.now s.args.table.now) (conditions_room)

pub put_lines-d-requires : goal.put_lines-d-requires
put_lines-d-requires c =
    let tasks_room : c.put_rig-a.result + length (from_tasks c.args.g.now c.args.table.now) ≤ length c.put_rig-a.new.buf = (let s = c in rest_room _ _ _ _ (file_room _ s.args.g.now s.args.table.now s.requires) _ _ c.put_rig-a.ensures) in
    let conditions_room : c.put_tasks-b.result + length (from_conditions c.args.g.now c.args.table.now) ≤ length c.put_tasks-b.new.buf = (rest_room _ _ _ _ (tasks_room) _ _ c.put_tasks-b.ensures) in
    let lines_room : c.put_conditions-c.result + length (from_lines c.args.g.now c.args.table.now) ≤ length c.put_conditions-c.new.buf = (rest_room _ _ _ _ (conditions_room) _ _ c.put_conditions-c.ensures) in
    let d = c in
    let s = d in
    part_room d.put_conditions-c.new.buf d.put_conditions-c.result (lines_text s.args.g.now) (from_cycles s.args.g.now s.args.table.now) (lines_room)

pub put_cycles-e-requires : goal.put_cycles-e-requires
put_cycles-e-requires c =
    let tasks_room : c.put_rig-a.result + length (from_tasks c.args.g.now c.args.table.now) ≤ length c.put_rig-a.new.buf = (let s = c in rest_room _ _ _ _ (file_room _ s.args.g.now s.args.table.now s.requires) _ _ c.put_rig-a.ensures) in
    let conditions_room : c.put_tasks-b.result + length (from_conditions c.args.g.now c.args.table.now) ≤ length c.put_tasks-b.new.buf = (rest_room _ _ _ _ (tasks_room) _ _ c.put_tasks-b.ensures) in
    let lines_room : c.put_conditions-c.result + length (from_lines c.args.g.now c.args.table.now) ≤ length c.put_conditions-c.new.buf = (rest_room _ _ _ _ (conditions_room) _ _ c.put_conditions-c.ensures) in
    let cycles_room : c.put_lines-d.result + length (from_cycles c.args.g.now c.args.table.now) ≤ length c.put_lines-d.new.buf = (rest_room _ _ _ _ (lines_room) _ _ c.put_lines-d.ensures) in
    let d = c in
    let s = d in
    part_room d.put_lines-d.new.buf d.put_lines-d.result (cycles_text s.args.table.now) (rows_text s.args.g.now) (cycles_room)

pub put_rows-requires : goal.put_rows-requires
put_rows-requires c =
    let tasks_room : c.put_rig-a.result + length (from_tasks c.args.g.now c.args.table.now) ≤ length c.put_rig-a.new.buf = (let s = c in rest_room _ _ _ _ (file_room _ s.args.g.now s.args.table.now s.requires) _ _ c.put_rig-a.ensures) in
    let conditions_room : c.put_tasks-b.result + length (from_conditions c.args.g.now c.args.table.now) ≤ length c.put_tasks-b.new.buf = (rest_room _ _ _ _ (tasks_room) _ _ c.put_tasks-b.ensures) in
    let lines_room : c.put_conditions-c.result + length (from_lines c.args.g.now c.args.table.now) ≤ length c.put_conditions-c.new.buf = (rest_room _ _ _ _ (conditions_room) _ _ c.put_conditions-c.ensures) in
    let cycles_room : c.put_lines-d.result + length (from_cycles c.args.g.now c.args.table.now) ≤ length c.put_lines-d.new.buf = (rest_room _ _ _ _ (lines_room) _ _ c.put_lines-d.ensures) in
    let rows_room : c.put_cycles-e.result + length (rows_text c.args.g.now) ≤ length c.put_cycles-e.new.buf = (rest_room _ _ _ _ (cycles_room) _ _ c.put_cycles-e.ensures) in
    rows_room

pub shape_of-buf : goal.shape_of-buf
shape_of-buf c =
    let tasks_room : c.put_rig-a.result + length (from_tasks c.args.g.now c.args.table.now) ≤ length c.put_rig-a.new.buf = (let s = c in rest_room _ _ _ _ (file_room _ s.args.g.now s.args.table.now s.requires) _ _ c.put_rig-a.ensures) in
    let conditions_room : c.put_tasks-b.result + length (from_conditions c.args.g.now c.args.table.now) ≤ length c.put_tasks-b.new.buf = (rest_room _ _ _ _ (tasks_room) _ _ c.put_tasks-b.ensures) in
    let lines_room : c.put_conditions-c.result + length (from_lines c.args.g.now c.args.table.now) ≤ length c.put_conditions-c.new.buf = (rest_room _ _ _ _ (conditions_room) _ _ c.put_conditions-c.ensures) in
    let cycles_room : c.put_lines-d.result + length (from_cycles c.args.g.now c.args.table.now) ≤ length c.put_lines-d.new.buf = (rest_room _ _ _ _ (lines_room) _ _ c.put_lines-d.ensures) in
    let whole : Wrote c.args.buf.now 0 (file_of c.args.g.now c.args.table.now) c.put_rows.new.buf c.put_rows.result = (let e = c in let d = e in let b = d in let t = b in let r = t in let s = r in wrote_as _ _ _ _ _ _ (file_parts s.args.g.now s.args.table.now) (with_rest _ _ _ _ (file_room _ s.args.g.now s.args.table.now s.requires) _ _ r.put_rig-a.ensures _ _ (with_rest _ _ _ _ (tasks_room) _ _ t.put_tasks-b.ensures _ _ (with_rest _ _ _ _ (conditions_room) _ _ b.put_conditions-c.ensures _ _ (with_rest _ _ _ _ (lines_room) _ _ d.put_lines-d.ensures _ _ (with_rest _ _ _ _ (cycles_room) _ _ e.put_cycles-e.ensures _ _ c.put_rows.ensures)))))) in
    (whole).size

pub returns : goal.returns
returns c =
    let tasks_room : c.put_rig-a.result + length (from_tasks c.args.g.now c.args.table.now) ≤ length c.put_rig-a.new.buf = (let s = c in rest_room _ _ _ _ (file_room _ s.args.g.now s.args.table.now s.requires) _ _ c.put_rig-a.ensures) in
    let conditions_room : c.put_tasks-b.result + length (from_conditions c.args.g.now c.args.table.now) ≤ length c.put_tasks-b.new.buf = (rest_room _ _ _ _ (tasks_room) _ _ c.put_tasks-b.ensures) in
    let lines_room : c.put_conditions-c.result + length (from_lines c.args.g.now c.args.table.now) ≤ length c.put_conditions-c.new.buf = (rest_room _ _ _ _ (conditions_room) _ _ c.put_conditions-c.ensures) in
    let cycles_room : c.put_lines-d.result + length (from_cycles c.args.g.now c.args.table.now) ≤ length c.put_lines-d.new.buf = (rest_room _ _ _ _ (lines_room) _ _ c.put_lines-d.ensures) in
    let whole : Wrote c.args.buf.now 0 (file_of c.args.g.now c.args.table.now) c.put_rows.new.buf c.put_rows.result = (let e = c in let d = e in let b = d in let t = b in let r = t in let s = r in wrote_as _ _ _ _ _ _ (file_parts s.args.g.now s.args.table.now) (with_rest _ _ _ _ (file_room _ s.args.g.now s.args.table.now s.requires) _ _ r.put_rig-a.ensures _ _ (with_rest _ _ _ _ (tasks_room) _ _ t.put_tasks-b.ensures _ _ (with_rest _ _ _ _ (conditions_room) _ _ b.put_conditions-c.ensures _ _ (with_rest _ _ _ _ (lines_room) _ _ d.put_lines-d.ensures _ _ (with_rest _ _ _ _ (cycles_room) _ _ e.put_cycles-e.ensures _ _ c.put_rows.ensures)))))) in
    whole
