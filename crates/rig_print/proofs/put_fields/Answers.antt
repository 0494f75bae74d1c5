use borrow.Author.Rules.{rules}
use native.Mathlib.Omega.{arith}
use mathlib.Core.Path.{◌≡◌}
use lib.ListN.{length}
use Rattle.rig_print.specs.Laws.Line.{fields_start, fields_end, field_room, fields_turn}
use Rattle.rig_print.proofs.put_fields.Goals as goal

pub loop-f-init : goal.loop-f-init
loop-f-init c = let l : length c.args.v ≡ 9 = search rules in fields_start _ _ _ _ (omega (arith, c.requires.0)) c.requires.1

pub bounds-buf-p : goal.bounds-buf-p
bounds-buf-p c = (field_room _ _ _ _ _ _ _ c.loop-f.invariant c.loop-f-test.true).0

pub overflow_add-p : goal.overflow_add-p
overflow_add-p c = let w = field_room _ _ _ _ _ _ _ c.loop-f.invariant c.loop-f-test.true in omega arith

pub put_number-p-requires : goal.put_number-p-requires
put_number-p-requires c = (search rules, (field_room _ _ _ _ _ _ _ c.loop-f.invariant c.loop-f-test.true).1)

pub loop-f-preserved : goal.loop-f-preserved
loop-f-preserved c = fields_turn _ _ _ _ _ _ _ c.loop-f.invariant c.loop-f-test.true _ _ c.put_number-p.ensures

pub shape_of-buf : goal.shape_of-buf
shape_of-buf c = c.loop-f.invariant.wrote.size

pub returns : goal.returns
returns c = fields_end _ _ _ _ _ _ _ c.loop-f.invariant c.loop-f-test.false
