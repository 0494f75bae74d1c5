use mathlib.Core.Path.{refl, ◌∙◌}
use mathlib.Core.Logic.{inr}
use mathlib.Core.List.{List, [], ◌∷◌}
use Prim.Native.Nat.{ℕ, ◌<◌}
use native.Mathlib.Omega.{arith}
use lib.ListN.{length, length-set}
use Rattle.bench_script.specs.Output.{fields_text}
use Rattle.put_text.specs.Wrote.{Wrote}
use Rattle.put_text.specs.Laws.Wrote.{room_left}
use Rattle.bench_script.specs.Laws.Written.{begun_room, begun_done, two_fields_wrote, fields_length}
use borrow.Author.Rules.{rules}
use Rattle.bench_script.proofs.put_refused.Goals as goal
use mathlib.Core.Logic.{inr}

pub returns-then-out-lt-START_ROOM : goal.returns-then-out-lt-START_ROOM
returns-then-out-lt-START_ROOM c = record { is = inr (c.if-out-lt-START_ROOM.true, refl, refl) }

pub put_field-q-requires : goal.put_field-q-requires
put_field-q-requires c =
    let s = c in
    let n = c.put_name in
    let u = c.put_field-p in
    let z = n.ensures.size in
    let h = c.if-out-lt-START_ROOM.false in
    room_left n.new.out u.new.out (fields_text (s.args.number ∷ [])) 5 u.result 11 11 u.ensures (fields_length (s.args.number ∷ [])) (omega arith)

pub bounds-out-q : goal.bounds-out-q
bounds-out-q c =
    let numbers : List ℕ = (c.args.number ∷ c.args.line ∷ []) in
    let both : Wrote c.put_name.new.out 5 (fields_text (numbers)) c.put_field-q.new.out c.put_field-q.result = (let s = c in let n = c.put_name in let u = c.put_field-p in let z = n.ensures.size in let h = c.if-out-lt-START_ROOM.false in two_fields_wrote n.new.out u.new.out c.put_field-q.new.out 5 s.args.number s.args.line u.result c.put_field-q.result (omega arith) u.ensures c.put_field-q.ensures) in
    let behind : c.put_field-q.result < length c.put_field-q.new.out = (let s = c in let n = c.put_name in begun_room s.args.out.now (numbers) n.new.out c.put_field-q.new.out c.put_field-q.result c.if-out-lt-START_ROOM.false (omega arith) n.ensures (both)) in
    behind

pub overflow_add-result : goal.overflow_add-result
overflow_add-result c =
    let numbers : List ℕ = (c.args.number ∷ c.args.line ∷ []) in
    let both : Wrote c.put_name.new.out 5 (fields_text (numbers)) c.put_field-q.new.out c.put_field-q.result = (let s = c in let n = c.put_name in let u = c.put_field-p in let z = n.ensures.size in let h = c.if-out-lt-START_ROOM.false in two_fields_wrote n.new.out u.new.out c.put_field-q.new.out 5 s.args.number s.args.line u.result c.put_field-q.result (omega arith) u.ensures c.put_field-q.ensures) in
    let behind : c.put_field-q.result < length c.put_field-q.new.out = (let s = c in let n = c.put_name in begun_room s.args.out.now (numbers) n.new.out c.put_field-q.new.out c.put_field-q.result c.if-out-lt-START_ROOM.false (omega arith) n.ensures (both)) in
    let s = c in
    let a = c.put_name.ensures.size in
    let b = (both).size in
    let d = behind in
    let k : c.put_field-q.result < length s.args.out.now = omega arith in
    search rules

pub shape_of-out : goal.shape_of-out
shape_of-out c =
    let numbers : List ℕ = (c.args.number ∷ c.args.line ∷ []) in
    let both : Wrote c.put_name.new.out 5 (fields_text (numbers)) c.put_field-q.new.out c.put_field-q.result = (let s = c in let n = c.put_name in let u = c.put_field-p in let z = n.ensures.size in let h = c.if-out-lt-START_ROOM.false in two_fields_wrote n.new.out u.new.out c.put_field-q.new.out 5 s.args.number s.args.line u.result c.put_field-q.result (omega arith) u.ensures c.put_field-q.ensures) in
    let a = c.put_name.ensures.size in
    let b = (both).size in
    length-set c.put_field-q.new.out c.put_field-q.result 10 ∙ b ∙ a

pub returns : goal.returns
returns c =
    let numbers : List ℕ = (c.args.number ∷ c.args.line ∷ []) in
    let both : Wrote c.put_name.new.out 5 (fields_text (numbers)) c.put_field-q.new.out c.put_field-q.result = (let s = c in let n = c.put_name in let u = c.put_field-p in let z = n.ensures.size in let h = c.if-out-lt-START_ROOM.false in two_fields_wrote n.new.out u.new.out c.put_field-q.new.out 5 s.args.number s.args.line u.result c.put_field-q.result (omega arith) u.ensures c.put_field-q.ensures) in
    let s = c in
    let d = c in
    begun_done s.args.out.now (numbers) c.put_name.new.out d.put_field-q.new.out d.put_field-q.result c.if-out-lt-START_ROOM.false (omega arith) c.put_name.ensures (both)
