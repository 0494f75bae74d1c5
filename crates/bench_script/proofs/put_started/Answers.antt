use mathlib.Core.Path.{refl, ◌∙◌}
use mathlib.Core.Logic.{inr}
use mathlib.Core.List.{List, [], ◌∷◌}
use Prim.Native.Nat.{ℕ, ◌<◌}
use native.Mathlib.Omega.{arith}
use lib.ListN.{length, length-set}
use Rattle.bench_script.specs.Laws.Written.{begun_room, begun_done}
use borrow.Author.Rules.{rules}
use Rattle.bench_script.proofs.put_started.Goals as goal
use mathlib.Core.Logic.{inr}

pub returns-then-out-lt-START_ROOM : goal.returns-then-out-lt-START_ROOM
returns-then-out-lt-START_ROOM c = record { is = inr (c.if-out-lt-START_ROOM.true, refl, refl) }

pub bounds-out-p : goal.bounds-out-p
bounds-out-p c =
    let numbers : List ℕ = (let s = c.args in 0 ∷ s.count ∷ s.running ∷ s.woken ∷ s.activated ∷ []) in
    let behind : c.put_answer-p.result < length c.put_answer-p.new.out = (let s = c in begun_room s.args.out.now (numbers) c.put_name.new.out c.put_answer-p.new.out c.put_answer-p.result c.if-out-lt-START_ROOM.false (omega arith) c.put_name.ensures c.put_answer-p.ensures) in
    behind

pub overflow_add-result : goal.overflow_add-result
overflow_add-result c =
    let numbers : List ℕ = (let s = c.args in 0 ∷ s.count ∷ s.running ∷ s.woken ∷ s.activated ∷ []) in
    let behind : c.put_answer-p.result < length c.put_answer-p.new.out = (let s = c in begun_room s.args.out.now (numbers) c.put_name.new.out c.put_answer-p.new.out c.put_answer-p.result c.if-out-lt-START_ROOM.false (omega arith) c.put_name.ensures c.put_answer-p.ensures) in
    let s = c in
    let a = c.put_name.ensures.size in
    let b = c.put_answer-p.ensures.size in
    let d = behind in
    let k : c.put_answer-p.result < length s.args.out.now = omega arith in
    search rules

pub shape_of-out : goal.shape_of-out
shape_of-out c =
    let a = c.put_name.ensures.size in
    let b = c.put_answer-p.ensures.size in
    length-set c.put_answer-p.new.out c.put_answer-p.result 10 ∙ b ∙ a

pub returns : goal.returns
returns c =
    let numbers : List ℕ = (let s = c.args in 0 ∷ s.count ∷ s.running ∷ s.woken ∷ s.activated ∷ []) in
    let s = c in
    let d = c in
    begun_done s.args.out.now (numbers) c.put_name.new.out d.put_answer-p.new.out d.put_answer-p.result c.if-out-lt-START_ROOM.false (omega arith) c.put_name.ensures d.put_answer-p.ensures
