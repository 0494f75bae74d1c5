use borrow.Author.Rules.{rules}
use Prim.Native.Nat.{◌+◌, ◌-◌, ◌≤◌}
use mathlib.Core.Path.{◌≡◌, refl, sym, ap, ◌∙◌}
use mathlib.Core.Logic.{inl, inr}
use mathlib.Core.Bool.{not, not-not}
use native.Mathlib.Omega.{arith}
use lib.ListN.{length}
use borrow.Author.Tests.{leb-true, leb-false}
use Rattle.bench_script.specs.Output.{turn_room}
use Rattle.bench_talk.specs.Laws.Talk.{talking_start, prefix, talking_turn, talking_byte}
use Rattle.bench_talk.proofs.talk.Goals as goal

pub loop-i-init : goal.loop-i-init
loop-i-init c =
    let s = c in
    talking_start s.args.s.panel s.args.s.exec s.args.s.line s.args.s.held s.args.piece.now s.args.out.now s.args.place s.requires.0 (search (rules, s.well_formed.0.1.1.1.1.0)) s.requires.1 s.requires.2

pub slice_bounds-line-end : goal.slice_bounds-line-end
slice_bounds-line-end c =
    let l = c.loop-i in
    let h = l.invariant.high in
    let k = l.invariant.size in
    omega arith

pub slice_bounds-take_turn-end : goal.slice_bounds-take_turn-end
slice_bounds-take_turn-end c = prefix _ _ _ _ _ _ _ _ _ _ _ c.loop-i.invariant

pub loop-i-smaller-then-b-eq-LF : goal.loop-i-smaller-then-b-eq-LF
loop-i-smaller-then-b-eq-LF c = let t = c.loop-i-test.true in omega arith

pub loop-i-preserved-then-b-eq-LF : goal.loop-i-preserved-then-b-eq-LF
loop-i-preserved-then-b-eq-LF c =
    let roomy : c.loop-i.at + turn_room ≤ length c.loop-i.out = (let l = c.loop-i in leb-true (l.at + turn_room) (length l.out) (sym c.has_room.ensures ∙ (sym (not-not _) ∙ ap not c.if-not-has_room.false-raw))) in
    let l = c.loop-i in
    let k = c.take_turn-at in
    rw k.ensures.kept (talking_turn _ _ _ _ _ _ _ _ _ _ _ l.invariant c.loop-i-test.true (roomy) c.if-b-eq-LF.true (record { st = k.new.e.st; at = k.result }) _ k.ensures.turns)

pub hold-held-requires : goal.hold-held-requires
hold-held-requires c = let l = c.loop-i in (l.invariant.size, l.invariant.high)

pub loop-i-smaller : goal.loop-i-smaller
loop-i-smaller c = let t = c.loop-i-test.true in omega arith

pub loop-i-preserved : goal.loop-i-preserved
loop-i-preserved c =
    let roomy : c.loop-i.at + turn_room ≤ length c.loop-i.out = (let l = c.loop-i in leb-true (l.at + turn_room) (length l.out) (sym c.has_room.ensures ∙ (sym (not-not _) ∙ ap not c.if-not-has_room.false-raw))) in
    let l = c.loop-i in
    talking_byte _ _ _ _ _ _ _ _ _ _ _ l.invariant c.loop-i-test.true (roomy) c.if-b-eq-LF.false _ c.hold-held.result c.hold-held.ensures

pub shape_of-out-after-loop-i : goal.shape_of-out-after-loop-i
shape_of-out-after-loop-i c = c.loop-i.invariant.wrote.size

pub shape_of-out-then-not-has_room : goal.shape_of-out-then-not-has_room
shape_of-out-then-not-has_room c = c.loop-i.invariant.wrote.size

pub returns-after-loop-i : goal.returns-after-loop-i
returns-after-loop-i c =
    let w = c.loop-i.invariant in
    let q : c.loop-i.i ≡ length c.args.piece.now = let a = w.inside in let b = c.loop-i-test.false in omega arith in
    record { desk = w.desk; wrote = w.wrote; took = w.inside; roomy = w.roomy; stop = inl q; phase = refl; held = w.high; sound = w.sound }

pub returns-then-not-has_room : goal.returns-then-not-has_room
returns-then-not-has_room c =
    let l = c.loop-i in
    let w = l.invariant in
    let h = leb-false (l.at + turn_room) (length l.out) (sym c.has_room.ensures ∙ (sym (not-not _) ∙ ap not c.if-not-has_room.true-raw)) in
    let z = w.wrote.size in
    record { desk = w.desk; wrote = w.wrote; took = w.inside; roomy = w.roomy; stop = inr (omega arith); phase = refl; held = w.high; sound = w.sound }
