use Prim.Native.Nat.{ℕ, ◌+◌, ◌-◌, ◌≤◌}
use mathlib.Core.Path.{◌≡◌, refl, sym, ap, ◌∙◌, subst}
use mathlib.Core.Logic.{inl, inr}
use mathlib.Core.Bool.{false, not, not-not, true≢false}
use mathlib.Core.List.{List}
use native.Mathlib.Omega.{arith}
use lib.ListN.{length, take, drop, length-drop}
use lib.Seq.{take_all}
use borrow.Author.Tests.{leb-true, leb-false}
use Rattle.bench_script.specs.Output.{turn_room}
use Rattle.bench_morning.specs.Stream.{HoldsBy}
use Rattle.bench_stream.specs.Feeding.{Ready}
use Rattle.bench_talk.specs.Talks.{Talks}
use Rattle.bench_stream.specs.Laws.Feed.{feed_short, feed_opening, feed_talking, feed_over}
use Rattle.bench_morning.specs.declared.Phase.{Phase}
use Rattle.bench_morning.specs.declared.Phase.TheVariants.{Talking}
use borrow.Author.Rules.{rules}
use Rattle.bench_stream.proofs.feed.Goals as goal

-- what is left of the piece
left : (n : ℕ) (l : List ℕ) → take (length l - n) (drop n l) ≡ drop n l
left n l = take_all (length l - n) (drop n l) (let d = length-drop n l in omega arith)

pub returns-then-not-sane : goal.returns-then-not-sane
returns-then-not-sane c =
    let e : c.sane.result ≡ false = sym (not-not _) ∙ ap not c.if-not-sane.true-raw in
    record { is = inr ((λ r. true≢false (sym (c.sane.ensures.1 r) ∙ e)), refl, refl, refl) }

pub returns-then-not-has_room : goal.returns-then-not-has_room
returns-then-not-has_room c =
    let ready : Ready c.args.s (length c.args.keep.now) (length c.args.out.now) = (c.sane.ensures.0 (sym (not-not _) ∙ ap not c.if-not-sane.false-raw)) in
    let s = c.args in
    let o = c.opened-o in
    let r = ready in
    let h = leb-false _ _ (sym c.has_room.ensures ∙ (sym (not-not _) ∙ ap not c.if-not-has_room.true-raw)) in
    record { is = inl (r, feed_short s.s s.keep.now s.piece.now s.out.now r.room o.result o.new.keep o.new.out o.ensures h) }

pub talk-t-requires : goal.talk-t-requires
talk-t-requires c =
    let roomy : c.opened-o.result.wrote + turn_room ≤ length c.opened-o.new.out = (leb-true _ _ (sym c.has_room.ensures ∙ (sym (not-not _) ∙ ap not c.if-not-has_room.false-raw))) in
    let holds_here : HoldsBy Talking c.opened-o.result.stream (length c.opened-o.new.keep) = (let o = c.opened-o in subst (λ (x : Phase). HoldsBy x o.result.stream (length o.new.keep)) c.in-Talking.is o.ensures.holds) in
    let w = holds_here in
    let h = roomy in
    (w.0, w.1, omega arith)

pub overflow_add-result : goal.overflow_add-result
overflow_add-result c =
    let o = c.opened-o in
    let t = c.talk-t in
    let a = o.ensures.took in
    let b = t.ensures.took in
    let d = left o.result.took c.args.piece.now in
    let e = length-drop o.result.took c.args.piece.now in
    let k : o.result.took + t.result.took ≤ length c.args.piece.now = omega (arith, ap length d) in
    let g = c.well_formed.1.1.0 in
    search (rules, g)

pub returns-in-Opening : goal.returns-in-Opening
returns-in-Opening c =
    let ready : Ready c.args.s (length c.args.keep.now) (length c.args.out.now) = (c.sane.ensures.0 (sym (not-not _) ∙ ap not c.if-not-sane.false-raw)) in
    let s = c.args in
    let o = c.opened-o in
    let r = ready in
    record { is = inl (r, feed_opening s.s s.keep.now s.piece.now s.out.now r.room o.result o.new.keep o.new.out o.ensures c.in-Opening.is) }

pub shape_of-keep-in-Talking : goal.shape_of-keep-in-Talking
shape_of-keep-in-Talking c = c.opened-o.ensures.size

pub returns-in-Talking : goal.returns-in-Talking
returns-in-Talking c =
    let ready : Ready c.args.s (length c.args.keep.now) (length c.args.out.now) = (c.sane.ensures.0 (sym (not-not _) ∙ ap not c.if-not-sane.false-raw)) in
    let roomy : c.opened-o.result.wrote + turn_room ≤ length c.opened-o.new.out = (leb-true _ _ (sym c.has_room.ensures ∙ (sym (not-not _) ∙ ap not c.if-not-has_room.false-raw))) in
    let s = c.args in
    let o = c.opened-o in
    let t = c.talk-t in
    let r = ready in
    let h = roomy in
    let u = subst (λ (l : List ℕ). Talks o.result.stream l o.new.out o.result.wrote t.result t.new.out) (left o.result.took s.piece.now) t.ensures in
    record { is = inl (r, feed_talking s.s s.keep.now s.piece.now s.out.now r.room o.result o.new.keep o.new.out o.ensures c.in-Talking.is (omega arith) t.result t.new.out u) }

pub returns-in-Over : goal.returns-in-Over
returns-in-Over c =
    let ready : Ready c.args.s (length c.args.keep.now) (length c.args.out.now) = (c.sane.ensures.0 (sym (not-not _) ∙ ap not c.if-not-sane.false-raw)) in
    let roomy : c.opened-o.result.wrote + turn_room ≤ length c.opened-o.new.out = (leb-true _ _ (sym c.has_room.ensures ∙ (sym (not-not _) ∙ ap not c.if-not-has_room.false-raw))) in
    let s = c.args in
    let o = c.opened-o in
    let r = ready in
    record { is = inl (r, feed_over s.s s.keep.now s.piece.now s.out.now r.room o.result o.new.keep o.new.out o.ensures c.in-Over.is (roomy)) }
