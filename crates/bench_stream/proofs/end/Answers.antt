use Prim.Native.Nat.{◌≤◌}
use mathlib.Core.Path.{◌≡◌, refl, sym, ap, ◌∙◌}
use mathlib.Core.Logic.{inl, inr}
use mathlib.Core.Bool.{false, not, not-not, true≢false}
use native.Mathlib.Omega.{arith}
use lib.ListN.{length, length-take}
use Rattle.bench_input.specs.Line.{line_room}
use Rattle.bench_morning.specs.Stream.{HoldsBy}
use Rattle.bench_stream.specs.Feeding.{Ready}
use Rattle.bench_stream.specs.Laws.Ready.{holds_of}
use Rattle.bench_stream.specs.Laws.Feed.{end_opening, end_talking, end_over}
use Rattle.bench_morning.specs.declared.Phase.TheVariants.{Opening, Talking}
use borrow.Author.Rules.{rules}
use Rattle.bench_stream.proofs.end.Goals as goal

pub returns-then-not-sane : goal.returns-then-not-sane
returns-then-not-sane c =
    let e : c.sane.result ≡ false = sym (not-not _) ∙ ap not c.if-not-sane.true-raw in
    record { is = inr ((λ r. true≢false (sym (c.sane.ensures.1 r) ∙ e)), refl, refl) }

pub slice_bounds-start-end : goal.slice_bounds-start-end
slice_bounds-start-end c =
    let ready : Ready c.args.s (length c.args.keep.now) (length c.args.out.now) = (c.sane.ensures.0 (sym (not-not _) ∙ ap not c.if-not-sane.false-raw)) in
    let kept_here : HoldsBy Opening c.args.s (length c.args.keep.now) = (let s = c.args in holds_of s.s (length s.keep.now) (length s.out.now) Opening c.in-Opening.is (ready)) in
    let s = c.args in
    let h = kept_here in
    let l = length-take s.s.at s.keep.now in
    let a = h.0 in
    let b = h.1 in
    omega arith

pub start-o-requires : goal.start-o-requires
start-o-requires c =
    let ready : Ready c.args.s (length c.args.keep.now) (length c.args.out.now) = (c.sane.ensures.0 (sym (not-not _) ∙ ap not c.if-not-sane.false-raw)) in
    let r = (ready).room in omega arith

pub slice_bounds-line-end : goal.slice_bounds-line-end
slice_bounds-line-end c =
    let ready : Ready c.args.s (length c.args.keep.now) (length c.args.out.now) = (c.sane.ensures.0 (sym (not-not _) ∙ ap not c.if-not-sane.false-raw)) in
    let held_here : c.args.s.held ≤ line_room = (let s = c.args in (holds_of s.s (length s.keep.now) (length s.out.now) Talking c.in-Talking.is (ready)).0) in
    let long : length c.args.s.line ≡ line_room = (search (rules, c.well_formed.0.1.1.1.1.0)) in
    let h = held_here in
    let l = long in
    omega arith

pub slice_bounds-put_last-end : goal.slice_bounds-put_last-end
slice_bounds-put_last-end c =
    let ready : Ready c.args.s (length c.args.keep.now) (length c.args.out.now) = (c.sane.ensures.0 (sym (not-not _) ∙ ap not c.if-not-sane.false-raw)) in
    let held_here : c.args.s.held ≤ line_room = (let s = c.args in (holds_of s.s (length s.keep.now) (length s.out.now) Talking c.in-Talking.is (ready)).0) in
    let long : length c.args.s.line ≡ line_room = (search (rules, c.well_formed.0.1.1.1.1.0)) in
    let s = c.args.s in
    let h = held_here in
    let l = long in
    let k = length-take s.held s.line in
    omega arith

pub put_last-requires : goal.put_last-requires
put_last-requires c =
    let ready : Ready c.args.s (length c.args.keep.now) (length c.args.out.now) = (c.sane.ensures.0 (sym (not-not _) ∙ ap not c.if-not-sane.false-raw)) in
    let r = (ready).room in omega arith

pub returns-in-Opening : goal.returns-in-Opening
returns-in-Opening c =
    let ready : Ready c.args.s (length c.args.keep.now) (length c.args.out.now) = (c.sane.ensures.0 (sym (not-not _) ∙ ap not c.if-not-sane.false-raw)) in
    let s = c.args in
    let o = c.start-o in
    record { is = inl (ready, end_opening s.s s.keep.now s.out.now c.in-Opening.is o.result o.new.out o.ensures) }

pub returns-in-Talking : goal.returns-in-Talking
returns-in-Talking c =
    let ready : Ready c.args.s (length c.args.keep.now) (length c.args.out.now) = (c.sane.ensures.0 (sym (not-not _) ∙ ap not c.if-not-sane.false-raw)) in
    let s = c.args in
    let o = c.put_last in
    record { is = inl (ready, end_talking s.s s.keep.now s.out.now c.in-Talking.is o.result o.new.out o.ensures) }

pub returns-in-Over : goal.returns-in-Over
returns-in-Over c =
    let ready : Ready c.args.s (length c.args.keep.now) (length c.args.out.now) = (c.sane.ensures.0 (sym (not-not _) ∙ ap not c.if-not-sane.false-raw)) in
    let s = c.args in
    record { is = inl (ready, end_over s.s s.keep.now s.out.now c.in-Over.is) }
