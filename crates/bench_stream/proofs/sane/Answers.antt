use mathlib.Core.Path.{refl, sym, ap, ◌∙◌}
use mathlib.Core.Bool.{not, not-not}
use Prim.Native.Nat.{◌+◌, ◌≤◌}
use native.Mathlib.Omega.{arith}
use borrow.Author.Tests.{leb-true, leb-false, le-leb}
use Rattle.bench_script.specs.Output.{turn_room}
use Rattle.bench_stream.specs.Laws.Ready.{not_ready, holds_of, ready_by}
use Rattle.bench_morning.specs.declared.Phase.TheVariants.{Opening, Talking, Over}
use Rattle.bench_stream.proofs.sane.Goals as goal

pub returns-then-not-has_room : goal.returns-then-not-has_room
returns-then-not-has_room c =
    let s = c.args in
    let h = leb-false (0 + turn_room) s.room (sym c.has_room.ensures ∙ (sym (not-not _) ∙ ap not c.if-not-has_room.true-raw)) in
    not_ready s.s s.kept s.room (λ r. omega (arith, h, r.room))

pub returns-then-kept-lt-KEEP : goal.returns-then-kept-lt-KEEP
returns-then-kept-lt-KEEP c =
    let s = c.args in
    not_ready s.s s.kept s.room (λ r. omega (arith, c.if-kept-lt-KEEP.true, (holds_of s.s s.kept s.room Opening c.in-Opening.is r).0))

pub returns-then-s-ge-KEEP : goal.returns-then-s-ge-KEEP
returns-then-s-ge-KEEP c =
    let s = c.args in
    not_ready s.s s.kept s.room (λ r. omega (arith, c.if-s-ge-KEEP.true, (holds_of s.s s.kept s.room Opening c.in-Opening.is r).1))

pub returns-then-s-gt-LINE : goal.returns-then-s-gt-LINE
returns-then-s-gt-LINE c =
    let s = c.args in
    not_ready s.s s.kept s.room (λ r. omega (arith, c.if-s-gt-LINE.true, (holds_of s.s s.kept s.room Talking c.in-Talking.is r).0))

pub returns-else-s-ge-KEEP : goal.returns-else-s-ge-KEEP
returns-else-s-ge-KEEP c =
    let roomy : turn_room ≤ c.args.room = (let s = c.args in let h = leb-true (0 + turn_room) s.room (sym c.has_room.ensures ∙ (sym (not-not _) ∙ ap not c.if-not-has_room.false-raw)) in omega arith) in
    let s = c.args in
    let p = c.in-Opening.is in (
      λ e. ready_by s.s s.kept s.room Opening p (roomy) (c.if-kept-lt-KEEP.false, c.if-s-ge-KEEP.false, leb-true s.s.from s.s.at e),
      λ r. le-leb s.s.from s.s.at (holds_of s.s s.kept s.room Opening p r).2,
    )

pub returns-else-s-gt-LINE : goal.returns-else-s-gt-LINE
returns-else-s-gt-LINE c =
    let roomy : turn_room ≤ c.args.room = (let s = c.args in let h = leb-true (0 + turn_room) s.room (sym c.has_room.ensures ∙ (sym (not-not _) ∙ ap not c.if-not-has_room.false-raw)) in omega arith) in
    let s = c.args in
    let p = c.in-Talking.is in (
      λ e. ready_by s.s s.kept s.room Talking p (roomy) (c.if-s-gt-LINE.false, c.sound.ensures.0 e),
      λ r. c.sound.ensures.1 (holds_of s.s s.kept s.room Talking p r).1,
    )

pub returns-in-Over : goal.returns-in-Over
returns-in-Over c =
    let roomy : turn_room ≤ c.args.room = (let s = c.args in let h = leb-true (0 + turn_room) s.room (sym c.has_room.ensures ∙ (sym (not-not _) ∙ ap not c.if-not-has_room.false-raw)) in omega arith) in
    let s = c.args in
    let p = c.in-Over.is in
    (λ e. ready_by s.s s.kept s.room Over p (roomy) tt, λ r. refl)
