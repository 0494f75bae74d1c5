use mathlib.Core.Path.{refl, sym, ap, ◌∙◌, subst}
use mathlib.Core.Bool.{not, not-not}
use mathlib.Core.Logic.{inl, inr}
use Prim.Native.Nat.{ℕ, ◌+◌, ◌≤◌}
use native.Mathlib.Omega.{arith}
use lib.ListN.{length}
use borrow.Author.Tests.{leb-true, leb-false}
use Rattle.bench_script.specs.declared.Said.{Said}
use Rattle.bench_script.specs.Output.{turn_room}
use Rattle.put_text.specs.Wrote.{Wrote}
use Rattle.bench_turn.specs.Turn.{Takes, letter_of, asked_by, answer_text}
use Rattle.exec.specs.declared.Step.{Step}
use Rattle.bench_turn.specs.Laws.Turn.{made_proper, made_kept, answered, unasked}
use borrow.Author.Rules.{rules}
use Rattle.bench_turn.proofs.take_turn.Goals as goal

pub returns-then-not-has_room : goal.returns-then-not-has_room
returns-then-not-has_room c =
    let s = c.args in
    let h = leb-false (s.at + turn_room) (length s.out.now) (sym c.has_room.ensures ∙ (sym (not-not _) ∙ ap not c.if-not-has_room.true-raw)) in
    record { turns = record { is = inr (h, refl, refl) }; kept = refl }

pub put_wrong-requires : goal.put_wrong-requires
put_wrong-requires c =
    let roomy : c.args.at + turn_room ≤ length c.args.out.now = (let s = c.args in leb-true (s.at + turn_room) (length s.out.now) (sym c.has_room.ensures ∙ (sym (not-not _) ∙ ap not c.if-not-has_room.false-raw))) in
    let h = roomy in omega arith

pub returns-then-verb-eq63 : goal.returns-then-verb-eq63
returns-then-verb-eq63 c =
    let roomy : c.args.at + turn_room ≤ length c.args.out.now = (let s = c.args in leb-true (s.at + turn_room) (length s.out.now) (sym c.has_room.ensures ∙ (sym (not-not _) ∙ ap not c.if-not-has_room.false-raw))) in
    let s = c.args in
    let w = c.put_wrong in
    let said = c.read_line-said in
    record {
      turns = record {
        is = inl (
          roomy,
          subst (λ (x : Said). Takes s.e.now (letter_of x) (asked_by x) s.out.now s.at (record { st = s.e.now.st; at = w.result }) w.new.out) said.ensures
              (unasked s.e.now said.result s.out.now s.at w.result w.new.out (sym c.letter-verb.ensures ∙ c.if-verb-eq63.true) w.ensures),
        );
      };
      kept = refl;
    }

pub show-requires : goal.show-requires
show-requires c =
    let roomy : c.args.at + turn_room ≤ length c.args.out.now = (let s = c.args in leb-true (s.at + turn_room) (length s.out.now) (sym c.has_room.ensures ∙ (sym (not-not _) ∙ ap not c.if-not-has_room.false-raw))) in
    let k = c.ask-answer in
    let said = c.read_line-said in
    (search rules, roomy, made_proper c.args.e.now said.result _ (record { exec = k.new.e; answer = k.result }) k.new.words k.ensures)

pub returns : goal.returns
returns c =
    let roomy : c.args.at + turn_room ≤ length c.args.out.now = (let s = c.args in leb-true (s.at + turn_room) (length s.out.now) (sym c.has_room.ensures ∙ (sym (not-not _) ∙ ap not c.if-not-has_room.false-raw))) in
    let s = c.args in
    let k = c.ask-answer in
    let w = c.show in
    let said = c.read_line-said in
    let v = c.letter-verb.ensures in
    let step : Step = record { exec = k.new.e; answer = k.result } in
    let wrote = subst (λ (n : ℕ). Wrote s.out.now s.at (answer_text n step k.new.words) w.new.out w.result) v w.ensures in
    record {
      turns = record {
        is = inl (
          roomy,
          subst (λ (x : Said). Takes s.e.now (letter_of x) (asked_by x) s.out.now s.at (record { st = k.new.e.st; at = w.result }) w.new.out) said.ensures
              (answered s.e.now step k.new.words s.out.now s.at w.result w.new.out said.result (λ q. c.if-verb-eq63.false (v ∙ q)) k.ensures wrote),
        );
      };
      kept = made_kept s.e.now said.result _ step k.new.words k.ensures;
    }
