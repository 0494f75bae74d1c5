use mathlib.Core.Path.{subst}
use mathlib.Core.List.{List}
use Prim.Native.Nat.{ℕ, ◌+◌, ◌≤◌, ◌<◌}
use native.Mathlib.Omega.{arith}
use lib.ListN.{length, set, length-set}
use Rattle.bench_script.specs.Output.{fields_text}
use Rattle.put_text.specs.Wrote.{Wrote}
use Rattle.bench_show.proofs.Laws.Shown.{head_of, head_is, after_head, shown_refused, after_extra, shown_accepted}
use borrow.Author.Rules.{rules}
use Rattle.bench_show.proofs.show.Goals as goal

pub put_answer-p-requires : goal.put_answer-p-requires
put_answer-p-requires c =
    let s = c in
    let l = length-set s.args.out.now s.args.at s.args.verb in
    let p = s.requires.1 in
    omega arith

pub bounds-out-p : goal.bounds-out-p
bounds-out-p c =
    let wrote : Wrote (set c.args.out.now c.args.at c.args.verb) (c.args.at + 1) (fields_text (head_of c.args.answer c.args.count c.args.running)) c.put_answer-p.new.out c.put_answer-p.result = (let s = c.args in let n = c.number_of-n in let told = c.report_of-told in subst (λ (l : List ℕ). Wrote (set s.out.now s.at s.verb) (s.at + 1) (fields_text l) c.put_answer-p.new.out c.put_answer-p.result) (head_is s.answer n.result s.count s.running told.result n.ensures told.ensures) c.put_answer-p.ensures) in
    let room_behind : c.put_answer-p.result + 1408 + 1 ≤ length c.put_answer-p.new.out = (let s = c in let a = s.args in after_head a.verb a.answer a.count a.running a.words.now a.out.now a.at s.requires.0 s.requires.1 c.put_answer-p.new.out c.put_answer-p.result (wrote)) in
    let r = room_behind in
    omega arith

pub overflow_add-result : goal.overflow_add-result
overflow_add-result c =
    let wrote : Wrote (set c.args.out.now c.args.at c.args.verb) (c.args.at + 1) (fields_text (head_of c.args.answer c.args.count c.args.running)) c.put_answer-p.new.out c.put_answer-p.result = (let s = c.args in let n = c.number_of-n in let told = c.report_of-told in subst (λ (l : List ℕ). Wrote (set s.out.now s.at s.verb) (s.at + 1) (fields_text l) c.put_answer-p.new.out c.put_answer-p.result) (head_is s.answer n.result s.count s.running told.result n.ensures told.ensures) c.put_answer-p.ensures) in
    let room_behind : c.put_answer-p.result + 1408 + 1 ≤ length c.put_answer-p.new.out = (let s = c in let a = s.args in after_head a.verb a.answer a.count a.running a.words.now a.out.now a.at s.requires.0 s.requires.1 c.put_answer-p.new.out c.put_answer-p.result (wrote)) in
    let r = room_behind in
    let s = c in
    let z = (wrote).size in
    let l = length-set s.args.out.now s.args.at s.args.verb in
    let k : c.put_answer-p.result < length s.args.out.now = omega arith in
    search rules

pub returns-in_default : goal.returns-in_default
returns-in_default c =
    let wrote : Wrote (set c.args.out.now c.args.at c.args.verb) (c.args.at + 1) (fields_text (head_of c.args.answer c.args.count c.args.running)) c.put_answer-p.new.out c.put_answer-p.result = (let s = c.args in let n = c.number_of-n in let told = c.report_of-told in subst (λ (l : List ℕ). Wrote (set s.out.now s.at s.verb) (s.at + 1) (fields_text l) c.put_answer-p.new.out c.put_answer-p.result) (head_is s.answer n.result s.count s.running told.result n.ensures told.ensures) c.put_answer-p.ensures) in
    let s = c in
    let a = s.args in
    let p = c.put_answer-p in
    shown_refused a.verb a.answer a.count a.running a.words.now a.out.now a.at s.requires.0 s.requires.1 p.new.out p.result (wrote) _ c.in_default.is s.requires.2

pub put_extra-q-requires : goal.put_extra-q-requires
put_extra-q-requires c =
    let wrote : Wrote (set c.args.out.now c.args.at c.args.verb) (c.args.at + 1) (fields_text (head_of c.args.answer c.args.count c.args.running)) c.put_answer-p.new.out c.put_answer-p.result = (let s = c.args in let n = c.number_of-n in let told = c.report_of-told in subst (λ (l : List ℕ). Wrote (set s.out.now s.at s.verb) (s.at + 1) (fields_text l) c.put_answer-p.new.out c.put_answer-p.result) (head_is s.answer n.result s.count s.running told.result n.ensures told.ensures) c.put_answer-p.ensures) in
    let room_behind : c.put_answer-p.result + 1408 + 1 ≤ length c.put_answer-p.new.out = (let s = c in let a = s.args in after_head a.verb a.answer a.count a.running a.words.now a.out.now a.at s.requires.0 s.requires.1 c.put_answer-p.new.out c.put_answer-p.result (wrote)) in
    let r = room_behind in
    (c.requires.0, omega arith)

pub bounds-out-q : goal.bounds-out-q
bounds-out-q c =
    let wrote : Wrote (set c.args.out.now c.args.at c.args.verb) (c.args.at + 1) (fields_text (head_of c.args.answer c.args.count c.args.running)) c.put_answer-p.new.out c.put_answer-p.result = (let s = c.args in let n = c.number_of-n in let told = c.report_of-told in subst (λ (l : List ℕ). Wrote (set s.out.now s.at s.verb) (s.at + 1) (fields_text l) c.put_answer-p.new.out c.put_answer-p.result) (head_is s.answer n.result s.count s.running told.result n.ensures told.ensures) c.put_answer-p.ensures) in
    let s = c in
    let a = s.args in
    let p = c.put_answer-p in
    let q = c.put_extra-q in
    after_extra a.verb a.answer a.count a.running a.words.now a.out.now a.at s.requires.0 s.requires.1 p.new.out p.result (wrote) _ c.in-Accepted.is q.new.out q.result q.ensures

pub overflow_add-result-2 : goal.overflow_add-result-2
overflow_add-result-2 c =
    let wrote : Wrote (set c.args.out.now c.args.at c.args.verb) (c.args.at + 1) (fields_text (head_of c.args.answer c.args.count c.args.running)) c.put_answer-p.new.out c.put_answer-p.result = (let s = c.args in let n = c.number_of-n in let told = c.report_of-told in subst (λ (l : List ℕ). Wrote (set s.out.now s.at s.verb) (s.at + 1) (fields_text l) c.put_answer-p.new.out c.put_answer-p.result) (head_is s.answer n.result s.count s.running told.result n.ensures told.ensures) c.put_answer-p.ensures) in
    let s = c in
    let a = s.args in
    let p = c.put_answer-p in
    let q = c.put_extra-q in
    let z = (wrote).size in
    let y = q.ensures.size in
    let l = length-set a.out.now a.at a.verb in
    let j : q.result < length q.new.out = after_extra a.verb a.answer a.count a.running a.words.now a.out.now a.at s.requires.0 s.requires.1 p.new.out p.result (wrote) _ c.in-Accepted.is q.new.out q.result q.ensures in
    let k : q.result < length a.out.now = omega arith in
    search rules

pub returns : goal.returns
returns c =
    let wrote : Wrote (set c.args.out.now c.args.at c.args.verb) (c.args.at + 1) (fields_text (head_of c.args.answer c.args.count c.args.running)) c.put_answer-p.new.out c.put_answer-p.result = (let s = c.args in let n = c.number_of-n in let told = c.report_of-told in subst (λ (l : List ℕ). Wrote (set s.out.now s.at s.verb) (s.at + 1) (fields_text l) c.put_answer-p.new.out c.put_answer-p.result) (head_is s.answer n.result s.count s.running told.result n.ensures told.ensures) c.put_answer-p.ensures) in
    let s = c in
    let a = s.args in
    let p = c.put_answer-p in
    let q = c.put_extra-q in
    shown_accepted a.verb a.answer a.count a.running a.words.now a.out.now a.at s.requires.0 s.requires.1 p.new.out p.result (wrote) _ c.in-Accepted.is q.new.out q.result q.ensures
