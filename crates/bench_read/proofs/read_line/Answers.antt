use mathlib.Core.Path.{sym, ap, ◌∙◌, subst}
use Prim.Native.Nat.{ℕ, ◌+◌, ◌≤◌, ◌<◌}
use native.Mathlib.Omega.{arith}
use native.Mathlib.Nat.{le_antisymm}
use Rattle.text.specs.Split.{part}
use Rattle.decimal.specs.Decimal.{cap}
use Rattle.bench_script.specs.Script.{alone}
use Rattle.bench_script.specs.Laws.Fields.{one_field, bad_number, two_fields, more_fields, bad_second, three_fields, short_of, number_same, two_same}
use Rattle.bench_read.proofs.read_line.Goals as goal

pub returns-then-p-e : goal.returns-then-p-e
unfolding part
returns-then-p-e c =
    c.alone.ensures ∙ ap (alone c.args.panel) c.verb_of-v.ensures
    ∙ sym (one_field _ c.args.line.now c.find-p.result c.find-p.ensures c.if-p-e.true)

pub returns-then-n-ge-CAP : goal.returns-then-n-ge-CAP
unfolding part
returns-then-n-ge-CAP c =
    let s = c.args.line.now in
    let p = c.find-p in
    let q = c.find-q in
    sym (bad_number _ s p.result p.ensures (short_of s 0 9 p.result p.ensures c.if-p-e.false) q.result q.ensures
    (subst (λ (x : ℕ). cap ≤ x) c.number_in-n.ensures (omega (arith, c.if-n-ge-CAP.true))))

pub returns-then-q-e : goal.returns-then-q-e
unfolding part
returns-then-q-e c =
    let s = c.args.line.now in
    let p = c.find-p in
    let q = c.find-q in
    let n = c.number_in-n in
    c.with_number.ensures ∙ number_same _ c.verb_of-v.ensures n.ensures
    ∙ sym (two_fields _ s p.result p.ensures (short_of s 0 9 p.result p.ensures c.if-p-e.false) q.result q.ensures
    (subst (λ (x : ℕ). x < cap) n.ensures c.if-n-ge-CAP.false) c.if-q-e.true)

pub returns-then-t-e : goal.returns-then-t-e
unfolding part
returns-then-t-e c =
    let s = c.args.line.now in
    let p = c.find-p in
    let q = c.find-q in
    let t = c.find-t in
    sym (more_fields _ s p.result p.ensures (short_of s 0 9 p.result p.ensures c.if-p-e.false) q.result q.ensures
    (short_of s (p.result + 1) 9 q.result q.ensures c.if-q-e.false) t.result t.ensures c.if-t-e.true)

pub returns-then-x-ge-CAP : goal.returns-then-x-ge-CAP
unfolding part
returns-then-x-ge-CAP c =
    let s = c.args.line.now in
    let p = c.find-p in
    let q = c.find-q in
    let t = c.find-t in
    sym (bad_second _ s p.result p.ensures (short_of s 0 9 p.result p.ensures c.if-p-e.false) q.result q.ensures
    (short_of s (p.result + 1) 9 q.result q.ensures c.if-q-e.false) t.result t.ensures
    (subst (λ (x : ℕ). x < cap) c.number_in-n.ensures c.if-n-ge-CAP.false)
    (le_antisymm t.ensures.high c.if-t-e.false)
    (subst (λ (x : ℕ). cap ≤ x) c.number_in-x.ensures (omega (arith, c.if-x-ge-CAP.true))))

pub returns : goal.returns
unfolding part
returns c =
    let s = c.args.line.now in
    let p = c.find-p in
    let q = c.find-q in
    let t = c.find-t in
    let n = c.number_in-n in
    let m = c.number_in-x in
    c.with_two.ensures
    ∙ two_same _ c.verb_of-v.ensures n.ensures m.ensures
    ∙ sym (three_fields _ s p.result p.ensures (short_of s 0 9 p.result p.ensures c.if-p-e.false) q.result q.ensures
    (short_of s (p.result + 1) 9 q.result q.ensures c.if-q-e.false) t.result t.ensures
    (subst (λ (x : ℕ). x < cap) n.ensures c.if-n-ge-CAP.false)
    (le_antisymm t.ensures.high c.if-t-e.false)
    (subst (λ (x : ℕ). x < cap) m.ensures c.if-x-ge-CAP.false))
