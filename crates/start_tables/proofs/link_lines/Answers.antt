use mathlib.Core.Path.{◌≡◌, refl, sym, ◌∙◌, ap}
use mathlib.Core.Bool.{Bool}
use Prim.Native.Nat.{ℕ, ◌<◌}
use native.Mathlib.Omega.{arith}
use lib.ListN.{set}
use Rattle.laws.specs.Laws.Iter.{iter_zero}
use Rattle.laws.specs.Laws.Stores.{stored_yes, stored_no}
use Rattle.rig_tables.specs.Places.{at}
use Rattle.start_tests.specs.Tables.{helps_one, place_at, owner_at, brought_in, link_one, link_task}
use Rattle.start_tests.specs.Laws.Flags.{helps_no_link}
use Rattle.start_tables.specs.Laws.Keeping.{kept_none, kept_over, kept_link}
use Rattle.start_tables.proofs.link_lines.Goals as goal
use Rattle.start_tables.proofs.link_lines.Goals.{else-helps+else-is_link, else-helps+then-is_link, then-helps}

pub loop-k-init : goal.loop-k-init
loop-k-init c = (sym (iter_zero _ _), rw c.new-links.ensures (kept_none _ _ _ _ _))

pub loop-k-preserved : goal.loop-k-preserved
loop-k-preserved c =
    let l = c.loop-k in
    let a = c.args in
    let g = a.rig.now in
    let k = l.k in
    let helped : ℕ → Bool = helps_one g.line_task g.line_pos g.line_flag g.desired a.owner.now a.state.now in
    let link : ℕ → Bool = link_one g.line_task g.line_pos g.line_flag g.desired a.owner.now a.state.now in
    let task : ℕ → ℕ = link_task g.line_flag a.owner.now in
    let place : ℕ → ℕ = place_at g.line_task g.line_pos in
    let p = c.place_of-i.ensures in
    let there : c.place_of-i.result < 1040 = omega (arith, p, c.requires.task k c.loop-k-test.true, c.requires.pos k c.loop-k-test.true) in
    let h : helped k ≡ c.helps.result = rw (sym p) (sym c.helps.ensures) in
    let brought = stored_yes helped place (λ i. 1) k a.table.now l.table l.invariant.0 in
    let left = stored_no helped place (λ i. 1) k a.table.now l.table l.invariant.0 in
    let over = kept_over link task place k _ _ _ l.invariant.1 in
    elim c.if-helps.branch [
      | then-helps w ↦ (
        w.table-is ∙ ap (λ (i : ℕ). set l.table i 1) p ∙ brought (h ∙ w.if-helps.true),
        rw w.links-is (over (helps_no_link a.state.now (at g.desired (place k)) (owner_at g.line_flag a.owner.now k) (h ∙ w.if-helps.true))),
      )
      | else-helps+then-is_link w ↦ let q : link k ≡ w.is_link.result = rw (sym p) (sym w.is_link.ensures) in (
        w.table-is ∙ left (h ∙ w.if-helps.false),
        rw (w.links-is, w.push.ensures.items)
            (kept_link link task place k l.links.items _ l.invariant.1 (q ∙ w.if-is_link.true) refl p (omega (arith, c.requires.owned (at g.line_flag k))) there),
      )
      | else-helps+else-is_link w ↦ let q : link k ≡ w.is_link.result = rw (sym p) (sym w.is_link.ensures) in (
        w.table-is ∙ left (h ∙ w.if-helps.false),
        rw w.links-is (over (q ∙ w.if-is_link.false)),
      )
    ]

pub returns : goal.returns
unfolding brought_in
returns c =
    let l = c.loop-k in
    let e : l.k ≡ c.args.rig.now.lines = omega arith in
    (rw e at l.invariant.0, rw e at l.invariant.1)
