use borrow.Author.Rules.{rules}
use Prim.Native.Nat.{ℕ}
use mathlib.Core.Bool.{false}
use mathlib.Core.Path.{◌≡◌, sym, ◌∙◌, subst}
use native.Mathlib.Nat.{le_antisymm}
use lib.ListN.{length}
use Rattle.bench_input.specs.Opening.{Scans}
use native.Mathlib.Omega.{arith}
use Rattle.bench_input.specs.Laws.Scanning.{scanning_start, scanning_end, scanning_run, scanning_full, scanning_next, fits}
use Rattle.bench_input.proofs.scan.Goals as goal

pub loop-i-init : goal.loop-i-init
loop-i-init c = let s = c in scanning_start s.args.keep.now s.args.start s.args.line s.args.piece.now s.requires.0 s.requires.1 s.requires.2

pub run_ends-run-requires : goal.run_ends-run-requires
run_ends-run-requires c =
    let l = c.loop-i in
    let h = fits _ _ _ _ _ _ _ _ l.invariant in
    (l.invariant.behind, omega arith)

pub bounds-keep-at : goal.bounds-keep-at
bounds-keep-at c = fits _ _ _ _ _ _ _ _ c.loop-i.invariant

pub overflow_add-at : goal.overflow_add-at
overflow_add-at c = let h = c.loop-i.invariant.low in search rules

pub shape_of-keep-then-run : goal.shape_of-keep-then-run
shape_of-keep-then-run c =
    let l = c.loop-i in
    (scanning_run _ _ _ _ _ _ _ _ l.invariant c.loop-i-test.true (sym c.run_ends-run.ensures ∙ c.if-run.true)).wrote.size

pub returns-then-run : goal.returns-then-run
returns-then-run c =
    let l = c.loop-i in
    scanning_run _ _ _ _ _ _ _ _ l.invariant c.loop-i-test.true (sym c.run_ends-run.ensures ∙ c.if-run.true)

pub shape_of-keep-then-at-eq-KEEP : goal.shape_of-keep-then-at-eq-KEEP
shape_of-keep-then-at-eq-KEEP c =
    let l = c.loop-i in
    (scanning_full _ _ _ _ _ _ _ _ l.invariant c.loop-i-test.true (sym c.run_ends-run.ensures ∙ c.if-run.false) (omega (arith, c.if-at-eq-KEEP.true))).wrote.size

pub returns-then-at-eq-KEEP : goal.returns-then-at-eq-KEEP
returns-then-at-eq-KEEP c =
    let l = c.loop-i in
    scanning_full _ _ _ _ _ _ _ _ l.invariant c.loop-i-test.true (sym c.run_ends-run.ensures ∙ c.if-run.false) (omega (arith, c.if-at-eq-KEEP.true))

pub loop-i-preserved : goal.loop-i-preserved
loop-i-preserved c =
    let l = c.loop-i in
    scanning_next _ _ _ _ _ _ _ _ l.invariant c.loop-i-test.true c.line_start-from.result (sym c.run_ends-run.ensures ∙ c.if-run.false) c.if-at-eq-KEEP.false c.line_start-from.ensures

pub shape_of-keep : goal.shape_of-keep
shape_of-keep c = c.loop-i.invariant.wrote.size

pub returns : goal.returns
returns c =
    let a = c.args in
    let l = c.loop-i in
    let e : l.i ≡ length a.piece.now = le_antisymm l.auto.i-end c.loop-i-test.false in
    subst (λ (n : ℕ). Scans a.keep.now a.start a.line a.piece.now (record { at = l.at; from = l.from; took = n; ready = false }) l.keep) e
    (scanning_end _ _ _ _ _ _ _ _ l.invariant c.loop-i-test.false)
