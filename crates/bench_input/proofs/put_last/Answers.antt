use mathlib.Core.Path.{◌≡◌, refl, sym, ◌∙◌}
use mathlib.Core.List.{List, [], ◌∷◌}
use Prim.Native.Nat.{ℕ, ◌<◌, ◌≤◌}
use native.Mathlib.Omega.{arith}
use borrow.Author.Tests.{eqb-true, eqb-false}
use lib.ListN.{length}
use Rattle.bench_script.specs.Output.{wrong_text}
use Rattle.put_text.specs.Laws.Wrote.{wrote_as, wrote_none}
use Rattle.bench_input.specs.Line.{last_text}
use Rattle.bench_input.proofs.put_last.Goals as goal

some : (l : List ℕ) → 0 < length l → wrong_text ≡ last_text l
unfolding last_text
some [] h = absurd (let z : ⊥ = omega arith in z)
some (b ∷ l) h = refl

none : (l : List ℕ) → length l ≤ 0 → [] ≡ last_text l
unfolding last_text
none [] h = refl
none (b ∷ l) h = absurd (let z : ⊥ = omega arith in z)

pub returns-then-is_empty : goal.returns-then-is_empty
returns-then-is_empty c =
    let s = c.args in
    let e = eqb-true (length s.line.now) 0 (sym c.is_empty.ensures ∙ c.if-is_empty.true) in
    wrote_as s.out.now s.out.now [] (last_text s.line.now) 0 0 (none s.line.now (omega (arith, e))) (wrote_none s.out.now 0)

pub returns : goal.returns
returns c =
    let s = c.args in
    let w = c.put_wrong in
    let e = eqb-false (length s.line.now) 0 (sym c.is_empty.ensures ∙ c.if-is_empty.false) in
    wrote_as s.out.now w.new.out wrong_text (last_text s.line.now) 0 w.result (some s.line.now (omega (arith, e))) w.ensures
