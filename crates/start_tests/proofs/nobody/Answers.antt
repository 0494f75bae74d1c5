use mathlib.Core.Path.{◌≡◌, sym, ◌∙◌, ap}
use Prim.Native.Nat.{ℕ, zero, suc}
use lib.Dec.{eqb, leb, leb-zero, leb-suc-zero}
use borrow.Author.Rules.{rules}
use borrow.Author.Tests.{ne_eqb}
use native.Mathlib.Omega.{arith}
use Rattle.laws.specs.All.{all}
use Rattle.laws.specs.Laws.All.{all_same}
use Rattle.rig_tables.specs.Places.{at}
use Rattle.rig_tables.specs.Tests.{small_one}
use Rattle.start_tests.specs.Tables.{nobody}
use Rattle.start_tests.proofs.nobody.Goals as goal

none : (x : ℕ) → leb x 0 ≡ eqb x 0
none zero = leb-zero 0
none (suc x) = leb-suc-zero x ∙ sym (ne_eqb (suc x) 0 (λ e. absurd (omega arith)))

pub returns : goal.returns
unfolding nobody
returns c =
    let can = c.args.can.now in
    c.at_most.ensures ∙ ap (λ (n : ℕ). all n (small_one can 0)) (search rules) ∙ all_same 65 _ _ (λ k b. none (at can k))
