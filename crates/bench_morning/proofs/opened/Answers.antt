use mathlib.Core.Path.{◌≡◌, subst, sym, ◌∙◌}
use Prim.Native.Nat.{ℕ}
use native.Mathlib.Omega.{arith}
use lib.ListN.{length}
use Rattle.bench_morning.specs.Stream.{HoldsBy}
use Rattle.bench_morning.specs.Laws.Open.{opens_none}
use Rattle.bench_morning.specs.declared.Phase.{Phase}
use Rattle.bench_morning.specs.declared.Phase.TheVariants.{Opening, Talking, Over}
use Rattle.bench_morning.proofs.opened.Goals as goal

talking_opening : Talking ≡ Opening → ⊥
talking_opening q = let z : ◌≡◌ {A = ℕ} 0 1 = cc in omega (arith, z)

over_opening : Over ≡ Opening → ⊥
over_opening q = let z : ◌≡◌ {A = ℕ} 0 1 = cc in omega (arith, z)

pub read_on-requires : goal.read_on-requires
read_on-requires c =
    let s = c in
    let p = c.in-Opening.is in
    (s.requires.0, p, subst (λ (x : Phase). HoldsBy x s.args.s (length s.args.keep.now)) p s.requires.1)

pub returns-in-Talking : goal.returns-in-Talking
returns-in-Talking c =
    let s = c in
    opens_none s.args.s s.args.keep.now s.args.piece.now s.args.out.now c.unread.result (λ q. talking_opening (sym c.in-Talking.is ∙ q)) s.requires.1 c.unread.ensures

pub returns-in-Over : goal.returns-in-Over
returns-in-Over c =
    let s = c in
    opens_none s.args.s s.args.keep.now s.args.piece.now s.args.out.now c.unread-in-Over.result (λ q. over_opening (sym c.in-Over.is ∙ q)) s.requires.1 c.unread-in-Over.ensures
