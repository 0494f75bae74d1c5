-- Reading a flag: what it puts out.
use Rattle.std.specs.Prelude.{◌≡◌, ℕ}
use Rattle.std.proofs.Math.Path.{refl, sym}
use mathlib.Core.List.{[]}
use Rattle.rules.specs.Rig as G
use Rattle.rules.specs.State as S
use Rattle.rules.specs.Calls as R

module _ (r : G.Rig) (s : S.State) (f : ℕ) where
  pub read_lent : [] ≡ R.lent (R.read_flag f)
  unfolding R.lent
  read_lent = refl

  pub read_quiet : R.effect r s (R.read_flag f) ≡ R.quiet s
  unfolding R.effect
  read_quiet = refl

  pub read_output : (v : ℕ) → v ≡ S.value_of s f → R.output r s (R.read_flag f) ≡ record { words = 0; value = v; lent = [] }
  unfolding R.output
  read_output v e = λ i. record { words = 0; value = sym e i; lent = [] }
