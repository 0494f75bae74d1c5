-- One step of a ring: the test's ways out.
use Rattle.std.specs.Prelude.{◌≡◌, ◌≢◌, false, ℕ, ◌≤◌, ◌<◌, eqb}
use Rattle.std.proofs.Common.{arith}
use borrow.Author.Tests.{eq-eqb, ne_eqb, lt-leb, le-leb, le-ltb, lt-ltb}
use Rattle.chains.specs.Laws.Check.{stepb}

-- step_ok's four ways out
module _ (P O : ℕ → ℕ) (s u v : ℕ) where
  pub step_zero : v ≡ 0 → false ≡ stepb P O 64 s u v
  unfolding stepb
  step_zero e = rw (le-ltb 0 v (omega arith))

  pub step_high : 64 < v → false ≡ stepb P O 64 s u v
  unfolding stepb
  step_high h = rw (lt-ltb 0 v (omega arith), lt-leb v 64 h)

  pub step_tests : v ≢ 0 → v ≤ 64 → P v ≡ u → eqb (O v) s ≡ stepb P O 64 s u v
  unfolding stepb
  step_tests n h e = rw (lt-ltb 0 v (omega arith), le-leb v 64 h, eq-eqb (P v) u e)

  pub step_apart : v ≢ 0 → v ≤ 64 → P v ≢ u → false ≡ stepb P O 64 s u v
  unfolding stepb
  step_apart n h e = rw (lt-ltb 0 v (omega arith), le-leb v 64 h, ne_eqb (P v) u e)
