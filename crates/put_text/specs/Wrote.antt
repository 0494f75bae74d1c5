-- A TEXT THAT STANDS WHERE IT WAS WRITTEN: what every writer over a lent list says of its result.
use Rattle.std.specs.Prelude.{ℕ, ◌+◌, ◌≡◌, List, length}
use Rattle.laws.specs.Put.{put}

-- the text t stands at `at` in l, which was m there before, and p is the place after it
pub record Wrote (l : List ℕ) (at : ℕ) (t m : List ℕ) (p : ℕ) : Type 0 where
  pub place : p ≡ at + length t
  pub text : m ≡ put l at t
  pub size : length m ≡ length l
