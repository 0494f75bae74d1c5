-- A test says what a statement says: `Is b P` is "b is true exactly when P", put together from small tests as P is from small
-- statements.
use Rattle.std.specs.Prelude.{◌≡◌, ◌↔◌, Bool, true}

abbrev pub Is : Bool → Type 0 → Type 0
Is b P = (b ≡ true) ↔ P
