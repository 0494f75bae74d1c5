-- Three tests, of which one fails or two hold.
use Rattle.std.specs.Prelude.{◌≡◌, refl, ◌&&◌, Bool, true, false}
use Rattle.std.proofs.Common.{sym}

pub and_one : (a b : Bool) → a ≡ false → false ≡ (a && b)
and_one a b e = rw e

pub and_three : (a b c : Bool) → c ≡ false → false ≡ (a && (b && c))
and_three true true c e = sym e
and_three true false c e = refl
and_three false b c e = refl

pub and_two : (a b c : Bool) → a ≡ true → c ≡ true → b ≡ (a && (b && c))
and_two a true c e f = rw (e, f)
and_two a false c e f = rw e
