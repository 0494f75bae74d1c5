use Prim.Native.Nat.{ℕ, ◌+◌, ◌-◌, ◌≤◌}
use mathlib.Core.Path.{◌≡◌, sym, ◌∙◌}
use native.Mathlib.Omega.{arith}
use lib.Dec.{leb}
use borrow.Author.Tests.{leb-true, leb-false, le-leb, lt-leb}
use Rattle.laws.specs.Cases.{by}
use Rattle.bench_script.specs.Output.{turn_room}
use Rattle.bench_script.proofs.has_room.Goals as goal

-- what is left behind `at` is as good as what is needed from it on
behind : (all at need : ℕ) → need ≤ all → leb at (all - need) ≡ leb (at + need) all
behind all at need h =
    by (leb at (all - need))
    (λ e. e ∙ sym (le-leb (at + need) all (let k = leb-true at (all - need) e in omega arith)))
    (λ e. e ∙ sym (lt-leb (at + need) all (let k = leb-false at (all - need) e in omega arith)))

pub returns-else-all-ge-TURN_ROOM : goal.returns-else-all-ge-TURN_ROOM
returns-else-all-ge-TURN_ROOM c = let s = c.args in lt-leb turn_room s.all c.if-all-ge-TURN_ROOM.false ∙ sym (lt-leb (s.at + turn_room) s.all (omega (arith, c.if-all-ge-TURN_ROOM.false)))

pub returns-then-all-ge-TURN_ROOM : goal.returns-then-all-ge-TURN_ROOM
returns-then-all-ge-TURN_ROOM c = behind _ _ _ c.if-all-ge-TURN_ROOM.true
