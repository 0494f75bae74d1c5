-- THE REFUSALS' NUMBERS, 1 to 12, and what an answer that may be a refusal says in numbers: 0 where it is accepted.
use Rattle.std.specs.Prelude.{◌≡◌, ◌≢◌, ℕ, Result, Ok, Err}
use Rattle.std.specs.Result.{IsErrAnd}
use Rattle.std.proofs.Common.{arith, ap, ◌∙◌}
use Rattle.std.proofs.lemmas.Result.{err_from_is_err_and}
use Rattle.refusals.specs.declared.Refusal.{Refusal}
use Rattle.refusals.specs.declared.Refusal.TheVariants.{WrongShape, OutsideSize, OutOfOrder, RuleBroken, NobodyRuns, NoSuch, NotAllowed, WrongState, PastLastCount, WrongLength, WordOutsideSize, NotSound}

abbrev pub refusal_number : Refusal → ℕ
refusal_number WrongShape = 1
refusal_number OutsideSize = 2
refusal_number OutOfOrder = 3
refusal_number RuleBroken = 4
refusal_number NobodyRuns = 5
refusal_number NoSuch = 6
refusal_number NotAllowed = 7
refusal_number WrongState = 8
refusal_number PastLastCount = 9
refusal_number WrongLength = 10
refusal_number WordOutsideSize = 11
refusal_number NotSound = 12

-- the number of a refusal, 0 for none
abbrev pub report : {A : Type 0} → Result A Refusal → ℕ
report (Ok v) = 0
report (Err r) = refusal_number r

-- 0 is no refusal's number
pub some_number : (r : Refusal) → refusal_number r ≢ 0
some_number WrongShape q = omega arith
some_number OutsideSize q = omega arith
some_number OutOfOrder q = omega arith
some_number RuleBroken q = omega arith
some_number NobodyRuns q = omega arith
some_number NoSuch q = omega arith
some_number NotAllowed q = omega arith
some_number WrongState q = omega arith
some_number PastLastCount q = omega arith
some_number WrongLength q = omega arith
some_number WordOutsideSize q = omega arith
some_number NotSound q = omega arith

-- a refusal that is handed on is the refusal that was met
pub handed_on : {A : Type 0} (r : Result A Refusal) (e : Refusal) → IsErrAnd r (λ x. x ≡ e) → r ≡ Err e
handed_on r e h = let p = err_from_is_err_and r h in p.1 ∙ ap Err p.2
