-- What is left is read as the whole is.
use Rattle.std.proofs.Common.{◌≡◌, drop}
use Rattle.decimal.specs.Decimal.{read_on, unread}
use Rattle.decimal.proofs.number_in.Given as goal

abbrev pub invariant-loop-b : goal.invariant-loop-b
invariant-loop-b l = read_on l.m (drop l.b-index l.f) ≡ read_on unread l.f
