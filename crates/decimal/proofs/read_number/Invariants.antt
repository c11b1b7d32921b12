-- `decimal::read_number`. The loop's invariant: the digits that are left, behind the number so far, read as the whole.
use Rattle.std.proofs.Common.{◌≡◌, drop}
use Rattle.decimal.specs.Decimal.{read_number}
use Rattle.decimal.proofs.OneByOne.{with_digits}
use Rattle.decimal.proofs.read_number.Given as goal

abbrev pub invariant-loop-b : goal.invariant-loop-b
invariant-loop-b l = with_digits l.v (drop l.b-index l.f) ≡ read_number l.f
