-- `decimal::more` meets its contract. Assumes nothing.
use Rattle.std.proofs.Common.{arith}
use Rattle.std.proofs.lemmas.Grind.{common_steps}
use Rattle.std.proofs.lemmas.Bool.Decides.{nat_tests}
use Rattle.decimal.specs.Reading.{with_digit}
use Rattle.decimal.proofs.more.Goals as goal

pub returns-then-not-is_ascii_digit : goal.returns-then-not-is_ascii_digit
unfolding with_digit
returns-then-not-is_ascii_digit c = grind (arith, common_steps, nat_tests)

pub returns-in_err-checked_mul : goal.returns-in_err-checked_mul
unfolding with_digit
returns-in_err-checked_mul c = grind (arith, common_steps, nat_tests)

pub returns : goal.returns
unfolding with_digit
returns c = grind (arith, common_steps, nat_tests)
