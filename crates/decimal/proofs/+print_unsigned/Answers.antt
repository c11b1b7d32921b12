-- `decimal::print_unsigned` meets its contract.
use borrow.Author.Rules.{rules}
use Rattle.text.proofs.Laws.{then}
use Rattle.decimal.proofs.LastDigit.{one_digit, more_digits}
use Rattle.decimal.proofs.+print_unsigned.Goals as goal

pub returns-then-n-lt10 : goal.returns-then-n-lt10
returns-then-n-lt10 t c = rw (one_digit _ c.if-n-lt10.true) c.byte.ensures

pub returns : goal.returns
returns t c =
    rw (more_digits _ c.if-n-lt10.false) (then _ _ (search rules) c.print_unsigned-last.ensures c.byte-2.ensures)
