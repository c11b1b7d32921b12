-- `decimal::print_unsigned`: the measure is the number, of which the call prints all digits but the last.
use Rattle.decimal.proofs.+print_unsigned.Given as goal

abbrev pub decreases-print_unsigned : goal.decreases-print_unsigned
decreases-print_unsigned l = l.n
