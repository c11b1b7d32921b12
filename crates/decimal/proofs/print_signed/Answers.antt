-- `decimal::print_signed` meets its contract. Assumes nothing.
use Rattle.std.proofs.Common.{rules}
use Rattle.text.proofs.Laws.{then}
use Rattle.arith.proofs.Whole.{cast_back}
use Rattle.decimal.proofs.Signs.{minus, no_minus}
use Rattle.decimal.proofs.print_signed.Goals as goal

pub returns-then-n-lt0 : goal.returns-then-n-lt0
returns-then-n-lt0 c =
    let e = minus c.args.n (rw (cast_back _ c.ranges.n) at c.if-n-lt0.true) in
    let size = rw (cast_back _ c.ranges.n) at c.unsigned_abs.ensures.value in
    rw (e, ← size) (then _ _ (search rules) c.byte-digits.ensures c.print_unsigned.ensures)

pub returns : goal.returns
returns c =
    let e = no_minus c.args.n (rw (cast_back _ c.ranges.n) at c.if-n-lt0.false) in
    let size = rw (cast_back _ c.ranges.n) at c.unsigned_abs-2.ensures.value in
    rw (e, ← size) c.print_unsigned-2.ensures
