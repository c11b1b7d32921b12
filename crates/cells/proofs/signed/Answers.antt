-- `cells::signed` meets its contract: the comma, then the number. Assumes nothing.
use Rattle.arith.proofs.Whole.{cast_back}
use Rattle.cells.proofs.Laws.{begun}
use Rattle.cells.proofs.signed.Goals as goal

pub returns : goal.returns
returns c = begun c.well_formed.0.0 c.byte-number.ensures (rw (cast_back _ c.ranges.z) at c.print_signed.ensures)
