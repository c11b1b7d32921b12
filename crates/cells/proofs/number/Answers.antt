-- `cells::number` meets its contract: the comma, then the digits. Assumes nothing.
use Rattle.cells.proofs.Laws.{begun}
use Rattle.cells.proofs.number.Goals as goal

pub returns : goal.returns
returns c = begun c.well_formed.0.0 c.byte-digits.ensures c.print_unsigned.ensures
