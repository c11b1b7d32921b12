-- `cells::index` meets its contract: the variant picks the text. Assumes nothing.
use Rattle.cells.proofs.Laws.{begun}
use Rattle.cells.proofs.index.Goals as goal

pub returns-in-Unknown : goal.returns-in-Unknown
returns-in-Unknown c = rw c.in-Unknown.is (begun c.well_formed.0.0 c.bytes-digits.ensures c.print_unsigned.ensures)
