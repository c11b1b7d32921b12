-- `printing::layouts::head` meets its contract: one field behind the other. Assumes nothing.
use Rattle.cells.proofs.Laws.{begun, fields}
use Rattle.printing.proofs.layouts.head.Goals as goal

pub returns : goal.returns
returns c = let small = c.well_formed.0.0 in fields small _ _ (begun small c.byte-a.ensures c.bytes-b.ensures) c.number.ensures
