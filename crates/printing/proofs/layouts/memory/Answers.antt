-- `printing::layouts::memory` meets its contract: one field behind the other. Assumes nothing.
use Rattle.cells.proofs.Laws.{fields}
use Rattle.printing.proofs.layouts.memory.Goals as goal

pub returns : goal.returns
returns c =
    let small = c.well_formed.0.0 in
    fields small _ _ (fields small _ _ (fields small _ _ (fields small _ _ c.number-a.ensures c.number-b.ensures) c.number-c.ensures) c.number-d.ensures) c.parts.ensures
