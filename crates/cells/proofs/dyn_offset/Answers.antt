-- `cells::dyn_offset` meets its contract: one field behind the other. Assumes nothing.
use Rattle.cells.proofs.Laws.{field, fields}
use Rattle.cells.proofs.dyn_offset.Goals as goal

pub returns : goal.returns
returns c =
    let small = c.well_formed.0.0 in
    fields small _ _ (fields small _ _ (fields small _ _ (field c.bytes-a.ensures) c.number-b.ensures) c.number-c.ensures) c.index.ensures
