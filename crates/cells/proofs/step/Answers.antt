-- `cells::step` meets its contract: the variant picks the fields. Assumes nothing.
use Rattle.cells.proofs.Laws.{field, fields}
use Rattle.std.proofs.Common.{rules}
use mir.Syntax.{w32}
use mir.ValLaws.{to_z-of_z}
use Rattle.cells.proofs.step.Goals as goal

pub returns-in-HandleArrayIndex : goal.returns-in-HandleArrayIndex
returns-in-HandleArrayIndex c = rw c.in-HandleArrayIndex.is (fields c.well_formed.0.0 _ _ (field c.bytes-a.ensures) c.index.ensures)

pub returns-in-BufferData : goal.returns-in-BufferData
returns-in-BufferData c = rw c.in-BufferData.is (field c.bytes.ensures)

pub returns-in-Offset : goal.returns-in-Offset
returns-in-Offset c =
    let bytes-are = rw (to_z-of_z w32 c.in-Offset.bytes (search rules)) at c.signed.ensures in
    rw c.in-Offset.is (fields c.well_formed.0.0 _ _ (field c.bytes-a-in-Offset.ensures) bytes-are)
