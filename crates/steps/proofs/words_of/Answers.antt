-- `steps::words_of` meets its contract: the variant picks the kind. Assumes nothing.
use Rattle.std.proofs.Common.{rules}
use mir.Syntax.{w32}
use mir.ValLaws.{to_z-of_z}
use Rattle.steps.specs.Words.{encode}
use Rattle.steps.proofs.Signs.{as_word}
use Rattle.steps.proofs.words_of.Goals as goal

pub returns-in-HandleArrayIndex : goal.returns-in-HandleArrayIndex
unfolding encode
returns-in-HandleArrayIndex c = rw c.in-HandleArrayIndex.is c.with_index.ensures

pub returns-in-BufferData : goal.returns-in-BufferData
unfolding encode
returns-in-BufferData c = let d = c.default.ensures in rw (c.in-BufferData.is, d.1.0, d.1.1.0, d.1.1.1.0, d.1.1.1.1)

pub returns-in-Offset : goal.returns-in-Offset
unfolding encode
returns-in-Offset c =
    let d = c.default-in-Offset.ensures in
    rw (c.in-Offset.is, d.1.1.0, d.1.1.1.0, d.1.1.1.1, c.cast_unsigned.ensures, to_z-of_z w32 c.in-Offset.z (search rules), as_word)

pub returns-in-DynOffset : goal.returns-in-DynOffset
unfolding encode
returns-in-DynOffset c = rw c.in-DynOffset.is c.with_index-in-DynOffset.ensures
