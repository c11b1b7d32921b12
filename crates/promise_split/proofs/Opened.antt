-- All that a theorem by computation unfolds of this crate and those below it, under one name. Made by tools/opened.
use Rattle.arith.proofs.Opened as of-arith
use Rattle.decimal.proofs.Opened as of-decimal
use Rattle.spirv.proofs.Opened as of-spirv
use Rattle.shapes.proofs.Opened as of-shapes
use Rattle.sheet.proofs.Opened as of_sheet
use Rattle.layout.proofs.Opened as of-layout
use Rattle.lower.proofs.Opened as of-lower
use Rattle.answers.proofs.Opened as of-answers
use Rattle.promise.proofs.Opened as of-promise
use Rattle.promise_split.specs.Parts as parts

unfoldable pub opened : Unit {0}
unfolding of-arith.opened of-decimal.opened of-spirv.opened of-shapes.opened of_sheet.opened of-layout.opened of-lower.opened of-answers.opened of-promise.opened parts.lower_from_type
opened = tt
