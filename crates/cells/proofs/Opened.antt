-- All that a theorem by computation unfolds of this crate and those below it, under one name. Made by tools/opened.
use Rattle.arith.proofs.Opened as of-arith
use Rattle.text.proofs.Opened as of-text
use Rattle.decimal.proofs.Opened as of-decimal
use Rattle.spirv.proofs.Opened as of-spirv
use Rattle.shapes.proofs.Opened as of-shapes
use Rattle.lower.proofs.Opened as of-lower
use Rattle.answers.proofs.Opened as of-answers
use Rattle.steps.proofs.Opened as of_steps
use Rattle.cells.specs.Behind as behind

unfoldable pub opened : Unit {0}
unfolding of-arith.opened of-text.opened of-decimal.opened of-spirv.opened of-shapes.opened of-lower.opened of-answers.opened of_steps.opened behind.behind
opened = tt
