-- All that a theorem by computation unfolds of this crate and those below it, under one name. Made by tools/opened.
use Rattle.arith.proofs.Opened as of-arith
use Rattle.decimal.proofs.Opened as of-decimal
use Rattle.spirv.proofs.Opened as of-spirv
use Rattle.shapes.proofs.Opened as of-shapes
use Rattle.sheet.proofs.Opened as of_sheet
use Rattle.layout.proofs.Opened as of-layout
use Rattle.lower.proofs.Opened as of-lower
use Rattle.answers.specs.Lines as lines
use Rattle.answers.specs.Output as output

unfoldable pub opened : Unit {0}
unfolding of-arith.opened of-decimal.opened of-spirv.opened of-shapes.opened of_sheet.opened of-layout.opened of-lower.opened lines.layout_line lines.answer_by output.printed output.lines_by output.lay_output
opened = tt
