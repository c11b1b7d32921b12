-- `printing::components_line` meets its contract: the letter, the numbers, LF. Assumes nothing.
use Rattle.cells.proofs.Laws.{line}
use Rattle.printing.proofs.components_line.Goals as goal

pub returns : goal.returns
returns c = line c.well_formed.0.0 _ c.byte-a.ensures (λ h. c.numbers-b.ensures) c.byte.ensures
