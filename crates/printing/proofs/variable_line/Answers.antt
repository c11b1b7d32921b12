-- `printing::variable_line` meets its contract: the letter, three numbers, LF. Assumes nothing.
use Rattle.cells.proofs.Laws.{fields, line}
use Rattle.printing.proofs.variable_line.Goals as goal

pub returns : goal.returns
returns c =
    rw c.in-Some.is
    (line c.well_formed.0.0 _ c.byte-a.ensures (λ h. fields h _ _ (fields h _ _ c.number-b.ensures c.number-c.ensures) c.number-d.ensures) c.byte.ensures)
