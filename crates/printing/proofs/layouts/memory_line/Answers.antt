-- `printing::layouts::memory_line` meets its contract: the letter, the fields, LF. Assumes nothing.
use Rattle.cells.proofs.Laws.{fields, line}
use Rattle.printing.proofs.layouts.memory_line.Goals as goal

pub returns : goal.returns
returns c = line c.well_formed.0.0 _ c.byte-a.ensures (λ h. fields h _ _ c.head-b.ensures c.memory-c.ensures) c.byte.ensures
