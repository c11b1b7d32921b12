-- `printing::layouts::opaque_line` meets its contract: the letter, the fields, LF. Assumes nothing.
use Rattle.cells.proofs.Laws.{fields, line, zeros}
use Rattle.printing.proofs.layouts.opaque_line.Goals as goal

pub returns : goal.returns
returns c = line c.well_formed.0.0 _ c.byte-a.ensures (λ h. fields h _ _ c.head-b.ensures (zeros c.bytes-c.ensures)) c.byte.ensures
