-- `printing::layouts::parts` meets its contract: the variant picks the fields. Assumes nothing.
use Rattle.cells.proofs.Laws.{no_fields}
use Rattle.text.proofs.Laws.{none}
use borrow.Author.Rules.{rules}
use Rattle.printing.proofs.layouts.parts.Goals as goal

pub returns-in-Scalar : goal.returns-in-Scalar
returns-in-Scalar c = rw (c.in-Scalar.is, no_fields) (none _ _ (search rules))
