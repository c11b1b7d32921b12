-- `asked::find_components` meets its contract. Assumes nothing.
use Rattle.asked.proofs.Laws.{looked, found_here}
use Rattle.asked.proofs.find_components.Goals as goal

pub returns : goal.returns
returns c = looked _ _ (rw (found_here c.tables_in.ensures c.args.ty c.args.start c.args.end) at c.find_components_containing.ensures)
