-- `cells::numbers` meets its contract. Assumes nothing.
use Rattle.std.proofs.Common.{rules}
use Rattle.cells.proofs.Laws.{no_fields, one_more}
use Rattle.text.proofs.Laws.{none}
use Rattle.cells.proofs.numbers.Goals as goal

pub loop-n-init : goal.loop-n-init
loop-n-init c = rw no_fields (none _ _ (search rules))

pub loop-n-preserved : goal.loop-n-preserved
loop-n-preserved c = one_more _ _ (search rules) c.loop-n-test.true c.loop-n.invariant c.number-p.ensures
