-- `cells::first_steps` meets its contract. Assumes nothing.
use Rattle.std.proofs.Common.{rules}
use Rattle.cells.proofs.Laws.{no_steps, one_step_more}
use Rattle.text.proofs.Laws.{none}
use Rattle.cells.proofs.first_steps.Goals as goal

pub loop-j-init : goal.loop-j-init
loop-j-init c = rw no_steps (none _ _ (search rules))

pub loop-j-preserved : goal.loop-j-preserved
loop-j-preserved c = one_step_more _ _ _ _ _ _ (search rules) c.loop-j.invariant (rw c.at.ensures at c.step-p.ensures)
