-- `arith::sum_i32` meets its contract. Assumes nothing.
use mir.Syntax.{w32}
use mir.ValLaws.{to_z-of_z}
use Rattle.arith.proofs.Whole.{some_i32}
use Rattle.arith.proofs.sum_i32.Goals as goal

pub returns : goal.returns
returns c = some_i32 _ _ (rw (to_z-of_z w32 _ c.ranges.a, to_z-of_z w32 _ c.ranges.b) at c.checked_add.ensures)
