-- `arith::sum` meets its contract. Assumes nothing.
use mathlib.Core.Path.{◌∙◌}
use Rattle.arith.proofs.Fitting.{fit_or}
use Rattle.arith.proofs.sum.Goals as goal

pub returns : goal.returns
returns c = c.ok_or.ensures.value ∙ fit_or _ _ c.checked_add.ensures
