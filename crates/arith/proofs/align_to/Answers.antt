-- `arith::align_to` meets its contract: the library rounds up as the definition does. Assumes nothing.
use native.Mathlib.Omega.{arith}
use mathlib.Core.Path.{◌∙◌}
use Rattle.arith.specs.Numbers.{round_up}
use Rattle.arith.proofs.Fitting.{fit_fits, fit_or, met, round_zero}
use Rattle.arith.proofs.align_to.Goals as goal

pub returns-then-align-eq0 : goal.returns-then-align-eq0
returns-then-align-eq0 c = rw (c.if-align-eq0.true, round_zero) (fit_fits (omega arith))

pub returns : goal.returns
unfolding round_up
returns c = c.ok_or.ensures.value ∙ fit_or _ _ (met _ _ _ _ (omega arith) c.checked_next_multiple_of.ensures)
