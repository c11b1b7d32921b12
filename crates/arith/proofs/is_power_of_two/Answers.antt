-- `arith::is_power_of_two` meets its contract: a power of two has one bit set. Assumes nothing.
use native.Mathlib.Omega.{arith}
use mathlib.Core.Path.{◌∙◌}
use Rattle.arith.proofs.Ones.{one_bit}
use Rattle.arith.proofs.is_power_of_two.Goals as goal

pub returns : goal.returns
returns c = c.is_power_of_two.ensures ∙ one_bit c.args.n (omega (arith, c.ranges.n.fits))
