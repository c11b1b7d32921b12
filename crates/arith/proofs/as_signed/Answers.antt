-- `arith::as_signed` meets its contract: from 2147483648 on a word is 4294967296 less than it reads unsigned. Assumes nothing.
use mathlib.Core.Path.{◌∙◌}
use mir.Syntax.{w32}
use mir.ValLaws.{to_z-of_z, to_z-Fits}
use Rattle.arith.proofs.Whole.{read_signed}
use Rattle.arith.proofs.as_signed.Goals as goal

pub returns : goal.returns
returns c = rw c.cast_signed.ensures (to_z-of_z w32 _ (to_z-Fits w32 c.args.w c.ranges.w) ∙ read_signed c.args.w)
