-- `asking::hand` meets its contract.
use Rattle.std.proofs.Common.{arith}
use Rattle.asking.proofs.Onward.{handed}
use Rattle.asking.proofs.hand.Goals as goal

pub returns : goal.returns
returns c = handed _ _ _ _ (omega (arith, c.count_of.ensures)) c.put_indices.ensures
