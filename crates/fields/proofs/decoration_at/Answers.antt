-- `fields::decoration_at` meets its contract where the line has one field more. Assumes nothing.
use Rattle.fields.proofs.Took.{both_one}
use Rattle.fields.proofs.decoration_at.Goals as goal

pub returns-in_err-f : goal.returns-in_err-f
returns-in_err-f c = rw c.from_residual-in_err-f.ensures (both_one c.in_ok-number.ensures c.in_err-f.ensures)
