-- `fields::line_at` meets its contract.
use Rattle.fields.proofs.Lines.{a_line}
use Rattle.fields.proofs.line_at.Goals as goal

pub returns : goal.returns
returns c = a_line _ _ _ _ c.in_ok-rest.ensures.lookup.0.2 c.in_ok-n.ensures
